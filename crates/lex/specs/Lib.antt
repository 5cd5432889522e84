pub mod Tokens
pub mod Numbers
pub mod Written
pub mod Texts
