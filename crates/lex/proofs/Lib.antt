pub mod First
pub mod Overs
pub mod Numbers
pub mod Texts
pub mod Spelling
pub mod Spaced
