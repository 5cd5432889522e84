pub mod Stacked
pub mod Rounds
pub mod Logged
