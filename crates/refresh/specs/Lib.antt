pub mod Appended
pub mod Options
pub mod Runs
