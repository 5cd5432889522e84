pub mod Calls
pub mod Trees
pub mod Shown
pub mod Turns
pub mod Logs
