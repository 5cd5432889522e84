pub mod Wanted
pub mod Sound
pub mod Complete
pub mod Endings
pub mod Runs
