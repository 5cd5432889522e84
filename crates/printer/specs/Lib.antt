pub mod Held
pub mod Writes
pub mod Output
pub mod Printing
pub mod Told
