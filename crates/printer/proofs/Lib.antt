pub mod Adding
pub mod Answered
pub mod Bounds
pub mod Readable
pub mod Rows
