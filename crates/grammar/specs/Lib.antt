pub mod Groups
pub mod Labels
pub mod Words
pub mod Rests
pub mod Forms
pub mod Parts
pub mod Readings
pub mod Laws
