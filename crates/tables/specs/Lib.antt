pub mod Faults
pub mod Lists
pub mod Text
pub mod Modules
pub mod Sizes
pub mod Siblings
