pub mod Order
pub mod Needles
pub mod Asking
pub mod Gap
pub mod Rows
pub mod Ascending
pub mod Standing
pub mod Offered
