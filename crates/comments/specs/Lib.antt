pub mod Notes
pub mod Records
pub mod Tables
pub mod Laws
