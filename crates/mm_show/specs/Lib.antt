pub mod Records
pub mod Showing
pub mod Turns
