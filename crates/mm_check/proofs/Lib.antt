pub mod Verdicts
pub mod Queries
pub mod Rules
pub mod Checks
pub mod Reading
pub mod Known
pub mod Wholly
