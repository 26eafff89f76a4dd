pub mod Found
pub mod Stops
pub mod Recovered
pub mod Made
pub mod Ran
pub mod Lived
