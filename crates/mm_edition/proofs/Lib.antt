pub mod Lending
pub mod Turning
pub mod Attempting
pub mod Trials
pub mod Tries
pub mod Rehearsed
