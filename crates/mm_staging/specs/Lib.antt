pub mod Standings
pub mod Kept
pub mod Outlines
pub mod Places
pub mod States
pub mod Handed
pub mod Alone
