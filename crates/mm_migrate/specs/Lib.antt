pub mod Migrations
pub mod Texts
pub mod Moves
pub mod Handed
