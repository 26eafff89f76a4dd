pub mod Moves
pub mod Views
pub mod Entries
pub mod Handed
