pub mod Turns
pub mod Quiet
pub mod Rehearsals
