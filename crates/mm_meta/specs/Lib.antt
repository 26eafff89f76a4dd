pub mod Opening
pub mod Look
pub mod Handed
pub mod Shown
