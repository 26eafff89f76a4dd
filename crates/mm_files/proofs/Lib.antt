pub mod Fresh
pub mod Kept
pub mod Nothing
pub mod Unbegun
