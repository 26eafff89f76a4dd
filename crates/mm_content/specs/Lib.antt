pub mod Staged
pub mod Mapped
