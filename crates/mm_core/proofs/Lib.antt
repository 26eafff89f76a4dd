pub mod Adopting
pub mod Creating
pub mod Turns
mod Trying
pub mod Applies
mod Ready
pub mod Opened
pub mod Failing
