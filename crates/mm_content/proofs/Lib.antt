pub mod Refusing
pub mod Joining
pub mod Ends
pub mod Writing
pub mod Piecing
pub mod Giving
