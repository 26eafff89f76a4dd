pub mod Lists
pub mod Page
pub mod Served
pub mod Promised
pub mod Heads
pub mod Asked
pub mod Routes
pub mod Responses
