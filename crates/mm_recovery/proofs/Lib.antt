pub mod Crashed
pub mod Stopping
pub mod Recovering
pub mod Blank
pub mod MadeAgain
pub mod Closed
pub mod Ran
pub mod Lived
