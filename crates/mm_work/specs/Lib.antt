pub mod Ran
pub mod Told
pub mod Looked
pub mod Pages
pub mod Declined
pub mod Migrated
pub mod Imports
pub mod Shown
