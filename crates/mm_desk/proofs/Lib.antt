pub mod Answering
mod DemandFacts
mod FieldFacts
pub mod Leaving
mod OneDemand
pub mod Sitting
pub mod RowPaths
pub mod Showing
pub mod Told
