pub mod LimitQueries
pub mod Texts
pub mod Columns
pub mod LimitRules
pub mod LimitParts
pub mod EditionQueries
pub mod Numbering
pub mod EditionRules
