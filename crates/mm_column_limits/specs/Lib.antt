pub mod LimitRows
pub mod LimitParts
pub mod PieceRows
pub mod EditionParts
pub mod EditionTexts
pub mod Longest
