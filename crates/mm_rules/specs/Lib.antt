pub mod Texts
pub mod Parts
pub mod MatrixRows
pub mod TileRows
pub mod ContentsRows
pub mod ItemRows
pub mod SystemRows
pub mod ExtensionRows
