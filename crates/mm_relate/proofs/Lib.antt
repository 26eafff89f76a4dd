pub mod Refusing
pub mod EndTexts
pub mod Fresh
