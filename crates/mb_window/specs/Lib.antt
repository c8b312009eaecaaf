pub mod Symbols
pub mod Assembled
pub mod Window
pub mod Buffer
pub mod Turn
pub mod Laws
