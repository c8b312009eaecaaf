pub mod Header
pub mod Lct
pub mod Written
pub mod Laws
