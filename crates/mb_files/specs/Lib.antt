pub mod Description
pub mod Files
