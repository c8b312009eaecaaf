pub mod Name
pub mod Reference
pub mod Value
pub mod ValueStateView
pub mod CharactersView
pub mod NumberView
