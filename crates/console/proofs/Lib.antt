pub mod Once
pub mod EmptyText
pub mod Turns
