pub mod Records
pub mod Lines
pub mod Taking
pub mod Layers
pub mod Replies
pub mod Session
pub mod Serving
