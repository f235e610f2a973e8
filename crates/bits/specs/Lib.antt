pub mod Fields
pub mod Laws
pub mod Reading
pub mod Trailing
pub mod Writing
pub mod Bytes
