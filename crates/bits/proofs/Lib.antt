pub mod Determining
pub mod Packing
pub mod Setting
pub mod Placing
pub mod Reading
pub mod Straying
pub mod Filling
