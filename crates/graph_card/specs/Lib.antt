pub mod Layout
pub mod Asking
pub mod Cards
pub mod Laws
pub mod Parts
