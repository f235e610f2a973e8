pub mod Below
pub mod Asked
pub mod Keeping
pub mod Stopping
pub mod Ruling
pub mod Same
pub mod Gathered
