pub mod Limits
pub mod Rules
pub mod Graphs
pub mod Making
pub mod Laws
pub mod Alike
