pub mod Turnrounds
