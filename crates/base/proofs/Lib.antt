pub mod Adding
pub mod Asking
pub mod Digits
pub mod Lists
pub mod Members
pub mod MembersRoad
