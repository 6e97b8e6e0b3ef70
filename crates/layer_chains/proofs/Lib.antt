pub mod Membership
pub mod Planned
pub mod Shared
pub mod Coded
pub mod Counted
pub mod Shown
pub mod Telling
pub mod Joined
