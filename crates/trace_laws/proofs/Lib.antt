pub mod Moments
pub mod Events
pub mod Queues
pub mod Texts
pub mod Whole
