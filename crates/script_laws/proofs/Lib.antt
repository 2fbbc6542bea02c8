pub mod Lines
pub mod Fields
pub mod Forms
pub mod Texts
pub mod Taken
pub mod RoundTrip
