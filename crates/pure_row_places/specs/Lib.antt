pub mod Reasons
pub mod Lines
pub mod Scans
pub mod Texts
pub mod Headers
pub mod Cursors
