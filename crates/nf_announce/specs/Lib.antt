pub mod Announcements
pub mod Printed
pub mod Reading
pub mod inner
