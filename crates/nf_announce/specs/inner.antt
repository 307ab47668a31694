-- How the code works, no part of the meaning.
pub mod AnnouncementOrder
pub mod Cells
pub mod LineTexts
pub mod LineParts
pub mod RowTexts
