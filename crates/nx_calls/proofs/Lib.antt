pub mod Judging
pub mod KindLists
pub mod TrueRows
pub mod OneTable
pub mod RecordByRecord
pub mod RecordCounts
pub mod Pieces
pub mod Spacing
