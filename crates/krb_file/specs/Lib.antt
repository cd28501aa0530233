pub mod Flow
pub mod Cursor
pub mod Field
pub mod Pieces
pub mod Window
pub mod File
pub mod Hand
pub mod Inner
