pub mod Coming
pub mod Frames
pub mod Going
pub mod Inside
pub mod Talks
pub mod Window
