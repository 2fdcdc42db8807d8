pub mod Status
pub mod Pages
pub mod Numbers
pub mod Inside
