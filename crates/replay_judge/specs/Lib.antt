pub mod Agreement
pub mod Judgement
pub mod Laws
pub mod Inside
