mod Due
mod Ended
mod Endings
mod Finding
mod Kept
mod Logged
mod Pulled
mod Whole
