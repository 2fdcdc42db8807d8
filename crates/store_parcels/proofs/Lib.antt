mod Alike
mod Joined
mod Fronts
mod Sounds
mod Opens
mod Used
