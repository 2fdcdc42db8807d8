mod Echoing
mod Limiting
mod Opening
mod Pacing
