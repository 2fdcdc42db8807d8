mod Framing
mod Moving
mod Pieces
mod Sending
mod Staying
mod Turns
