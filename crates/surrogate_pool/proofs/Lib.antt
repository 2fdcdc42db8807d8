mod Trying
mod Turning
mod Pooling
mod Passing
