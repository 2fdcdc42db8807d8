mod Ends
mod Piecing
mod Writing
