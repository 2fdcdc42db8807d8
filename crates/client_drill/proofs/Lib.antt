mod Commands
mod Completing
mod Counting
mod Fating
mod Reading
mod Tallying
mod Telling
mod Working
