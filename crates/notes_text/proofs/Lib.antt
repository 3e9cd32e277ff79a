mod Complete
mod Coordinates
mod PlainLine
