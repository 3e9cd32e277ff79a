mod Again
mod AgainParts
mod Loops
mod Puts
mod Rising
mod Tests
