mod InTurn
mod Placed
