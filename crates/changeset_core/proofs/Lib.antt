mod Boxes
mod Runs
mod WidenBy
