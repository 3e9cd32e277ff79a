mod Any
mod Range
mod Near
mod Gathered
