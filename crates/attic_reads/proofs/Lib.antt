mod Cut
mod Last
mod Full
mod Held
mod Walked
mod Near
mod OnMap
