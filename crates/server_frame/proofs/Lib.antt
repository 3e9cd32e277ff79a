mod Exits
mod OnLink
