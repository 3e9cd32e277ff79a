mod Digits
mod Numbered
mod Decimals
mod Told
mod Replayed
mod Vectors
