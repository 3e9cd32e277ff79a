mod Kept
mod Told
mod Working
