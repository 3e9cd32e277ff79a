mod Firsts
mod Known
mod Steps
mod Visible
