mod Turns
mod Halves
mod InPlace
