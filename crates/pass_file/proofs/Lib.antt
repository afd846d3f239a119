mod Chain
mod Judging
