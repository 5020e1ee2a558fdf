mod Keeping
mod ServerWords
mod Writing
