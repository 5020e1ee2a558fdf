mod Fresh
mod Seen
mod ViewedCalls
