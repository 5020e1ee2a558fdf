-- A server comes to rest: the ticks of one moment end, and so does what is out.
pub mod Resting
