-- What a call makes of the client: a datagram or time moves it, and then the request that is asked for is sent, or
-- can't be (Turns). The others say what becomes of what waits and of what runs (AllWaiting, LeftRunning, Fates), and
-- where that came from (Origins).
pub mod AllWaiting
pub mod BlockByBlock
pub mod Fates
pub mod LeftRunning
pub mod Origins
pub mod Turns
