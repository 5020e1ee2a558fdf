pub mod SendChain
pub mod SocketLeft
