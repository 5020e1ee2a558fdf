pub mod ChannelAcross
