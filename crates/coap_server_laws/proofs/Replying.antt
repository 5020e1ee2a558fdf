-- What a server sends beside Empty messages. It carries a response to a request that was handed up, or a notification
-- (ResponsesHaveRequests), and a reply is given at once, under the Message ID of what it answers (Replies). Its
-- critical options are recognised (AllRecognised), and a block that others follow is answered with 2.31 and a size that
-- fits, or with an error (BlocksContinued).
pub mod AllRecognised
pub mod AskedInEntries
pub mod BlocksContinued
pub mod GivenInOrder
pub mod LayerSendsResponses
pub mod NoneContinues
pub mod OptionsRecognised
pub mod RefusalsAreErrors
pub mod Replies
pub mod RepliesAtOnce
pub mod RepliesSo
pub mod ReplyBlocks
pub mod ResponsesHaveRequests
pub mod ResponsesRejected
pub mod Sourced
pub mod Sources
