-- A history of a server goes on with each call: whatever it is handed there is a lawful answer (GoesOn). The store
-- answers each question (StoreReplies), each response can be written (ResponsesSpelled), and the exchanges beneath go
-- on, too (ExchangesGo).
pub mod AnswererComing
pub mod AnswererGoing
pub mod AnswererTiming
pub mod ExchangesGo
pub mod GoesOn
pub mod RefusalsSpelled
pub mod RequestsKept
pub mod ResponsesSpelled
pub mod StoreCountsPaths
pub mod StoreReplies
pub mod TokensShort
