-- Each call of a smooth run in which nothing is observed is reported. The argument:
--
-- A call that was taken waits behind few others, or runs, or is reported (InTurn), and Leaves says what each call of
-- the client changes in that. While it is not reported and no exchange is open, the client has something to do: no
-- upload is held back, as each exchange ends by a final response (NeverRests, NoBlockIsBad). So after a tick of the
-- client an exchange is open (TickOpens). Each is young and ends by an answer, so in each D + 3,999 ms a request goes
-- out, and each that is no further block is the first of another call (Since). As many as wait before it, and one for
-- itself, are enough (EachReported).
pub mod Leaves
pub mod NoBlockIsBad
pub mod InTurn
pub mod OpenNow
pub mod TickOpens
pub mod NeverRests
pub mod TakenBy
pub mod Since
pub mod EachReported
