-- What is reported of a call of a smooth run, where each exchange ends by an answer and each request is sent. The
-- argument:
--
-- What is reported is the answer to the call's request that was sent last (ByAnswer). To a block of an upload the
-- server answers a 2.31 that fits it, an error, or the answer to the last block (NoneBad): so what a call that is no
-- GET reports is the code of a response that the server made to it (ChangesAnswered). To a GET whose path holds one
-- representation it answers the part that the request asks for (GetAnswered), and the client asks for part after part,
-- so it has the whole body (GetsHeld).
pub mod ByAnswer
pub mod NoneBad
pub mod ChangesAnswered
pub mod GetAnswered
pub mod GetsHeld
