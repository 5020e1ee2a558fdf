-- The answer to a request that waits comes, and ends its exchange. The argument, where nothing is observed:
--
-- Each CON of the server carries a response to what it answers in that very call (ConsAnswer, AnswerMade), so one that
-- begins while an exchange is open carries the answer to that (ConsOfOpen). After the delay a tick begins such a CON,
-- or one is outstanding (AnswerBegins). It comes to the client within 1,000 ms and ends the exchange that is open
-- (SeparateEnds): no answer to it was taken before (AnswerEnds). So each exchange is young (Young), and each that is
-- young ends by an answer (ByAnswers).
pub mod AnswerBegins
pub mod AnswerEnds
pub mod AnswerMade
pub mod AnswerTaken
pub mod OneAnswer
pub mod OneReply
pub mod OnlyResponses
pub mod OpenTo
pub mod SeparateEnds
pub mod Confirms
pub mod ConsAnswer
pub mod ConsCarry
pub mod ConsOfOpen
pub mod HeardOrOpen
pub mod ExchangeOpen
pub mod ByAnswers
pub mod EndsByTime
pub mod NoReset
pub mod NoTimeout
pub mod Young
pub mod YoungCalls
