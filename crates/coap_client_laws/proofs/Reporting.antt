-- What is reported of an answer, and of the end of an exchange. The table of reports is read line by line (TableLines,
-- ByTable): what an answer comes to by its code (AnswerCodes, Codes, EachValid), a body that is whole by its parts
-- (EachWhole, Bodies), and an exchange that ends without a response (Ends).
pub mod AnswerCodes
pub mod AnswerReports
pub mod FetchedParts
pub mod Bodies
pub mod ByAnswers
pub mod ByTable
pub mod CallsAlone
pub mod Codes
pub mod Dropped
pub mod EachValid
pub mod EachWhole
pub mod EffectReports
pub mod GivenNumbers
pub mod Ends
pub mod ExchangeEnds
pub mod LastParts
pub mod TableLines
pub mod Valid
