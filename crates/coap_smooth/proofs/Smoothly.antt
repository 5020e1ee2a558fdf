-- What becomes of each datagram, request and response of a smooth run. The argument, where nothing is observed, for an
-- exchange that is open for more than 2,000 ms:
--
-- Its request came to the server and was taken within 1,000 ms (Arriving). It was not answered at once: that answer
-- would have come. So it waits, by at most the longest delay D (Requests/AtOnce). Less than 1,000 ms after that the
-- server ticks, or has nothing to do, and leaves nothing that can be answered, as a Message ID is free (Ticks,
-- MessageIds/IdsFree). A CON that is outstanding then carries this answer (Answers/ConsOfOpen), so the answer is under
-- way by D + 1,999 ms (AnswerBegins), and ends the exchange within 1,000 ms (SeparateEnds). So each exchange is young
-- (Answers/Young).
--
-- A young exchange ends by an answer (Answers/ByAnswers): NoResponse comes later (EndsByTime), no request is rejected
-- (NoReset), and none times out (NoTimeout). Both go along the events together: that each exchange was young so far
-- gives how each ended, and that gives the next.
pub mod Arriving
pub mod Requests
pub mod Answers
pub mod MessageIds
pub mod Ticks
