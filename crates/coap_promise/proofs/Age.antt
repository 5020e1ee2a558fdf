-- What a client reports is not old. The argument:
--
-- By Reports the server made what is reported for a request of the call. The last copy of that request comes at most
-- 147,000 ms after the request began. A copy gets the stored reply, which the server made after that, too. The reply
-- comes at most 100,000 ms later (HeardYoung): 247,000 ms in all, by one clock. By two the client's clock gains at
-- most 5,000 ms on the server's meanwhile. What comes in a message of the server's own is younger: 147,000 ms in a
-- CON, 100,000 ms in a NON. So at some event at which the client's clock showed at most 252,000 ms less the server
-- held it (ReportsYoung, InTurns). And none is older than the request that it answers (Behind): the server made it
-- after the client sent that.
pub mod Young
pub mod HeardYoung
pub mod ReportsYoung
pub mod InTurns
pub mod Behind
