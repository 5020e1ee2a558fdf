-- At any time: what needs no bound of lateness and no pace of the clocks. The argument:
--
-- The token of a response, and not the moment of its datagram, says whose it is: a client never uses a token twice,
-- and a server answers a request under that request's token. So from a report the way leads back to a request of that
-- very call, however late each datagram was. The lemmas are those of Facts/Requests and Facts/Reports, over the law
-- of hops that come at any time (`FairLaw`) in the place of that of a channel.
pub mod Requests
pub mod Reports
