-- Message IDs are free in a smooth run in which nothing is observed (RFC 7252, section 4.4). The argument:
--
-- The server gives one for each notification and for each answer in a message of its own. It sends few notifications
-- (FewBefore), or none, where there is no stranger; and few messages come to it. So one is free after each of its
-- events (IdsFree).
-- The client gives one for each request. In EXCHANGE_LIFETIME it hears at most one answer more than requests are handed
-- up at the server, since between two answers one is (FewHeard, HandedBetween). Few are, so each of its requests finds
-- one (Requests/AllSent).
pub mod FewBefore
pub mod IdsFree
pub mod FewHeard
pub mod HandedBetween
