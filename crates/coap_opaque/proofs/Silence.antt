-- A client sends nothing to a peer of which it has nothing, and forgets one from which nothing comes
-- (ClientStaysSilent): what it asks of its message layer is of no such peer (ClientAsks). What an end sends goes to a
-- peer that it heard (ToHeard).
pub mod ClientAsks
pub mod ClientStaysSilent
pub mod ToHeard
