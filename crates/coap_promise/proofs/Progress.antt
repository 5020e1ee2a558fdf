-- No datagram makes either end fault. The argument:
--
-- Each call of an end has an answer for every input, of whatever bytes, from whatever state its law allows: the laws
-- of the ends say so (`client_law` and `server_law`, which have a next step for each call). A turn is one call, or
-- ticks until nothing is due, and then all that is out is taken; both come to an end, since each tick takes work
-- away. So a record goes on with each event that may happen after it (EachEventHasATurn), at each of its positions
-- (EachPosition). An input that is refused memory leaves no call.
pub mod EachEventHasATurn
pub mod EachPosition
