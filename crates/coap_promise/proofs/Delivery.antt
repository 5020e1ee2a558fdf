-- What the datagrams of a run are. The argument:
--
-- The record of a run has the calls of both ends in one order. Each call of an end makes calls of its message layer
-- (`hops_law`, near and far), so the layers' calls stand in one order, too: these are the hops. An end's address is
-- its own, so what comes from there was given out by that end, in an earlier turn, at most 100,000 ms before
-- (Facts/Delivery/GivenOutBefore, with the premise of lateness). And what is given out was sent by the layer in that
-- very turn, since a turn takes all that is out (Facts/Delivery/SentByTheLayer). So the hops stand in the law of two
-- layers and the datagrams between them, both ways (Facts/Delivery/HopsAreAChannel), and whatever coap_layer proves
-- of two layers holds of the run.
pub mod ReportsAreTaken
pub mod ResponsesInTime
