-- What is given out in a smooth run is fed, and received, in time. The argument:
--
-- Each datagram to an end is delivered at most 1,000 ms after it was given out. It may be delivered more often, so the
-- first of these turns that is in time counts (FedInTime). What an end is fed its message layer receives at that moment
-- (Received). Where both ends tick each 1,000 ms, no event is further behind the one before (SmoothGaps).
pub mod FedInTime
pub mod SmoothGaps
pub mod Received
