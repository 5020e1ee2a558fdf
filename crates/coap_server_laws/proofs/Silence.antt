-- A server sends nothing to a peer of which it has nothing (StaysSilent): neither it (ServerApart), nor its exchanges
-- (ExchangesApart), nor its message layer (LayerApart). And it forgets one from which nothing comes (ForgetsTheSilent),
-- as its message layer does (LayerForgets).
pub mod ExchangesApart
pub mod ForgetsTheSilent
pub mod LayerApart
pub mod LayerForgets
pub mod ServerApart
pub mod StaysSilent
