-- A request that is handed up is answered in that call, or waits, or is ignored (AttendedAtOnce). What waits goes on
-- waiting until a tick sends its response, or its endpoint is forgotten (WaitOn); the first that can go is sent
-- (FirstAnswered). A tick that does nothing leaves nothing that can go (NextBegun).
pub mod AttendedAtOnce
pub mod DelaysStay
pub mod FirstAnswered
pub mod HandedOn
pub mod LayerIsLed
pub mod NextBegun
pub mod NothingDone
pub mod RoomAsked
pub mod TickTurns
pub mod WaitOn
pub mod WhatCanGo
