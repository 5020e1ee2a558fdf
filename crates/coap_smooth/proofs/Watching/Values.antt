-- The last value shows what the path holds. The argument:
--
-- What a path holds later is the same, or has a later version (HeldVersions), which is its sequence number. Where a
-- call of the server told what the path holds, that came, and was taken or not newer than what was, and nothing older
-- is taken after it (TakenThen). What is taken shows all that the path held, as that fits one block (ShownWhole,
-- AllShown). Where the path has been settled for 5,000 ms, such a call was early enough (Settled; Ticks/TickTells), so
-- the last value is what the path holds (LastIsCurrent).
pub mod AllShown
pub mod HeldVersions
pub mod Known
pub mod LastIsCurrent
pub mod Settled
pub mod ShownWhole
pub mod TakenThen
pub mod Unchanged
pub mod SmoothBefore
