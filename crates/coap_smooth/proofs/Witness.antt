-- Runs with their bytes: smooth ones, at the bounds of what is promised, and ones that are not smooth and in which it
-- fails. How each is shown: its calls and turns stand in the laws of both ends (Client and Server of its folder), its
-- events are legal, and SmoothTests computes whether it is smooth.
pub mod SmoothTurns
pub mod DefersLate
pub mod DefersLongest
pub mod DefersByDue
pub mod ObservedAlone
pub mod ShowsLate
pub mod StaysOld
pub mod ShowsPlain
pub mod PutsInBlocks
pub mod SmoothTests
pub mod Unanswered
