-- Where a call is. It waits, runs or has its last report, which it has once (Answered, ReportedOnce); an observation
-- may live, too (LiveOrGone). Numbers are given one by one (Numbers), and reports are given in the order in which they
-- are made (Gives, GivesAll).
pub mod Answered
pub mod Gives
pub mod GivesAll
pub mod LiveOrGone
pub mod Numbers
pub mod ReportedOnce
