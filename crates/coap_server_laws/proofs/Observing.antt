-- The observers of a server. A registration is the latest of its endpoint and token (OneRegistration,
-- LatestRegistration), and stays until it is told to have ended, is cancelled, its path is gone (ObservationStays,
-- ObservationEnds, ResetsEnd), or its endpoint is forgotten (Elsewhere). A change marks its observers (ChangesMark),
-- and what is due stays due until it is told (MarksStay); to whom nothing is due was told last what the path holds
-- (UnmarkedAreCurrent). What is told under one registration follows on: versions rise, and each CON was acknowledged
-- before the next begins (ToldInOrder, VersionsRise, Flights). It goes in a NON where the trace says so (NoticesGoSo,
-- by EntriesKeepLast).
pub mod ChangesMark
pub mod ConsAreAcknowledged
pub mod CurrentLists
pub mod DatedMarks
pub mod Elsewhere
pub mod EndsObservation
pub mod EntriesKeepLast
pub mod EntrySteps
pub mod EntryTold
pub mod Flights
pub mod LastRegistered
pub mod LatestRegistration
pub mod LivesOn
pub mod MarksStay
pub mod NonsApart
pub mod NoticesGoSo
pub mod ObservationEnds
pub mod ObservationStays
pub mod ObserverSteps
pub mod OneRegistration
pub mod RejectedNons
pub mod ResetsEnd
pub mod ServedObservers
pub mod TellsBegin
pub mod ToldAt
pub mod ToldInOrder
pub mod UnmarkedAreCurrent
pub mod VersionsRise
pub mod YoungNons
