-- The server has the registration of an observation that goes on, or told in the last 1,000 ms that the path is gone.
-- The argument (AllThere), by what could have ended the registration (RFC 7641, sections 3.6 and 4.2):
--
-- * the client's cancel: it sends none (OfTheOne);
-- * a CON that is given up: each is acknowledged before (NeverFails, OpenYoung);
-- * a Reset of a CON, or of the last NON: the client rejects no notification of an observation that goes on, and not
--   the answer to its registration, since it hears or notes each (Rejected, SendsKnown); a Reset is the reply to that
--   very message, as its Message ID is given once in 400 s (ResetSays, ToldToken, NonReset, LastNon; ResetCases,
--   NoResetEndsIt);
-- * a notification that is no 2.05: it comes within 1,000 ms, and ends the observation at the client, too (EndsIt).
--
-- So it stays from where it was made on (IsMade, Stays).
pub mod Premises
pub mod OpenYoung
pub mod SendsKnown
pub mod ToldToken
pub mod RepliesFed
pub mod ResetSays
pub mod NonReset
pub mod Registered
pub mod FirstEntry
pub mod NonSent
pub mod NeverFails
pub mod Rejected
pub mod ResetCases
pub mod ResetLaws
pub mod LastNon
pub mod NoResetEndsIt
pub mod OneObservation
pub mod EndsIt
pub mod OfTheOne
pub mod IsMade
pub mod Stays
pub mod AllThere
