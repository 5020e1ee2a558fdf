-- From a report back to the server: whose response it is that is reported. The argument:
--
-- A report is of a message that the client heard with the token of a request of that very call. Its message layer
-- handed it up as the server sent it (HeardWasSent). The server sends under a token what it made for the request of
-- that token: a reply of the store, a 2.31, a refusal, or what a notification shows (Facts/Reports/Answered). By
-- Requests that request is the call's. So between call and report the server served it with this reply.
-- * A 2.05 shows what the path held then. Parts of one entity-tag are pieces of one body, and whole for one body
--   alone (PartsOfOne), so a body in blocks was held whole (BodiesHeld). A 2.03 names a version that was held
--   (ValidHeld).
-- * A success code comes only of a request that was applied (Facts/Reports/OnceDone), a failure code only of one that
--   was not (EachFailed). The failure that is reported came to the call's last request, or to a block after which the
--   call sends no other (LastAnswered): so no request of the call is applied, before or after
--   (Facts/Reports/NeverFailed).
pub mod MoreBit
pub mod ResponseRead
pub mod BodiesShort
pub mod ServedValid
pub mod PartsOfOne
pub mod BodiesHeld
pub mod NoneBeyond
pub mod TagsOwn
pub mod ValidShown
pub mod ValidHeld
pub mod Noticed
pub mod ValuesHeld
pub mod Codes
pub mod FailureCodes
pub mod EachFailed
pub mod LastAnswered
pub mod AppliedRequest
pub mod Promised
pub mod HeardWasSent
