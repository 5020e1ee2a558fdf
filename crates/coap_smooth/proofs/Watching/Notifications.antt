-- Each notification is sent as it is made, and comes. The argument:
--
-- It goes out in the call that makes it, in a CON or a NON, at that call's moment (NoticeSent, AtItsMoment). Each
-- message of the server that has a Message ID arrives within 1,000 ms and is handed up as a response (NumberedComes,
-- ResponsesUp): so does each notification (NoticesCome). What is told later has a later version, and the newest that
-- was taken is known (ToldInOrder, Newest). A CON that the server begins for the client after the registration is such
-- a notification (ConTells).
pub mod ConTells
pub mod NoticeSent
pub mod NoticeTaken
pub mod NoticesCome
pub mod NoticesTell
pub mod NumberedComes
pub mod WhatIsNumbered
pub mod ResponsesUp
pub mod BehindSending
pub mod AtItsMoment
pub mod Newest
pub mod ToldInOrder
pub mod NobodyLeft
