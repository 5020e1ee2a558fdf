-- A Message ID was free for the server, whatever is observed. The argument:
--
-- Each Message ID that it gave more than 1,000 ms ago was that of a message which came to the client
-- (Notifications/NumberedComes), where fewer come than the client remembers. So in ID_REUSE_AFTER_MS it gave no more
-- than come in two lifetimes (CountedById, by the count of NoMore). Where it sends few notifications to strangers, too,
-- a group of Message IDs has one left (HadIds; RFC 7252, section 4.4).
pub mod CountedById
pub mod HadIds
pub mod NoMore
