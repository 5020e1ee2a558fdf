-- The values of an observation rise (`values_rise`, in Facts/Observations/Rising). The argument:
--
-- While an observation is not cancelled, the server serves one request under its token: there is one registration
-- (Facts/Observations/OneRegistration), and what it tells later under that has the greater version (Following). It is
-- enough that what is taken was told after the newest that was taken before (Chain). Suppose that n is taken after b,
-- and was told earlier. By the way in which n was told:
-- * in a CON: what is told later began after its acknowledgement, so n was handed up before, and is not handed up
--   again (Acknowledged);
-- * in a NON: it comes at most 100,000 ms after it was sent, so after b by less than the 128 s of RFC 7641, section
--   3.4; and fewer than 2^23 changes lie between them, so by the rule of freshness it is not newer than b (NonsRise);
-- * in a reply: that is the answer to the registration, before which nothing is told (RepliesRegister).
pub mod RepliesRegister
pub mod NonsRise
pub mod HeldAreNamed
