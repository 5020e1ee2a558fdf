-- A fetch of a representation that does not change comes to its end, since each answer is the next part of that (RFC
-- 7959, section 2.4).
pub mod FetchUnchanged
pub mod StaysUnchanged
