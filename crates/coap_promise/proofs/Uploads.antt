-- A body that came in blocks is that of one call. The argument:
--
-- The server takes the last block Bn of call B, and has a whole body. Between the first block B0 and Bn, which blocks
-- of the same sender, path and method did it take? The client sent Bn after it heard the 2.31 to B0, so the server
-- took B0 before (HeardUp). Let a block of another call A lie between (Between):
-- * it began before B0: then it was answered, or its last datagram was over 100 s old, as B0 began; so it is not
--   handed up after B0;
-- * it began after Bn: the same, with Bn as the older one;
-- * it began between them: the client's calls take turns, so A is B (Orders).
--
-- So all blocks in between are pieces of B's body, chained from 0 to its end: the body is that of the call (WholeBody,
-- AppliedWhole). No block is counted, and how long the server keeps parts of a body plays no role.
pub mod Parts
pub mod HopLists
pub mod HeardUp
pub mod Orders
pub mod Between
pub mod WholeBody
pub mod AppliedWhole
