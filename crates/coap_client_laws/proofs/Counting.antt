-- How many requests a call sends at most: one for each block, from the blocks of the longest body (Blocks) by how far
-- each request takes a transfer (BoundedTransfers, Bounds). More are sent only where a body is heard to go on beyond
-- the client's limit (Beyond).
pub mod AsksOnce
pub mod Beyond
pub mod Blocks
pub mod BoundedTransfers
pub mod Bounds
