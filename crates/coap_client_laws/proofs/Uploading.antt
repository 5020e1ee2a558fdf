-- Bodies that go in blocks (RFC 7959, section 2.5). A body is sent block by block, each after the answer to the one
-- before (Pieces, Continued). After an upload that ended without a final response no first block is sent until 100,000
-- ms after its last datagram (Causes, Holds). So where a block is sent, each block of another upload was answered, or
-- is quiet (BlocksApart).
pub mod BlocksApart
pub mod HoldSteps
pub mod Causes
pub mod Continued
pub mod FirstBlocks
pub mod Holds
pub mod SentSoFar
pub mod NextSent
pub mod AllSent
pub mod Pieces
pub mod TransferSteps
pub mod UploadSteps
pub mod UploadsHold
pub mod Fate
