pub mod OneSpelling
pub mod RefusedHasNone
pub mod OneWriteAfterAnother
pub mod WhatIsWritten
pub mod BoundedLength
pub mod ItsOwnBytes
pub mod InBytes
pub mod IsSpelled
