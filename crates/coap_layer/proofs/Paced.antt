-- What two layers do together, each by its own clock.
pub mod Gaps
pub mod Facts
pub mod WhatArrivesWasSent
pub mod TakenOnce
pub mod GoneIsNotBehind
pub mod AcksAreReplies
pub mod RepliedOnce
pub mod ResetsAreReplies
pub mod AtAnyTime
pub mod AtOneClock
