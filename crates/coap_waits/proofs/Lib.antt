pub mod Facts
pub mod LinkedTurns
pub mod TurnCalls
pub mod WaitedTurns
pub mod WhatBecomes
