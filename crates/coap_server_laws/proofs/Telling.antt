-- What a server answers and notifies its message layer is given in that very call, and nothing else (MadeInCall,
-- ResponsesGoOut, SentNow), one CON at most (OneConACall). It goes out in an acknowledgement, in a CON or in a NON
-- (SentSo).
pub mod LayerCalls
pub mod MadeInCall
pub mod NotAfter
pub mod NotedOptions
pub mod OneConACall
pub mod ResponsesGoOut
pub mod ResponsesMade
pub mod SentNow
pub mod SentSo
pub mod Told
pub mod UnderRegistrations
