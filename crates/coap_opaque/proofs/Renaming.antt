-- Each call does the same with other endpoints in the place of theirs: of a message layer (LayerWords, LayerParts,
-- LayerSteps, LayerHistory), of exchanges (AnswererParts, AnswererCalls, AskerCalls), of a server and of a client. What
-- an end has of a peer it has of what stands for that (Knowing).
pub mod Knowing
pub mod Lists
pub mod Stacked
pub mod Swapped
pub mod LayerWords
pub mod LayerParts
pub mod LayerSteps
pub mod LayerHistory
pub mod AnswererParts
pub mod AnswererCalls
pub mod AskerCalls
pub mod ServerObservers
pub mod ServerParts
pub mod ServerRows
pub mod ServerCalls
pub mod ServerHistory
pub mod ClientCalls
