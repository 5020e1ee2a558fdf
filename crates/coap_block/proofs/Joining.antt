-- What a server joins is the blocks that it took.
pub mod BlocksOfHistory
pub mod JoinedBehind
pub mod OneBody
pub mod OneForAKey
pub mod OthersOfAPeer
pub mod ThereExactly
