pub mod FewAreKept
pub mod KeptLemmas
pub mod OneAtATime
pub mod RefusedWhileOneRuns
pub mod TokensDiffer
pub mod TokensOnce
