pub mod AskerYoung
pub mod EachGivesBack
pub mod GivenBack
pub mod GivenBackRuns
pub mod InRuns
pub mod KeepsUp
