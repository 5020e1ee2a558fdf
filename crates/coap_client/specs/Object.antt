pub mod AnswerSteps
pub mod CallAnswers
pub mod CallShown
pub mod Happens
pub mod Held
pub mod Sends
pub mod Shown
pub mod Starts
