pub mod AnswersKept
pub mod CopiesAnswered
pub mod RepliesAreAnswers
pub mod TheAnswerIsTold
