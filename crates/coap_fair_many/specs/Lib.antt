pub mod EachIsAnswered
