pub mod IfNoneThen
