-- Bounds in numbers of when calls are reported. The argument: `most_ms`, the bound of each call of a smooth run, is
-- worked out where no path has a delay (EightCalls).
pub mod EightCalls
