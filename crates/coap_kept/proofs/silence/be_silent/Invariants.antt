use Rattle.std.proofs.Common.{ℕ}
use Rattle.coap_kept.specs.Silence.{IsSilent, Lasts}
use Rattle.coap_kept.proofs.silence.be_silent.Given as goal

-- so far nothing was sent, and the clock told the moment at which it began
abbrev pub invariant-loop-turn : goal.invariant-loop-turn
invariant-loop-turn g l = IsSilent g.L.Link.receives l.fn.link l.link
    × ((last : ℕ) × Lasts g.T.Timekeeper.tells l.fn.time l.begin.0 last l.time)
