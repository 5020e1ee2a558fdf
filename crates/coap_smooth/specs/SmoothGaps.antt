-- Where both ends tick each 1,000 ms no event is more than 1,000 ms behind the one before; and not each legal run is
-- smooth.
use Rattle.std.specs.Prelude.{◌≤◌, ℕ, ◌+◌, List, [], ◌∷◌}
use Rattle.coap_record.specs.Events.{Event}
use Rattle.coap_promise.specs.LegalRuns.{Runs, config, times_out}
use Rattle.coap_record.specs.Record.{Given}
use Rattle.coap_smooth.specs.Smooth.{max_age, Smooth}

abbrev pub IsClose : List Event → ℕ → Type 0
IsClose [] at = Unit {0}
IsClose (e ∷ past) at = at ≤ e.at + max_age

abbrev pub AreClose : List Event → Type 0
AreClose [] = Unit {0}
AreClose (e ∷ past) = IsClose past e.at × AreClose past

-- The run in which a POST times out is not smooth, whatever is given out in it.
abbrev pub TimesOutRoughly : Type 0
TimesOutRoughly = (given : List Given) (run : Runs config times_out given) → Smooth config run.turns → ⊥
