-- The parts of a fetch's history are those that it gathered.
use Rattle.std.proofs.Common.{◌≡◌, ◌+◌, ℕ, Bool, true, false, nat_lt, if◌then◌else◌, List, [], length, Option, Some}
use Rattle.std.proofs.Common.{None, is_some, refl, sym, subst}
use Rattle.coap_types.specs.declared.block.Block.{Block}
use Rattle.coap_block.specs.declared.fetch_verdict.Verdict.{Verdict}
use Rattle.coap_block.specs.declared.fetch_verdict.Verdict.TheVariants.{Refuse, Again, Done, Ask}
use Rattle.coap_block.specs.declared.fetch_step.FetchRefusal.TheVariants.{BadBlock, TooLarge}
use Rattle.coap_block.specs.Sizes.{Sizes}
use Rattle.coap_block.specs.Whole.{Part}
use Rattle.coap_block.specs.FetchStep.{FetchState, start, sizes_of, verdict, after}
use Rattle.coap_block.specs.Gathered.{Gathered}
use Rattle.coap_block.specs.FetchTrace.{Made, Took, state_after, parts_by, parts_since, PartsAreGathered}
use Rattle.coap_block.specs.FetchTrace.{WholeByHistory}
use Rattle.coap_block.proofs.Fetching.WholeByParts.{gathered_by_part, whole_by_parts}

at_start : (sizes : Sizes) (restarts : ℕ) → Gathered [] (start sizes restarts)
at_start sizes restarts = record { bytes = refl; chained = tt; full = tt; awaits = refl }

pub none_asks : (there big : Bool) (num szx : ℕ)
    → (if there then Refuse BadBlock else if big then Refuse TooLarge else Done) ≡ Ask num szx → ⊥
none_asks true big num szx h = cc
none_asks false true num szx h = cc
none_asks false false num szx h = cc

step : (v : Verdict) (parts : List Part) (s : FetchState) (block : Option Block) (tag : Option (List ℕ))
    (payload : List ℕ)
    → Gathered parts s → verdict s block tag (length payload) ≡ v
    → Gathered (parts_by v block tag payload parts) (after s tag payload v)
step (Refuse why) parts s block tag payload g h = g
step Again parts s block tag payload g h = at_start (sizes_of s) (s.restarts + 1)
step Done parts s block tag payload g h = at_start (sizes_of s) 0
step (Ask num szx) parts s None tag payload g h =
    absurd (none_asks (is_some s.asked) (nat_lt s.limit (length payload)) num szx h)
step (Ask num szx) parts s (Some b) tag payload g h = gathered_by_part parts s b tag payload num szx g h

pub parts_are_gathered : PartsAreGathered
parts_are_gathered (Made sizes) = at_start sizes 0
parts_are_gathered (Took earlier block tag payload) =
    step (verdict (state_after earlier) block tag (length payload)) (parts_since earlier)
    (state_after earlier) block tag payload
    (parts_are_gathered earlier) refl

pub whole_by_history : WholeByHistory
whole_by_history t s block tag payload led h =
    whole_by_parts (parts_since t) s block tag payload
    (subst (λ (x : FetchState). Gathered (parts_since t) x) (sym led) (parts_are_gathered t)) h
