-- A list whose last input may be taken back: what is on it, and what the last input found on it.
use Rattle.std.specs.Prelude.{Bool, true, false, Option, Some, None, List}
use Rattle.std.specs.List.{filter_map}
use Rattle.coap_exchange.specs.declared.listed.Listed.{Listed}

abbrev pub entry_if : {T : Type 0} → Bool → T → Option T
entry_if true entry = Some entry
entry_if false entry = None

abbrev pub listed : {T : Type 0} → List (Listed T) → List T
listed ks = filter_map (λ k. entry_if k.now k.entry) ks

abbrev pub listed_before : {T : Type 0} → List (Listed T) → List T
listed_before ks = filter_map (λ k. entry_if k.before k.entry) ks

-- what an input finds is noted, and put back
abbrev pub noted : {T : Type 0} → Listed T → Listed T
noted k = record k { before = k.now }

abbrev pub reverted : {T : Type 0} → Listed T → Listed T
reverted k = record k { now = k.before }
