-- Tests by computation whether the copies of a run go out in time, and whether none has to have got through yet.
use Rattle.std.proofs.Common.{◌≡◌, ◌≤◌, ◌<◌, ◌-◌, ◌*◌, inl, inr, ℕ, nat_le, nat_lt, Bool, true, false, ◌&&◌}
use Rattle.std.proofs.Common.{not}
use Rattle.std.proofs.Common.{List, [], ◌∷◌, ap, sym, ◌∙◌, arith}
use Rattle.std.proofs.lemmas.Bool.{and_parts, leb-true, lt-ltb, le-leb, not-true}
use Rattle.coap_types.specs.Past.{Ever}
use Rattle.coap_types.specs.declared.transmission.TheConstants.{MAX_RETRANSMIT as max_retransmit}
use Rattle.coap_layer.specs.BackOff.{factors}
use Rattle.coap_layer.specs.Channel.{near_of}
use Rattle.coap_layer.specs.Sends.{IsIn}
use Rattle.coap_layer.specs.Words.{Open, outstanding}
use Rattle.coap_record.specs.Events.{Config}
use Rattle.coap_record.specs.Record.{Turn}
use Rattle.coap_promise.specs.Hops.{hops_of}
use Rattle.coap_fair.specs.FairLoss.{last_copy, FairLoss, CopiesInTime}
use Rattle.coap_fair.specs.FiveCopies.{max_age}

abbrev is_overdue : ℕ → Open → ℕ → Bool
is_overdue now c k =
    nat_lt (c.last - c.first) (c.timeout * k) && nat_le (c.timeout * k) ((now - c.first) - max_age)

abbrev none_due : ℕ → Open → List ℕ → Bool
none_due now c [] = true
none_due now c (k ∷ ks) = not (is_overdue now c k) && none_due now c ks

none_is : (now : ℕ) (c : Open) (ks : List ℕ) → none_due now c ks ≡ true
    → Ever (λ (k : ℕ). (c.last - c.first < c.timeout * k) × (c.timeout * k ≤ (now - c.first) - max_age)) ks → ⊥
none_is now c [] e h = h
none_is now c (k ∷ ks) e (inl h) =
    let quiet = not-true (is_overdue now c k) (and_parts _ _ e).0 in
    let a = lt-ltb (c.last - c.first) (c.timeout * k) h.0 in
    let b = le-leb (c.timeout * k) ((now - c.first) - max_age) h.1 in
    let both : is_overdue now c k ≡ true = cc (a, b) in
    let z : false ≡ true = sym quiet ∙ both in
    cc z
none_is now c (k ∷ ks) e (inr h) = none_is now c ks (and_parts _ _ e).1 h

abbrev none_overdue : ℕ → List Open → Bool
none_overdue now [] = true
none_overdue now (c ∷ cs) = none_due now c (factors max_retransmit) && none_overdue now cs

all_none : (now : ℕ) (cs : List Open) → none_overdue now cs ≡ true → (con : Open) → IsIn con cs
    → Ever (λ (k : ℕ). (con.last - con.first < con.timeout * k) × (con.timeout * k ≤ (now - con.first) - max_age))
    (factors max_retransmit) → ⊥
all_none now [] e con h over = h
all_none now (c ∷ cs) e con (inr h) over = all_none now cs (and_parts _ _ e).1 con h over
all_none now (c ∷ cs) e con (inl same) over =
    none_is now con (factors max_retransmit)
    (sym (ap (λ (z : Open). none_due now z (factors max_retransmit)) same) ∙ (and_parts _ _ e).0) over

abbrev pub copies_in_time : Config → List Turn → Bool
copies_in_time config [] = true
copies_in_time config (t ∷ past) =
    none_overdue t.event.at (outstanding (near_of (hops_of config past))) && copies_in_time config past

pub in_time : (ms : ℕ) (config : Config) (turns : List Turn) → copies_in_time config turns ≡ true
    → CopiesInTime ms config turns
in_time ms config [] e = tt
in_time ms config (t ∷ past) e =
    let k = and_parts _ _ e in (
      λ con there over. all_none t.event.at (outstanding (near_of (hops_of config past))) k.0 con there over,
      in_time ms config past k.1,
    )

abbrev pub are_early : List Turn → Bool
are_early [] = true
are_early (t ∷ past) = nat_le t.event.at last_copy && are_early past

pub none_asked : (ms : ℕ) (config : Config) (turns : List Turn) → are_early turns ≡ true → FairLoss ms config turns
none_asked ms config [] e = tt
none_asked ms config (t ∷ past) e =
    let k = and_parts _ _ e in
    let early = leb-true t.event.at last_copy k.0 in (
      λ con began five late. absurd (omega (arith, early, late)),
      none_asked ms config past k.1,
    )
