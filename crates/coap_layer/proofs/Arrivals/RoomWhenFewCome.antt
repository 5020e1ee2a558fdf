-- Where few messages come in EXCHANGE_LIFETIME, another can be remembered.
use Rattle.coap_layer.specs.Trace.{Setup}
use Rattle.std.proofs.Common.{◌≡◌, ℕ, ◌+◌, ◌-◌, ◌≤◌, nat_le, Bool, true, false, Option, Some, None, List, []}
use Rattle.std.proofs.Common.{◌∷◌, refl, arith, cond, if◌then◌else◌}
use Rattle.std.proofs.lemmas.Bool.{leb-true, le-leb}
use Rattle.coap_types.specs.declared.transmission.TheConstants.{EXCHANGE_LIFETIME_MS as exchange_lifetime}
use Rattle.coap_layer.specs.Rows.{LayerLaw}
use Rattle.coap_layer.specs.Taking.{is_then, came, FewCome, HasRoom}
use Rattle.coap_layer.specs.Trace.{Entry}
use Rattle.coap_layer.specs.Words.{clock, Incoming, taken, handed, remembered}
use Rattle.coap_layer.proofs.Arrivals.FewAreRemembered.{counted}
use Rattle.coap_layer.proofs.Arrivals.HandedUpOnce.{taken_handed}
use Rattle.coap_layer.proofs.ListLemmas.{both}

pub more : (b : Bool) (x y : ℕ) → x ≤ y → x ≤ cond b (1 + y) y
more true x y le = omega (arith, le)
more false x y le = le

fewer : (setup : Setup) (since now : ℕ) (t : List Entry) → LayerLaw setup t → clock t ≤ now
    → now ≤ since + exchange_lifetime
    → since ≡ now - exchange_lifetime
    → remembered now t ≤ came since t
fewer setup since now [] law le till is = omega arith
fewer setup since now (e ∷ past) law le till is = go (taken e) (handed e) (λ m h. taken_handed e m h)
    (fewer setup since now past law.1 (let a : clock past ≤ e.at = law.0.time in omega (arith, a, le)) till is)
  where
    young : nat_le now (e.at + exchange_lifetime) ≡ true → is_then since e.at ≡ true
    young h = let k = leb-true now (e.at + exchange_lifetime) h in
        both _ _ (le-leb since e.at (omega (arith, k, is)))
        (le-leb e.at (since + exchange_lifetime) (omega (arith, le, till)))

    go : (o p : Option Incoming) → ((m : Incoming) → o ≡ Some m → p ≡ Some m) → remembered now past ≤ came since past
        → elim o [
          | Some m ↦ (if nat_le now (e.at + exchange_lifetime) then 1 + remembered now past else
              remembered now past)
          | None ↦ remembered now past
        ]
        ≤ elim p [
          | Some m ↦ (if is_then since e.at then 1 + came since past else came since past)
          | None ↦ came since past
        ]
    go None None f less = less
    go None (Some m) f less = more (is_then since e.at) _ _ less
    go (Some m) None f less = let a = f m refl in absurd (cc a)
    go (Some m) (Some n) f less = counted (nat_le now (e.at + exchange_lifetime)) (is_then since e.at) _ _ young less

pub has_room : (setup : Setup) (most : ℕ) (t : List Entry) → LayerLaw setup t → FewCome most t → HasRoom most t
has_room setup most t law few now le =
    let a = fewer setup (now - exchange_lifetime) now t law le (omega arith) refl in
    let b = few (now - exchange_lifetime) in
    omega (arith, a, b)

-- .. and at each time before
pub few_before : (most : ℕ) (e : Entry) (past : List Entry) → FewCome most (e ∷ past) → FewCome most past
few_before most e past few since = let a = few since in let b = go (handed e) in omega (arith, a, b)
  where
    go : (o : Option Incoming) → came since past
        ≤ elim o [
          | Some m ↦ (if is_then since e.at then 1 + came since past else came since past)
          | None ↦ came since past
        ]
    go None = omega arith
    go (Some m) = more (is_then since e.at) _ _ (omega arith)
