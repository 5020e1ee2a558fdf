-- No more are remembered than there is a place for.
use Rattle.coap_layer.specs.Trace.{Setup}
use Rattle.std.proofs.Common.{◌≡◌, ℕ, ◌+◌, ◌≤◌, nat_le, Bool, true, false, Option, Some, None, List, [], ◌∷◌, refl}
use Rattle.std.proofs.Common.{arith, cond, if◌then◌else◌}
use Rattle.std.proofs.lemmas.Bool.{leb-true, le-leb}
use Rattle.coap_layer.specs.Trace.{Entry}
use Rattle.coap_layer.specs.Words.{clock, Incoming, taken, remembered}
use Rattle.coap_layer.specs.Rows.{LayerLaw}
use Rattle.coap_layer.specs.Follows.{RemembersFew}
use Rattle.coap_types.specs.declared.transmission.TheConstants.{EXCHANGE_LIFETIME_MS as exchange_lifetime}
use Rattle.coap_layer.proofs.Arrivals.HandedUpOnce.{taken_handed, up_room}

-- later, fewer are
pub counted : (b c : Bool) (x y : ℕ) → (b ≡ true → c ≡ true) → x ≤ y → cond b (1 + x) x ≤ cond c (1 + y) y
counted true true x y f le = omega (arith, le)
counted true false x y f le = absurd (cc (f refl))
counted false true x y f le = omega (arith, le)
counted false false x y f le = le

later_fewer : (t : List Entry) (now later : ℕ) → now ≤ later → remembered later t ≤ remembered now t
later_fewer [] now later le = omega arith
later_fewer (e ∷ past) now later le = go (taken e) (later_fewer past now later le)
  where
    young : nat_le later (e.at + exchange_lifetime) ≡ true → nat_le now (e.at + exchange_lifetime) ≡ true
    young h = let k = leb-true later (e.at + exchange_lifetime) h in le-leb now (e.at + exchange_lifetime)
        (omega (arith, k, le))

    go : (o : Option Incoming) → remembered later past ≤ remembered now past
        → elim o [
          | Some m ↦ (if nat_le later (e.at + exchange_lifetime) then 1 + remembered later past else
              remembered later past)
          | None ↦ remembered later past
        ]
        ≤ elim o [
          | Some m ↦ (if nat_le now (e.at + exchange_lifetime) then 1 + remembered now past else
              remembered now past)
          | None ↦ remembered now past
        ]
    go (Some m) fewer = counted (nat_le later (e.at + exchange_lifetime))
        (nat_le now (e.at + exchange_lifetime)) _ _ young fewer
    go None fewer = fewer

one_more : (most : ℕ) (b : Bool) (n : ℕ) → n + 1 ≤ most → cond b (1 + n) n ≤ most
one_more most true n le = omega (arith, le)
one_more most false n le = omega (arith, le)

pub few : (setup : Setup) (t : List Entry) → LayerLaw setup t → RemembersFew setup.remembered t
few setup [] law now le = omega arith
few setup (e ∷ past) law now le = go (taken e) refl (few setup past law.1 now before)
  where
    before : clock past ≤ now
    before = let a : clock past ≤ e.at = law.0.time in let b : e.at ≤ now = le in omega (arith, a, b)

    go : (o : Option Incoming) → taken e ≡ o → remembered now past ≤ setup.remembered
        → elim o [
          | Some m ↦ (if nat_le now (e.at + exchange_lifetime) then 1 + remembered now past else
              remembered now past)
          | None ↦ remembered now past
        ] ≤ setup.remembered
    go None is fewer = fewer
    go (Some m) is fewer =
        let room = up_room setup past e m law.0 (taken_handed e m is) in
        let less = later_fewer past e.at now le in
        one_more setup.remembered (nat_le now (e.at + exchange_lifetime)) (remembered now past)
        (omega (arith, room, less))
