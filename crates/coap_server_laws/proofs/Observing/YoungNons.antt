-- What goes in a NON is young.
use Rattle.std.proofs.Common.{◌≡◌, ◌≤◌, ◌<◌, ℕ, ◌+◌, ◌-◌, ◌||◌, not, Bool, true, false, Some, List, refl, arith, nat_le}
use Rattle.std.proofs.Common.{nat_lt}
use Rattle.std.proofs.lemmas.Bool.{and_parts}
use Rattle.coap_observe.specs.Observers.{Observer}
use Rattle.coap_resource.specs.Content.{Held}
use Rattle.coap_server.specs.Plain.{goes_plain, is_plain, must_confirm}
use Rattle.coap_server.specs.declared.limits.TheConstants.{CON_NOTIFICATION_MS as con_notification}
use Rattle.coap_server.specs.declared.limits.TheConstants.{MAX_PLAIN_AGE_MS as max_plain_age}
use Rattle.std.proofs.lemmas.Bool.{not-true as not_true}

or_none : (a b : Bool) → (a || b) ≡ false → (a ≡ false) × (b ≡ false)
or_none true b h = absurd (cc h)
or_none false b h = (refl, h)

not_more : (m n : ℕ) → nat_lt m n ≡ false → n ≤ m
not_more m n h = search arith

not_less : (m n : ℕ) → nat_le m n ≡ false → n < m
not_less m n h = search arith

-- neither a day has passed since the last CON, nor is the state old
pub record IsYoung (ps : List (List (List ℕ))) (at : ℕ) (o : Observer) : Type 0 where
  pub plain : is_plain o.path ps ≡ true
  pub con : at - o.con < con_notification
  pub state : at - o.changed ≤ max_plain_age

pub young_is : (ps : List (List (List ℕ))) (at : ℕ) (held : Held) (o : Observer) → goes_plain ps at (Some held) o ≡ true
    → IsYoung ps at o
young_is ps at held o h =
    let k = and_parts (is_plain o.path ps) (not (must_confirm at o)) h in
    let none = or_none (nat_le con_notification (at - o.con)) (nat_lt max_plain_age (at - o.changed))
    (not_true (must_confirm at o) k.1) in
    record {
      plain = k.0;
      con = not_less con_notification (at - o.con) none.0;
      state = not_more max_plain_age (at - o.changed) none.1;
    }

pub young_by : (ps : List (List (List ℕ))) (at : ℕ) (held : Held) (o : Observer) → goes_plain ps at (Some held) o ≡ true
    → at ≤ o.changed + 100000
young_by ps at held o h = let few = (young_is ps at held o h).state in omega (arith, few)
