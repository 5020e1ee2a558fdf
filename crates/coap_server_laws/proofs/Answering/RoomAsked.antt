-- What a message layer says of room for a CON, asked behind a tick that did nothing and other such questions.
use Rattle.std.proofs.Common.{◌≡◌, ◌⊎◌, inl, inr, ℕ, max, Bool, true, false, Option, Some, None, List, [], ◌∷◌, refl}
use Rattle.std.proofs.Common.{sym, subst, ◌∙◌, arith}
use Rattle.coap_types.specs.Past.{Ever}
use Rattle.coap_types.specs.declared.endpoint.Endpoint.{Endpoint}
use Rattle.coap_types.specs.SameEndpoint.{same_endpoint}
use Rattle.coap_layer.specs.declared.setup.Setup.{Setup}
use Rattle.coap_layer.specs.Ids as ids
use Rattle.coap_layer.specs.Machine.State as S
use Rattle.coap_layer.specs.Machine.Steps.{Asked, Steps, entries, left_after}
use Rattle.coap_layer.specs.Rows.{LayerLaw, AsksRoom, Busy, MayGive, Withholds}
use Rattle.coap_layer.specs.Trace as L
use Rattle.coap_layer.specs.Words.{Open, clock, outstanding, numbers}
use Rattle.coap_exchange.specs.AskerRequests.{asked}
use Rattle.coap_layer.proofs.Facts.CallsOfLayer.{left_same_nil}
use Rattle.coap_exchange.proofs.Facts.LastStep.{last_step}

-- a number that may be given is not withheld

apart : (last : Option ℕ) (now : ℕ) → ids.IsRested last now → ids.IsHeld last now → ⊥
apart None now rested held = held
apart (Some last) now rested held = absurd (omega (arith, rested, held))

pub never_both : (setup : Setup) (past : List L.Entry) (now : ℕ) → MayGive setup past now → Withholds setup past now
    → ⊥
never_both setup past now may held = apart _ now (may held.spent) held.held

-- what is said where these calls came before, at this moment
module _ (setup : Setup) (base : List Asked) (at : ℕ) where
  abbrev pub past : List L.Entry
  past = entries (S.start setup) base

  abbrev pub then : ℕ
  then = max (clock past) at

  abbrev pub Says : Endpoint → Bool → Type 0
  Says to true = (Busy past to → ⊥) × MayGive setup past then
  Says to false = Busy past to ⊎ Withholds setup past then

  -- further calls that send and hear nothing
  pub record Quiet (more : List Asked) : Type 0 where
    pub opens : outstanding (entries (S.start setup) more) ≡ outstanding past
    pub issued : numbers (entries (S.start setup) more) ≡ numbers past
    pub clock_is : max (left_after (S.start setup) more).clock at ≡ then

  abbrev room_at : (more : List Asked) (to : Endpoint) → L.Answer → L.Entry
  room_at more to u = record {
    at = S.moment (left_after (S.start setup) more) at (L.Room to);
    call = L.Room to;
    answer = u;
    out = [];
  }

  module _ (more : List Asked) (q : Quiet more) (to : Endpoint) (b : Bool) where
    pub quiet_room : Quiet (asked at (L.Room to) (L.Is b) ∷ more)
    quiet_room =
        record {
          opens = left_same_nil (S.made (left_after (S.start setup) more) at (L.Room to)) (λ c. refl)
              (outstanding (entries (S.start setup) more)) ∙ q.opens;
          issued = q.issued;
          clock_is = (let c = q.clock_is in omega (arith, c));
        }

    busy_there : Busy (entries (S.start setup) more) to → Busy past to
    busy_there k = subst (λ cs. Ever (λ (c : Open). same_endpoint c.to to ≡ true) cs) q.opens k

    busy_here : Busy past to → Busy (entries (S.start setup) more) to
    busy_here k = subst (λ cs. Ever (λ (c : Open). same_endpoint c.to to ≡ true) cs) (sym q.opens) k

    withheld_there : Withholds setup (entries (S.start setup) more)
        (max (left_after (S.start setup) more).clock at)
        → Withholds setup past then
    withheld_there k = subst (λ n. ids.Withholds setup.word n then) q.issued
        (subst (λ n. Withholds setup (entries (S.start setup) more) n) q.clock_is k)

    may_there : MayGive setup (entries (S.start setup) more)
        (max (left_after (S.start setup) more).clock at)
        → MayGive setup past then
    may_there k = subst (λ n. ids.MayGive setup.word n then) q.issued
        (subst (λ n. MayGive setup (entries (S.start setup) more) n) q.clock_is k)

    said : (u : Bool) → AsksRoom setup (entries (S.start setup) more) (room_at more to (L.Is u)) to
        → Says to u
    said true (inl (free, may, is), out) = (λ k. free (busy_here k), may_there may)
    said true (inr (k, is), out) = let z : L.Is true ≡ L.Is false = is in absurd (cc z)
    said false (inl (free, may, is), out) = let z : L.Is false ≡ L.Is true = is in absurd (cc z)
    said false (inr (inl busy, is), out) = inl (busy_there busy)
    said false (inr (inr held, is), out) = inr (withheld_there held)

    pub room_says : (left : S.State) → Steps (S.start setup) (asked at (L.Room to) (L.Is b) ∷ more) left
        → LayerLaw setup (entries (S.start setup) (asked at (L.Room to) (L.Is b) ∷ more)) → Says to b
    room_says left steps law =
        let step = last_step (S.start setup) left (asked at (L.Room to) (L.Is b)) more steps in
        said b (subst (λ u. AsksRoom setup (entries (S.start setup) more) (room_at more to u) to)
        (sym step.right)
        law.0.row)

  -- a tick that did nothing
  abbrev tick_at : L.Answer → L.Entry
  tick_at u = record {
    at = S.moment (left_after (S.start setup) base) at L.Ticks;
    call = L.Ticks;
    answer = u;
    out = S.out_of (left_after (S.start setup) base)
        (S.moment (left_after (S.start setup) base) at L.Ticks) L.Ticks;
  }

  pub quiet_tick : (left : S.State) → Steps (S.start setup) (asked at L.Ticks L.Idle ∷ base) left
      → (left_after (S.start setup) base).clock ≡ clock past → Quiet (asked at L.Ticks L.Idle ∷ base)
  quiet_tick left steps same =
      let step = last_step (S.start setup) left (asked at L.Ticks L.Idle) base steps in
      record {
        opens = subst (λ u. outstanding (tick_at u ∷ past) ≡ outstanding past) step.right
            (left_same_nil (tick_at L.Idle) (λ c. refl) (outstanding past));
        issued = subst (λ u. numbers (tick_at u ∷ past) ≡ numbers past) step.right refl;
        clock_is = omega (arith, same);
      }
