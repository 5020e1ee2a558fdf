-- Tests by computation whether turns are smooth.
use Rattle.std.proofs.Common.{◌≡◌, ◌⊎◌, ◌≤◌, ◌+◌, inl, inr, ⊎_elim, ℕ, nat_le, eqb, Bool, true, false}
use Rattle.std.proofs.Common.{◌&&◌, ◌||◌, not, List, [], ◌∷◌, length, ap, refl, sym, subst}
use Rattle.std.proofs.lemmas.Bool.{and_parts, or_cases, eqb-true, leb-true, not-true}
use Rattle.coap_types.specs.Past.{Ever, Always, all_of}
use Rattle.coap_record.specs.Events.{Config, What, TickClient, TickServer, Deliver, StrangerToClient, usual_addresses}
use Rattle.coap_record.specs.Events.{StrangerToServer}
use Rattle.coap_record.specs.Record.{Given, Turn, given_in}
use Rattle.coap_smooth.specs.Smooth.{max_age, WasDelivered, HasTicked, IsOfAnEnd, NoneIsLate, NoStranger}
use Rattle.coap_smooth.specs.Smooth.{GoesSmoothly}
use Rattle.coap_smooth.proofs.Witness.SmoothTurns.{none_late}

abbrev is_delivery : ℕ → What → Bool
is_delivery n (Deliver m) = eqb m n
is_delivery n _ = false

delivery : (n : ℕ) (what : What) → is_delivery n what ≡ true → what ≡ Deliver n
delivery n (Deliver m) e = ap Deliver (eqb-true m n e)
delivery n _ e = absurd (cc e)

abbrev is_delivered : ℕ → List Turn → Bool
is_delivered n [] = false
is_delivered n (t ∷ past) = is_delivery n t.event.what || is_delivered n past

delivered : (n : ℕ) (past : List Turn) → is_delivered n past ≡ true → WasDelivered n past
delivered n [] e = absurd (cc e)
delivered n (t ∷ past) e = ⊎_elim (λ h. inl (delivery n t.event.what h)) (λ h. inr (delivered n past h))
    (or_cases _ _ e)

abbrev are_in_time : List Turn → ℕ → List Given → Bool
are_in_time past at [] = true
are_in_time past at (g ∷ gs) =
    (nat_le at (g.at + max_age) || is_delivered (length gs) past) && are_in_time past at gs

in_time : (past : List Turn) (at : ℕ) (gs : List Given) → are_in_time past at gs ≡ true
    → Always (λ before (g : Given). (at ≤ g.at + max_age) ⊎ WasDelivered (length before) past) gs
in_time past at [] e = tt
in_time past at (g ∷ gs) e =
    let k = and_parts _ _ e in (
      ⊎_elim (λ h. inl (leb-true at (g.at + max_age) h)) (λ h. inr (delivered (length gs) past h))
          (or_cases _ _ k.0),
      in_time past at gs k.1,
    )

pub comes_in_time : (config : Config) → config.addresses ≡ usual_addresses → (past : List Turn) (at : ℕ)
    → are_in_time past at (all_of (given_in usual_addresses) past) ≡ true → NoneIsLate config.addresses past at
comes_in_time config same past at e = subst (λ a. NoneIsLate a past at) (sym same)
    (none_late past at (in_time past at (all_of (given_in usual_addresses) past) e))

abbrev ticks_client : What → Bool
ticks_client TickClient = true
ticks_client _ = false

abbrev ticks_server : What → Bool
ticks_server TickServer = true
ticks_server _ = false

is_client : (what : What) → ticks_client what ≡ true → what ≡ TickClient
is_client TickClient e = refl
is_client _ e = absurd (cc e)

is_server : (what : What) → ticks_server what ≡ true → what ≡ TickServer
is_server TickServer e = refl
is_server _ e = absurd (cc e)

abbrev ticks_by : (What → Bool) → ℕ → List Turn → Bool
ticks_by is at [] = false
ticks_by is at (t ∷ past) = (is t.event.what && nat_le at (t.event.at + max_age)) || ticks_by is at past

abbrev are_recent : ℕ → List Turn → Bool
are_recent at [] = true
are_recent at (t ∷ past) = nat_le at (t.event.at + max_age) && are_recent at past

module _ (is : What → Bool) (tick : What) (sound : (what : What) → is what ≡ true → what ≡ tick) (at : ℕ) where
  ticked : (past : List Turn) → ticks_by is at past ≡ true
      → Ever (λ (t : Turn). (t.event.what ≡ tick) × (at ≤ t.event.at + max_age)) past
  ticked [] e = absurd (cc e)
  ticked (t ∷ past) e = ⊎_elim
      (λ h. let k = and_parts _ _ h in inl (sound t.event.what k.0, leb-true at (t.event.at + max_age) k.1))
      (λ h. inr (ticked past h)) (or_cases _ _ e)

  recent : (past : List Turn) → are_recent at past ≡ true
      → Always (λ before (t : Turn). at ≤ t.event.at + max_age) past
  recent [] e = tt
  recent (t ∷ past) e = let k = and_parts _ _ e in (leb-true at (t.event.at + max_age) k.0, recent past k.1)

  has_ticked : (past : List Turn) → (ticks_by is at past || are_recent at past) ≡ true → HasTicked tick past at
  has_ticked past e = ⊎_elim (λ h. inl (ticked past h)) (λ h. inr (recent past h)) (or_cases _ _ e)

abbrev is_of_an_end : What → Bool
is_of_an_end (StrangerToClient from bytes) = false
is_of_an_end (StrangerToServer from bytes) = false
is_of_an_end _ = true

of_an_end : (what : What) → is_of_an_end what ≡ true → IsOfAnEnd what
of_an_end (StrangerToClient from bytes) e = absurd (cc e)
of_an_end (StrangerToServer from bytes) e = absurd (cc e)
of_an_end _ e = tt

abbrev is_smooth : List Turn → Turn → Bool
is_smooth past t =
    are_in_time past t.event.at (all_of (given_in usual_addresses) past)
    && ((ticks_by ticks_client t.event.at past || are_recent t.event.at past)
    && ((ticks_by ticks_server t.event.at past || are_recent t.event.at past)
    && not t.refused))

-- (where both ends tick each 1,000 ms)
goes : (config : Config) → config.addresses ≡ usual_addresses → (past : List Turn) (t : Turn) → is_smooth past t ≡ true
    → GoesSmoothly config past t
goes config same past t e =
    let time = and_parts _ _ e in
    let client = and_parts _ _ time.1 in
    let server = and_parts _ _ client.1 in
    record {
      in_time = comes_in_time config same past t.event.at time.0;
      client_keeps_up = inl (has_ticked ticks_client TickClient is_client t.event.at past client.0);
      server_keeps_up = inl (has_ticked ticks_server TickServer is_server t.event.at past server.0);
      all_made = not-true t.refused server.1;
    }

abbrev pub are_smooth : List Turn → Bool
are_smooth [] = true
are_smooth (t ∷ past) = is_smooth past t && are_smooth past

pub all_smooth : (config : Config) → config.addresses ≡ usual_addresses → (turns : List Turn)
    → are_smooth turns ≡ true → Always (GoesSmoothly config) turns
all_smooth config same [] e = tt
all_smooth config same (t ∷ past) e =
    let k = and_parts _ _ e in (goes config same past t k.0, all_smooth config same past k.1)

-- no stranger sends anything

abbrev pub are_of_ends : List Turn → Bool
are_of_ends [] = true
are_of_ends (t ∷ past) = is_of_an_end t.event.what && are_of_ends past

pub no_stranger : (turns : List Turn) → are_of_ends turns ≡ true → NoStranger turns
no_stranger [] e = tt
no_stranger (t ∷ past) e = let k = and_parts _ _ e in (of_an_end t.event.what k.0, no_stranger past k.1)
