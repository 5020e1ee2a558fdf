-- A run that is legal by one clock is legal by two that show the same.
use Rattle.std.proofs.Common.{◌≡◌, ◌⊎◌, inl, inr, ⊎_elim, ◌≤◌, ◌<◌, ℕ, nat_le, Bool, true, false, List, [], ◌∷◌, length}
use Rattle.std.proofs.Common.{refl}
use Rattle.std.proofs.Common.{ap, sym, ◌∙◌, arith, cond, Option, Some, None}
use Rattle.std.proofs.lemmas.Bool.{le-leb, leb-true, cases_lt}
use Rattle.coap_types.specs.Past.{Ever, Always, all_of}
use Rattle.coap_types.proofs.Facts.Traces.{Ever_append, Ever_of_Sometime}
use Rattle.coap_types.specs.declared.endpoint.Endpoint.{Endpoint}
use Rattle.coap_layer.specs.Clocks as layers
use Rattle.coap_layer.specs.Trace.{Packet}
use Rattle.coap_client.specs.Trace as C
use Rattle.coap_server.specs.Trace as S
use Rattle.coap_promise.specs.Clocks as clocks
use Rattle.coap_record.specs.Events.{Config, What, Calls, Observes, Cancels, Forgets, Sets, Removes}
use Rattle.coap_record.specs.Events.{TickClient, TickServer, Deliver, StrangerToClient, StrangerToServer}
use Rattle.coap_record.specs.Legal.{NotBefore, MayCome, AllLegal, Legal}
use Rattle.coap_record.specs.Record.{Given, given_as, Entry, OfClient, OfServer, Turn, given_by, given_in}
use Rattle.coap_record.specs.declared.addresses.Addresses.{Addresses}

-- what the one clock shows at the event of this number; behind the last one it stands still
abbrev pub at_event : List Turn → ℕ → ℕ
at_event [] n = 0
at_event (t ∷ past) n = cond (nat_le (length past) n) t.event.at (at_event past n)

not_le : (a b : ℕ) → b < a → nat_le a b ≡ false
not_le a b less = by (nat_le a b) refl
  where
    by : (w : Bool) → nat_le a b ≡ w → w ≡ false
    by true e = let k = leb-true a b e in absurd (omega (arith, k, less))
    by false e = refl

here : (t : Turn) (past : List Turn) (n : ℕ) → length past ≤ n → at_event (t ∷ past) n ≡ t.event.at
here t past n le = ap (λ b. cond b t.event.at (at_event past n)) (le-leb (length past) n le)

before : (t : Turn) (past : List Turn) (n : ℕ) → n < length past → at_event (t ∷ past) n ≡ at_event past n
before t past n less = ap (λ b. cond b t.event.at (at_event past n)) (not_le (length past) n less)

pub till : (addresses : Addresses) (turns : List Turn) (at n : ℕ) → AllLegal addresses turns → NotBefore turns at
    → at_event turns n ≤ at
till addresses [] at n legal last = omega arith
till addresses (t ∷ past) at n legal last = ⊎_elim
    (λ less. let k = before t past n less in let r = till addresses past t.event.at n legal.1 legal.0.later in
    omega (arith, k, r, last))
    (λ le. let k = here t past n le in omega (arith, k, last)) (cases_lt n (length past))

rises : (addresses : Addresses) (turns : List Turn) (i j : ℕ) → AllLegal addresses turns → i ≤ j
    → at_event turns i ≤ at_event turns j
rises addresses [] i j legal le = omega arith
rises addresses (t ∷ past) i j legal le = by (rises addresses past i j legal.1 le) (cases_lt i (length past))
    (cases_lt j (length past))
  where
    by : at_event past i ≤ at_event past j → (i < length past) ⊎ (length past ≤ i) → (j < length past)
        ⊎ (length past ≤ j)
        → at_event (t ∷ past) i ≤ at_event (t ∷ past) j
    by r (inl early) (inl soon) =
        let a = before t past i early in let b = before t past j soon in omega (arith, a, b, r)
    by r (inl early) (inr late) =
        let a = before t past i early in let b = here t past j late in
        let k = till addresses past t.event.at i legal.1 legal.0.later in omega (arith, a, b, k)
    by r (inr behind) q =
        let a = here t past i behind in let b = here t past j (omega (arith, behind, le)) in omega (arith, a, b)

abbrev pub both : List Turn → clocks.Clocks
both turns = record { client = at_event turns; server = at_event turns }

paced : (addresses : Addresses) (turns : List Turn) → AllLegal addresses turns
    → layers.KeepsPace (at_event turns) (at_event turns)
paced addresses turns legal = record {
  rises = λ i j le. rises addresses turns i j legal le;
  pace = λ i j passed le short is. omega (arith, is);
}

-- what is given out is an end's
from_end : (o : Option Packet) (at : ℕ) (end : Endpoint) (g : Given) → Ever (λ h. h ≡ g) (given_as at end o)
    → g.from ≡ end
from_end (Some p) at end g (inl h) = sym (ap (λ (x : Given). x.from) h)
from_end (Some p) at end g (inr h) = absurd h
from_end None at end g h = absurd h

of_entry : (addresses : Addresses) (at : ℕ) (e : Entry) (g : Given) → Ever (λ h. h ≡ g) (given_by addresses at e)
    → (g.from ≡ addresses.client) ⊎ (g.from ≡ addresses.server)
of_entry addresses at (OfClient (C.NextOut o)) g h = inl (from_end o at addresses.client g h)
of_entry addresses at (OfServer (S.NextOut o)) g h = inr (from_end o at addresses.server g h)
of_entry addresses at _ g h = absurd h

of_entries : (addresses : Addresses) (at : ℕ) (es : List Entry) (g : Given)
    → Ever (λ h. h ≡ g) (all_of (given_by addresses at) es)
    → (g.from ≡ addresses.client) ⊎ (g.from ≡ addresses.server)
of_entries addresses at [] g h = absurd h
of_entries addresses at (e ∷ es) g h = ⊎_elim (of_entry addresses at e g) (of_entries addresses at es g)
    (Ever_append (λ x. x ≡ g) (given_by addresses at e) (all_of (given_by addresses at) es) h)

of_turns : (addresses : Addresses) (turns : List Turn) (g : Given)
    → Ever (λ h. h ≡ g) (all_of (given_in addresses) turns)
    → (g.from ≡ addresses.client) ⊎ (g.from ≡ addresses.server)
of_turns addresses [] g h = absurd h
of_turns addresses (t ∷ past) g h = ⊎_elim (of_entries addresses t.event.at t.entries g) (of_turns addresses past g)
    (Ever_append (λ x. x ≡ g) (given_in addresses t) (all_of (given_in addresses) past) h)

module _ (addresses : Addresses) (whole : List Turn) where
  shown : (end : Endpoint) (n at : ℕ) → at_event whole n ≡ at → (end ≡ addresses.client) ⊎ (end ≡ addresses.server)
      → clocks.Shows addresses (both whole) n end at
  shown end n at is (inl h) = inl (h, is)
  shown end n at is (inr h) = inr (h, is)

  comes : (past : List Turn) (at : ℕ) (what : What) → at_event whole (length past) ≡ at → MayCome addresses past at what
      → clocks.MayCome addresses (both whole) past at what
  comes past at (Deliver number) is m = (
    m.0,
    m.1,
    shown m.0.packet.to (length past) at is m.2,
    (
      at,
      shown m.0.from (length past) at is
          (of_turns addresses past m.0 (Ever_of_Sometime _ (λ h. h ≡ m.0) (λ p h k. inl k.0)
          (all_of (given_in addresses) past) m.1)),
      m.3,
    ),
  )
  comes past at (StrangerToClient from bytes) is m = (m.0, m.1, is)
  comes past at (StrangerToServer from bytes) is m = (m.0, m.1, is)
  comes past at (Calls r) is m = is
  comes past at (Observes path) is m = is
  comes past at (Cancels number) is m = is
  comes past at (Forgets number) is m = is
  comes past at (Sets path format body) is m = is
  comes past at (Removes path) is m = is
  comes past at TickClient is m = is
  comes past at TickServer is m = is

  each : (turns : List Turn) → ((n : ℕ) → n < length turns → at_event whole n ≡ at_event turns n)
      → AllLegal addresses turns
      → Always (clocks.IsLegal addresses (both whole)) turns
  each [] same legal = tt
  each (t ∷ past) same legal = (
    record {
      at = legal.0.at;
      word = legal.0.word;
      range = legal.0.range;
      comes = comes past t.event.at t.event.what
          (same (length past) (omega arith) ∙ here t past (length past) (omega arith)) legal.0.comes;
    },
    each past (λ n less. same n (omega (arith, less)) ∙ before t past n less) legal.1,
  )

-- .. by one clock, read twice
pub by_one : (config : Config) (turns : List Turn) → Legal config turns
    → (f : ℕ → ℕ) × clocks.Legal (record { client = f; server = f }) config turns
by_one config turns legal = (
  at_event turns,
  record {
    clocks = record {
      near = paced config.addresses turns legal.events;
      far = paced config.addresses turns legal.events;
    };
    range = legal.range;
    events = each config.addresses turns turns (λ n less. refl) legal.events;
  },
)

pub both_legal : (config : Config) (turns : List Turn) → Legal config turns → clocks.Legal (both turns) config turns
both_legal config turns legal = record {
  clocks = record {
    near = paced config.addresses turns legal.events;
    far = paced config.addresses turns legal.events;
  };
  range = legal.range;
  events = each config.addresses turns turns (λ n less. refl) legal.events;
}

pub by_two : (config : Config) (turns : List Turn) → Legal config turns
    → (c : clocks.Clocks) × clocks.Legal c config turns
by_two config turns legal = (both turns, both_legal config turns legal)
