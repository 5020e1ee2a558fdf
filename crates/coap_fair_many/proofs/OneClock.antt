-- A run that is legal by two clocks that show the same is so by one.
use Rattle.std.proofs.Common.{◌≡◌, ◌≤◌, inl, inr, ⊎_elim, ℕ, List, [], ◌∷◌, length, sym, ◌∙◌, arith}
use Rattle.coap_types.specs.Past.{Always}
use Rattle.coap_types.specs.declared.endpoint.Endpoint.{Endpoint}
use Rattle.coap_promise.specs.Clocks as clocks
use Rattle.coap_promise.specs.Clocks.{Clocks, Shows}
use Rattle.coap_record.specs.Events.{Config, What, Calls, Observes, Cancels, Forgets, Sets, Removes, TickClient}
use Rattle.coap_record.specs.Events.{TickServer, Deliver, StrangerToClient, StrangerToServer}
use Rattle.coap_record.specs.Legal.{NotBefore, MayCome, IsLegal, Legal}
use Rattle.coap_record.specs.Record.{Turn}
use Rattle.coap_record.specs.declared.addresses.Addresses.{Addresses}

module _ (c : Clocks) (same : (n : ℕ) → c.client n ≡ c.server n) (addresses : Addresses) where
  shown : (n : ℕ) (end : Endpoint) (at : ℕ) → Shows addresses c n end at → at ≡ c.server n
  shown n end at s = ⊎_elim (λ h. sym h.1 ∙ same n) (λ h. sym h.1) s

  -- the one clock shows the moment of the event
  moment : (past : List Turn) (at : ℕ) (what : What) → clocks.MayCome addresses c past at what
      → at ≡ c.server (length past)
  moment past at (Deliver number) m = shown (length past) (m.0).packet.to at m.2
  moment past at (StrangerToClient from bytes) m = sym m.2 ∙ same (length past)
  moment past at (StrangerToServer from bytes) m = sym m.2
  moment past at (Sets path format body) m = sym m
  moment past at (Removes path) m = sym m
  moment past at TickServer m = sym m
  moment past at TickClient m = sym m ∙ same (length past)
  moment past at (Calls r) m = sym m ∙ same (length past)
  moment past at (Observes path) m = sym m ∙ same (length past)
  moment past at (Cancels number) m = sym m ∙ same (length past)
  moment past at (Forgets number) m = sym m ∙ same (length past)

  comes : (past : List Turn) (at : ℕ) (what : What) → clocks.MayCome addresses c past at what
      → MayCome addresses past at what
  comes past at (Deliver number) m =
      let is = shown (length past) (m.0).packet.to at m.2 in
      let given = shown (length past) (m.0).from m.3.0 m.3.1 in
      let till = m.3.2 in (
        m.0,
        m.1,
        ⊎_elim (λ h. inl h.0) (λ h. inr h.0) m.2,
        omega (arith, is, given, till),
      )
  comes past at (StrangerToClient from bytes) m = (m.0, m.1)
  comes past at (StrangerToServer from bytes) m = (m.0, m.1)
  comes past at (Sets path format body) m = tt
  comes past at (Removes path) m = tt
  comes past at TickServer m = tt
  comes past at TickClient m = tt
  comes past at (Calls r) m = tt
  comes past at (Observes path) m = tt
  comes past at (Cancels number) m = tt
  comes past at (Forgets number) m = tt

  module _ (rises : (i j : ℕ) → i ≤ j → c.server i ≤ c.server j) where
    later : (past : List Turn) (at : ℕ) → at ≡ c.server (length past) → Always (clocks.IsLegal addresses c) past
        → NotBefore past at
    later [] at is legal = tt
    later (turn ∷ past) at is legal =
        let old = moment past turn.event.at turn.event.what legal.0.comes in
        let up = rises (length past) (length (turn ∷ past)) (omega arith) in
        omega (arith, is, old, up)

    pub all_legal : (turns : List Turn) → Always (clocks.IsLegal addresses c) turns → Always (IsLegal addresses) turns
    all_legal [] legal = tt
    all_legal (turn ∷ past) legal = (
      record {
        at = legal.0.at;
        word = legal.0.word;
        range = legal.0.range;
        later = later past turn.event.at (moment past turn.event.at turn.event.what legal.0.comes) legal.1;
        comes = comes past turn.event.at turn.event.what legal.0.comes;
      },
      all_legal past legal.1,
    )

pub one_clock : (c : Clocks) → ((n : ℕ) → c.client n ≡ c.server n) → (config : Config) (turns : List Turn)
    → clocks.Legal c config turns → Legal config turns
one_clock c same config turns legal = record {
  range = legal.range;
  events = all_legal c same config.addresses (λ i j le. legal.clocks.far.rises i j le) turns legal.events;
}
