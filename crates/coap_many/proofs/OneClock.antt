-- A run of two that is legal by two clocks which show the same is legal by one.
use Rattle.std.proofs.Common.{◌≡◌, ◌≤◌, ◌+◌, inl, inr, ⊎_elim, ℕ, List, [], ◌∷◌, length, sym, subst, ◌∙◌, arith}
use Rattle.coap_types.specs.Past.{Always}
use Rattle.coap_types.specs.declared.endpoint.Endpoint.{Endpoint}
use Rattle.coap_promise.specs.Clocks as by_clocks
use Rattle.coap_record.specs.Events as E
use Rattle.coap_record.specs.Legal as L
use Rattle.coap_record.specs.Record as W
use Rattle.coap_record.specs.declared.addresses.Addresses.{Addresses}

module _ (addresses : Addresses) (c : by_clocks.Clocks) (one : (n : ℕ) → c.client n ≡ c.server n)
    (rises : (i j : ℕ) → i ≤ j → c.client i ≤ c.client j) where
  shown : (n : ℕ) (end : Endpoint) (at : ℕ) → by_clocks.Shows addresses c n end at → c.client n ≡ at
  shown n end at (inl s) = s.1
  shown n end at (inr s) = one n ∙ s.1

  -- the moment of an event is what the clock shows
  moment : (past : List W.Turn) (at : ℕ) (what : E.What) → by_clocks.MayCome addresses c past at what
      → c.client (length past) ≡ at
  moment past at (E.Deliver number) m = shown (length past) m.0.packet.to at m.2
  moment past at (E.StrangerToClient from bytes) m = m.2
  moment past at (E.StrangerToServer from bytes) m = one (length past) ∙ m.2
  moment past at (E.Sets path format body) m = one (length past) ∙ m
  moment past at (E.Removes path) m = one (length past) ∙ m
  moment past at E.TickServer m = one (length past) ∙ m
  moment past at (E.Calls r) m = m
  moment past at (E.Observes path) m = m
  moment past at (E.Cancels number) m = m
  moment past at (E.Forgets number) m = m
  moment past at E.TickClient m = m

  comes : (past : List W.Turn) (at : ℕ) (what : E.What) → by_clocks.MayCome addresses c past at what
      → L.MayCome addresses past at what
  comes past at (E.Deliver number) m = (
    m.0,
    m.1,
    ⊎_elim (λ s. inl s.0) (λ s. inr s.0) m.2,
    subst (λ n. n ≤ m.0.at + L.max_delivery)
        (sym (shown (length past) m.0.from m.3.0 m.3.1) ∙ shown (length past) m.0.packet.to at m.2) m.3.2,
  )
  comes past at (E.StrangerToClient from bytes) m = (m.0, m.1)
  comes past at (E.StrangerToServer from bytes) m = (m.0, m.1)
  comes past at (E.Sets path format body) m = tt
  comes past at (E.Removes path) m = tt
  comes past at E.TickServer m = tt
  comes past at (E.Calls r) m = tt
  comes past at (E.Observes path) m = tt
  comes past at (E.Cancels number) m = tt
  comes past at (E.Forgets number) m = tt
  comes past at E.TickClient m = tt

  not_before : (past : List W.Turn) (at : ℕ) → Always (by_clocks.IsLegal addresses c) past → c.client (length past) ≡ at
      → L.NotBefore past at
  not_before [] at legal is = tt
  not_before (t ∷ past) at legal is =
      let a = moment past t.event.at t.event.what legal.0.comes in
      let r = rises (length past) (length (t ∷ past)) (omega arith) in
      omega (arith, a, r, is)

  each : (turns : List W.Turn) → Always (by_clocks.IsLegal addresses c) turns → L.AllLegal addresses turns
  each [] legal = tt
  each (t ∷ past) legal = (
    record {
      at = legal.0.at;
      word = legal.0.word;
      range = legal.0.range;
      later = not_before past t.event.at legal.1 (moment past t.event.at t.event.what legal.0.comes);
      comes = comes past t.event.at t.event.what legal.0.comes;
    },
    each past legal.1,
  )

pub by_one_clock : (config : E.Config) (c : by_clocks.Clocks) (turns : List W.Turn) → by_clocks.Legal c config turns
    → ((n : ℕ) → c.client n ≡ c.server n) → L.Legal config turns
by_one_clock config c turns legal one = record {
  range = legal.range;
  events = each config.addresses c one legal.clocks.near.rises turns legal.events;
}
