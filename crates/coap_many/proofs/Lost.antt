-- An input that is refused memory is lost.
use Rattle.std.proofs.Common.{◌≡◌, inl, inr, ℕ, true, List, [], ◌∷◌, subst}
use Rattle.coap_types.specs.Past.{Always}
use Rattle.coap_types.specs.declared.endpoint.Endpoint.{Endpoint}
use Rattle.coap_record.specs.Events as E
use Rattle.coap_promise.specs.NoFault as N
use Rattle.coap_record.specs.Record as W
use Rattle.coap_record.specs.declared.addresses.Addresses.{Addresses}
use Rattle.coap_many.specs.Clients.{Config}
use Rattle.coap_many.specs.Entries.{Entry, Turn}
use Rattle.coap_many.specs.Events.{What, Acts, Sets, Removes, TickServer, Deliver, StrangerToClient, StrangerToServer}
use Rattle.coap_many.specs.Events.{act_of}
use Rattle.coap_many.specs.Lost.{LosesAt, IsLost, RefusedAreLost}
use Rattle.coap_many.specs.Record.{MakesAt, Makes, AllMade}

-- in a world of two
lost : (addresses : Addresses) (past : List W.Turn) (at word : ℕ) (what : E.What) (entries : List W.Entry)
    → W.Makes addresses past at word what true entries → N.IsLost addresses past at word what entries
lost addresses past at word (E.Cancels number) entries m = let e = m.1.1 in cc e
lost addresses past at word (E.Forgets number) entries m = let e = m.1.1 in cc e
lost addresses past at word (E.Sets path format body) entries m = subst (λ cs. W.OnServer cs entries) m.1 m.2
lost addresses past at word (E.Removes path) entries m = let e = m.1.1 in cc e
lost addresses past at word E.TickClient entries m = m
lost addresses past at word E.TickServer entries m = m
lost addresses past at word (E.StrangerToServer from bytes) entries m = subst (λ cs. W.OnServer cs entries) m.1 m.2
lost addresses past at word (E.Deliver number) entries m = (
  m.0,
  m.1,
  elim m.2 [
    | inl d ↦ inl (d.0, subst (λ cs. W.OnServer cs entries) d.2 d.3)
    | inr d ↦ inr (d.0, subst (λ cs. W.OnClient cs entries) d.2 d.3)
  ],
)
lost addresses past at word _ entries m = subst (λ cs. W.OnClient cs entries) m.1 m.2

module _ (config : Config) where
  at_one : (who : Endpoint) (at word : ℕ) (what : E.What) (entries : List Entry)
      → MakesAt config who at word what true entries → LosesAt config who at word what entries
  at_one who at word what entries m =
      (m.0, lost (record { client = who; server = config.server }) [] at word what m.0 m.1, m.2)

  is_lost : (past : List Turn) (at word : ℕ) (what : What) (entries : List Entry)
      → Makes config past at word what true entries → IsLost config past at word what entries
  is_lost past at word (Acts who act) entries m = at_one who at word (act_of act) entries m
  is_lost past at word (Sets path format body) entries m =
      at_one config.server at word (E.Sets path format body) entries m
  is_lost past at word (Removes path) entries m = at_one config.server at word (E.Removes path) entries m
  is_lost past at word TickServer entries m = at_one config.server at word E.TickServer entries m
  is_lost past at word (Deliver number) entries m = (
    m.0,
    m.1,
    elim m.2 [
      | inl d ↦ inl (
        d.0,
        at_one config.server at word (E.StrangerToServer m.0.from m.0.packet.bytes) entries d.1,
      )
      | inr d ↦ inr (
        d.0,
        at_one m.0.packet.to at word (E.StrangerToClient m.0.from m.0.packet.bytes) entries d.1,
      )
    ],
  )
  is_lost past at word (StrangerToClient who from bytes) entries m =
      at_one who at word (E.StrangerToClient from bytes) entries m
  is_lost past at word (StrangerToServer from bytes) entries m =
      at_one config.server at word (E.StrangerToServer from bytes) entries m

  each_lost : (turns : List Turn) → AllMade config turns
      → Always (λ past (t : Turn). t.refused ≡ true → IsLost config past t.event.at t.event.word t.event.what t.entries)
      turns
  each_lost [] made = tt
  each_lost (t ∷ past) made = (
    (λ is. is_lost past t.event.at t.event.word t.event.what t.entries
        (subst (λ b. Makes config past t.event.at t.event.word t.event.what b t.entries) is made.0)),
    each_lost past made.1,
  )

pub refused_are_lost : RefusedAreLost
refused_are_lost config events turns run = each_lost config turns run.made
