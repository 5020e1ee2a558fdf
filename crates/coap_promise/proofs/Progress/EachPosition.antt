-- At each position of a record it goes on, and what is refused memory is lost.
use Rattle.std.proofs.Common.{◌≡◌, inl, inr, ℕ, true, List, [], ◌∷◌, ◌++◌, refl, subst}
use Rattle.coap_types.specs.Past.{Always}
use Rattle.coap_types.proofs.Facts.Traces.{Always_back}
use Rattle.coap_client.specs.Law.{ClientLaw}
use Rattle.coap_server.specs.Law.{ServerLaw}
use Rattle.coap_client_laws.proofs.Facts.Laws as client_facts
use Rattle.coap_server_laws.proofs.Facts.Laws as server_facts
use Rattle.coap_record.specs.Events.{Config, Event, What, Cancels, Forgets, Sets, Removes}
use Rattle.coap_record.specs.Events.{TickClient, TickServer, Deliver, StrangerToServer}
use Rattle.coap_record.specs.Legal.{Legal}
use Rattle.coap_promise.specs.NoFault.{events_of, IsLost, NeverFaults, NoFault}
use Rattle.coap_record.specs.Record.{Entry, OfClient, OfServer, Turn, RecordOf, entries_of, client_of, server_trace}
use Rattle.coap_record.specs.Record.{OnClient, OnServer, Makes}
use Rattle.coap_promise.proofs.Progress.EachEventHasATurn.{has_turn, goes_on}
use Rattle.coap_record.specs.declared.addresses.Addresses.{Addresses}

-- what was before stands in the laws of both ends
module _ (config : Config) where
  abbrev ForClient : List Entry → Type 0
  ForClient t = ClientLaw config.addresses.server config.client_sizes config.client_setup (client_of t)

  abbrev ForServer : List Entry → Type 0
  ForServer t = ServerLaw config.limits config.server_szx config.server_setup (server_trace config t)

  client_behind : (later past : List Entry) → ForClient (later ++ past) → ForClient past
  client_behind [] past law = law
  client_behind (OfClient c ∷ later) past law = client_behind later past
      (client_facts.back config.addresses.server config.client_sizes config.client_setup (c ∷ [])
      (client_of (later ++ past)) law)
  client_behind (OfServer c ∷ later) past law = client_behind later past law

  server_behind : (later past : List Entry) → ForServer (later ++ past) → ForServer past
  server_behind [] past law = law
  server_behind (OfClient c ∷ later) past law = server_behind later past law
  server_behind (OfServer c ∷ later) past law = server_behind later past
      (server_facts.back config.limits config.server_szx config.server_setup (c ∷ [])
      (server_trace config (later ++ past)) law)

  client_before : (later past : List Turn) → ForClient (entries_of (later ++ past)) → ForClient (entries_of past)
  client_before [] past law = law
  client_before (t ∷ later) past law = client_before later past
      (client_behind t.entries (entries_of (later ++ past)) law)

  server_before : (later past : List Turn) → ForServer (entries_of (later ++ past)) → ForServer (entries_of past)
  server_before [] past law = law
  server_before (t ∷ later) past law = server_before later past
      (server_behind t.entries (entries_of (later ++ past)) law)

  -- .. and is a record
  record_before : (events : List Event) (later past : List Turn) → RecordOf config events (later ++ past)
      → RecordOf config (events_of past) past
  record_before events later past run = record {
    events_are = refl;
    made = Always_back _ later past run.made;
    client = client_before later past run.client;
    server = server_before later past run.server;
  }

  legal_before : (later past : List Turn) → Legal config (later ++ past) → Legal config past
  legal_before later past legal = record { range = legal.range; events = Always_back _ later past legal.events }

-- an input that is refused memory has no call
lost : (addresses : Addresses) (past : List Turn) (at word : ℕ) (what : What) (entries : List Entry)
    → Makes addresses past at word what true entries
    → IsLost addresses past at word what entries
lost addresses past at word (Cancels number) entries m = let e = m.1.1 in cc e
lost addresses past at word (Forgets number) entries m = let e = m.1.1 in cc e
lost addresses past at word (Sets path format body) entries m = subst (λ cs. OnServer cs entries) m.1 m.2
lost addresses past at word (Removes path) entries m = let e = m.1.1 in cc e
lost addresses past at word TickClient entries m = m
lost addresses past at word TickServer entries m = m
lost addresses past at word (StrangerToServer from bytes) entries m = subst (λ cs. OnServer cs entries) m.1 m.2
lost addresses past at word (Deliver number) entries m = (
  m.0,
  m.1,
  elim m.2 [
    | inl d ↦ inl (d.0, subst (λ cs. OnServer cs entries) d.2 d.3)
    | inr d ↦ inr (d.0, subst (λ cs. OnClient cs entries) d.2 d.3)
  ],
)
lost addresses past at word _ entries m = subst (λ cs. OnClient cs entries) m.1 m.2

each_lost : (addresses : Addresses) (turns : List Turn)
    → Always (λ past t. Makes addresses past t.event.at t.event.word t.event.what t.refused t.entries) turns
    → Always (λ past t. t.refused ≡ true → IsLost addresses past t.event.at t.event.word t.event.what t.entries) turns
each_lost addresses [] made = tt
each_lost addresses (t ∷ past) made = (
  λ is. lost addresses past t.event.at t.event.word t.event.what t.entries
      (subst (λ b. Makes addresses past t.event.at t.event.word t.event.what b t.entries) is made.0),
  each_lost addresses past made.1,
)

pub no_fault : (config : Config) (events : List Event) (turns : List Turn) → RecordOf config events turns
    → Legal config turns → NoFault config turns
no_fault config events turns run legal = record {
  goes_on = λ later past is event may.
      goes_on config (events_of past) past event
      (record_before config events later past (subst (RecordOf config events) is run))
      (legal_before config later past (subst (Legal config) is legal)) may;
  refused_is_lost = each_lost config.addresses turns run.made;
}

-- of any record
pub never_faults : (config : Config) (events : List Event) (turns : List Turn) → RecordOf config events turns
    → NeverFaults config turns
never_faults config events turns run = record {
  goes_on = λ later past is event may.
      has_turn config (events_of past) past event
      (record_before config events later past (subst (RecordOf config events) is run)) may;
  refused_is_lost = each_lost config.addresses turns run.made;
}
