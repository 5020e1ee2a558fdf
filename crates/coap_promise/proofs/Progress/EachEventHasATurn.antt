-- Each legal event has a turn.
use Rattle.std.proofs.Common.{◌≡◌, ◌≤◌, inl, inr, ℕ, Bool, true, false, not, Some, None, List, [], ◌∷◌, ◌++◌, map}
use Rattle.std.proofs.Common.{length, length-append, refl, ap, sym}
use Rattle.std.proofs.Common.{subst, ◌∙◌, append_assoc, cond, arith}
use Rattle.coap_types.specs.Path.{same_path}
use Rattle.coap_types.specs.declared.endpoint.Endpoint.{Endpoint}
use Rattle.std.proofs.lemmas.Bool.{lt-ltb}
use Rattle.coap_layer.specs.Machine.State as layer
use Rattle.coap_client.specs.Trace as C
use Rattle.coap_client.specs.Law.{ClientLaw}
use Rattle.coap_exchange.specs.Endings.{UpToIdle, all_taken}
use Rattle.coap_server.specs.Trace as S
use Rattle.coap_server.specs.Law.{ServerLaw, own_of}
use Rattle.coap_server.specs.declared.limits.TheConstants.{MAX_DELAYS as max_delays, MAX_PLAINS as max_plains}
use Rattle.coap_server.specs.Deferring.{others}
use Rattle.coap_client_laws.specs.Follows.GoesOn as client_goes_spec
use Rattle.coap_server_laws.specs.Follows.GoesOn as server_goes_spec
use Rattle.coap_server_laws.proofs.Facts.Laws as server_facts
use Rattle.coap_client_laws.proofs.Facts.EachCall as client_calls
use Rattle.coap_record.specs.Events.{Config, What, Calls, Observes, Cancels, Forgets, Sets, Removes}
use Rattle.coap_record.specs.Events.{TickClient, TickServer, Deliver}
use Rattle.coap_record.specs.Events.{StrangerToClient, StrangerToServer, Event}
use Rattle.coap_promise.specs.GoesOn.{turn_of, GoesOn, MayRun, HasRecord}
use Rattle.coap_record.specs.Legal.{IsConfig, MayCome}
use Rattle.coap_promise.specs.NoFault.{CanCome, HasTurn}
use Rattle.coap_record.specs.Record.{Entry, OfClient, OfServer, Turn, entries_of, client_of, server_of, begun_with}
use Rattle.coap_record.specs.Record.{server_trace, OnClient, OnServer, DelayOf, PlainOf, gives_it}
use Rattle.coap_record.specs.Record.{IsOne, AreTicks, FeedsClient, FeedsServer, Makes, ClientTick, ServerTick, RecordOf}
use Rattle.coap_record.proofs.Facts.CallsOfEnds.{client_client, client_server, server_server, server_client}
use Rattle.coap_record.proofs.Facts.FewPlain.{few_plain, may_be}
use Rattle.coap_record.specs.declared.addresses.Addresses.{Addresses}

-- ticks, in the words of a record
are_ticks : {X : Type 0} (IsTick : Bool → X → Type 0) (calls : List X) → UpToIdle IsTick calls
    → AreTicks IsTick false calls
are_ticks IsTick [] h = h
are_ticks IsTick (c ∷ calls) h = h

module _ (config : Config) (events : List Event) (turns : List Turn) (run : RecordOf config events turns)
    (at word : ℕ) where
  abbrev event : What → Event
  event what = record { at = at; word = word; what = what }

  abbrev all : List Entry
  all = entries_of turns

  abbrev clients : List C.Call
  clients = client_of all

  abbrev servers : List S.Call
  servers = server_trace config all

  client_goes_on : client_goes_spec.GoesOn config.addresses.server config.client_sizes config.client_setup clients
  client_goes_on = client_calls.goes_on config.addresses.server config.client_sizes config.client_setup clients
      run.client

  server_goes_on : server_goes_spec.GoesOn config.limits config.server_szx config.server_setup servers
  server_goes_on = server_facts.goes config.limits config.server_szx config.server_setup servers run.server

  -- a turn that makes these entries
  follows : (what : What) → CanCome config.addresses turns what → (entries : List Entry)
      → Makes config.addresses turns at word what false entries
      → ClientLaw config.addresses.server config.client_sizes config.client_setup (client_of (entries ++ all))
      → ServerLaw config.limits config.server_szx config.server_setup (server_trace config (entries ++ all))
      → HasTurn config events turns (event what)
  follows what may entries makes on_client on_server = record {
    entries = entries;
    made = record {
      events_are = ap (λ es. event what ∷ es) run.events_are;
      made = (makes, run.made);
      client = on_client;
      server = on_server;
    };
  }

  -- a turn of the client: its calls, all that it has out, and its reports
  of_client : (what : What) → CanCome config.addresses turns what → (calls : List C.Call)
      → ClientLaw config.addresses.server config.client_sizes config.client_setup (calls ++ clients)
      → ((entries : List Entry) → OnClient calls entries → Makes config.addresses turns at word what false entries)
      → HasTurn config events turns (event what)
  of_client what may calls law makes =
      let outs = (client_calls.comes_to_rest config.addresses.server config.client_sizes config.client_setup
      (calls ++ clients) law).outs in
      let reports = (client_calls.comes_to_rest config.addresses.server config.client_sizes config.client_setup
      (all_taken C.NextOut outs.0 ++ (calls ++ clients)) outs.1).reports in
      let taken : List C.Call = C.NextOut None ∷ (map (λ p. C.NextOut (Some p)) outs.0 ++ calls) in
      let given : List C.Call = map (λ r. C.NextReport (Some r)) reports.0 in
      let list : List C.Call = C.NextReport None ∷ (given ++ taken) in
      let same : list ++ clients ≡ all_taken C.NextReport reports.0
      ++ (all_taken C.NextOut outs.0 ++ (calls ++ clients)) =
      ap (λ xs. C.NextReport None ∷ xs)
      (append_assoc given taken clients ∙ ap (λ xs. given ++ C.NextOut None ∷ xs)
      (append_assoc (map (λ p. C.NextOut (Some p)) outs.0) calls clients)) in
      follows what may (map OfClient list) (makes (map OfClient list)
      (record { outs = outs.0; reports = reports.0; is = refl }))
      (subst (ClientLaw config.addresses.server config.client_sizes config.client_setup)
      (sym (client_client list all ∙ same)) reports.1)
      (subst (λ xs. ServerLaw config.limits config.server_szx config.server_setup (xs ++ begun_with config))
      (sym (server_client list all)) run.server)

  -- a turn of the server: its calls, and all that it has out
  of_server : (what : What) → CanCome config.addresses turns what → (calls : List S.Call)
      → ServerLaw config.limits config.server_szx config.server_setup (calls ++ servers)
      → ((entries : List Entry) → OnServer calls entries → Makes config.addresses turns at word what false entries)
      → HasTurn config events turns (event what)
  of_server what may calls law makes =
      let outs = (server_facts.rests config.limits config.server_szx config.server_setup (calls ++ servers) law).outs in
      let given : List S.Call = map (λ p. S.NextOut (Some p)) outs.0 in
      let list : List S.Call = S.NextOut None ∷ (given ++ calls) in
      let same : (list ++ server_of all) ++ begun_with config ≡ all_taken S.NextOut outs.0 ++ (calls ++ servers) =
      append_assoc list (server_of all) (begun_with config)
      ∙ ap (λ xs. S.NextOut None ∷ xs) (append_assoc given calls servers) in
      follows what may (map OfServer list) (makes (map OfServer list) (record { outs = outs.0; is = refl }))
      (subst (ClientLaw config.addresses.server config.client_sizes config.client_setup) (sym (client_server list all))
      run.client)
      (subst (ServerLaw config.limits config.server_szx config.server_setup)
      (sym (ap (λ xs. xs ++ begun_with config) (server_server list all) ∙ same)) outs.1)

  -- a datagram
  to_client : (what : What) → CanCome config.addresses turns what → (from : Endpoint) (bytes : List ℕ)
      → ((calls : List C.Call) (entries : List Entry) → IsOne (FeedsClient at word from bytes) false calls
      → OnClient calls entries → Makes config.addresses turns at word what false entries)
      → HasTurn config events turns (event what)
  to_client what may from bytes makes =
      let k = client_goes_on.feeds at from bytes word in
      let call : C.Call = C.Feeds at from bytes word k.0 k.1 k.2 k.3 k.4 k.5 in
      of_client what may (call ∷ []) k.6 (λ entries on. makes (call ∷ []) entries
      (call, (k.0, k.1, k.2, k.3, k.4, k.5, refl), refl) on)

  to_server : (what : What) → CanCome config.addresses turns what → (from : Endpoint) (bytes : List ℕ)
      → ((calls : List S.Call) (entries : List Entry) → IsOne (FeedsServer at word from bytes) false calls
      → OnServer calls entries → Makes config.addresses turns at word what false entries)
      → HasTurn config events turns (event what)
  to_server what may from bytes makes =
      let k = server_goes_on.feeds at from bytes word in
      let call : S.Call = S.Feeds at from bytes word k.0 k.1 k.2 k.3 in
      of_server what may (call ∷ []) k.4 (λ entries on. makes (call ∷ []) entries
      (call, (k.0, k.1, k.2, k.3, refl), refl) on)

  by_what : (what : What) → CanCome config.addresses turns what → HasTurn config events turns (event what)
  by_what (Calls r) may =
      let k = client_goes_on.calls at r in
      let call : C.Call = C.Calls at r k.0 in
      of_client (Calls r) may (call ∷ []) k.1 (λ entries on. (call ∷ [], (call, (k.0, refl), refl), on))
  by_what (Observes path) may =
      let k = client_goes_on.observes at path in
      let call : C.Call = C.Observes at path k.0 in
      of_client (Observes path) may (call ∷ []) k.1 (λ entries on. (call ∷ [], (call, (k.0, refl), refl), on))
  by_what (Cancels number) may =
      let k = client_goes_on.cancels at number in
      let call : C.Call = C.Cancels at number k.0 in
      of_client (Cancels number) may (call ∷ []) k.1 (λ entries on. (call ∷ [], ((call, (k.0, refl), refl), refl), on))
  by_what (Forgets number) may =
      let k = client_goes_on.forgets number in
      let call : C.Call = C.Forgets number k.0 k.1 in
      of_client (Forgets number) may (call ∷ []) k.2
      (λ entries on. (call ∷ [], ((call, (k.0, k.1, refl), refl), refl), on))
  by_what (Sets path format body) may =
      let k = server_goes_on.sets at path format body in
      let call : S.Call = S.Sets at path format body k.0 k.1 in
      of_server (Sets path format body) may (call ∷ []) k.2
      (λ entries on. (call ∷ [], (call, (k.0, k.1, refl), refl), on))
  by_what (Removes path) may =
      let k = server_goes_on.removes at path in
      let call : S.Call = S.Removes at path k.0 k.1 in
      of_server (Removes path) may (call ∷ []) k.2
      (λ entries on. (call ∷ [], ((call, (k.0, k.1, refl), refl), refl), on))
  by_what TickClient may =
      let k = (client_calls.comes_to_rest config.addresses.server config.client_sizes config.client_setup clients
      run.client).ticks at
      word in
      of_client TickClient may k.0 k.2 (λ entries on. (k.0, are_ticks (ClientTick at word) k.0 k.1, on))
  by_what TickServer may =
      let k = (server_facts.rests config.limits config.server_szx config.server_setup servers run.server).ticks at
      word in
      of_server TickServer may k.0 k.2 (λ entries on. (k.0, are_ticks (ServerTick at word) k.0 k.1, on))
  by_what (StrangerToClient from bytes) may = to_client (StrangerToClient from bytes) may from bytes
      (λ calls entries one on. (calls, one, on))
  by_what (StrangerToServer from bytes) may = to_server (StrangerToServer from bytes) may from bytes
      (λ calls entries one on. (calls, one, on))
  by_what (Deliver number) may =
      let g = may.0 in
      let is = may.1 in
      elim may.2 as (λ u. HasTurn config events turns (event (Deliver number))) [
        | inl to ↦ to_client (Deliver number) may g.from g.packet.bytes
            (λ calls entries one on. (g, is, inr (to, calls, one, on)))
        | inr to ↦ to_server (Deliver number) may g.from g.packet.bytes
            (λ calls entries one on. (g, is, inl (to, calls, one, on)))
      ]

pub has_turn : (config : Config) (events : List Event) (turns : List Turn) (event : Event)
    → RecordOf config events turns
    → CanCome config.addresses turns event.what → HasTurn config events turns event
has_turn config events turns event run may = by_what config events turns run event.at event.word event.what may

can_come : (addresses : Addresses) (past : List Turn) (at : ℕ) (what : What) → MayCome addresses past at what
    → CanCome addresses past what
can_come addresses past at (Deliver number) m = (m.0, m.1, m.2)
can_come addresses past at _ m = tt

pub goes_on : (config : Config) → GoesOn config
goes_on config events turns event run legal may =
    let k = has_turn config events turns event run (can_come config.addresses turns event.at event.what may.comes) in
    record {
      entries = k.entries;
      made = k.made;
      legal = record {
        range = legal.range;
        events = (
          record { at = may.at; word = may.word; range = may.range; later = may.later; comes = may.comes },
          legal.events,
        );
      };
    }

-- the beginning

few_others : (path : List (List ℕ)) (ds : List S.Delay) → length (others path ds) ≤ length ds
few_others path [] = omega arith
few_others path (d ∷ ds) = by (not (same_path d.path path)) (few_others path ds)
  where
    by : (b : Bool) → length (others path ds) ≤ length ds
        → length (cond b (d ∷ others path ds) (others path ds)) ≤ length (d ∷ ds)
    by true h = omega (arith, h)
    by false h = omega (arith, h)

module _ (config : Config) where
  abbrev begun_by : List S.Delay → List S.Call
  begun_by ds = map gives_it (map (λ d. DelayOf d) ds)

  few_delays : (ds : List S.Delay) → length (own_of config.limits config.server_szx (begun_by ds)).delays ≤ length ds
  few_delays [] = omega arith
  few_delays (d ∷ ds) =
      let have = (own_of config.limits config.server_szx (begun_by ds)).delays in
      let k = few_delays ds in
      let o = few_others d.path have in
      let e = length-append (others d.path have) (record { path = d.path; ms = d.ms } ∷ []) in
      omega (arith, k, o, e)

  begins_by : (ds : List S.Delay) → length ds ≤ max_delays
      → ServerLaw config.limits config.server_szx config.server_setup (begun_by ds)
  begins_by [] few = record {
    rows = tt;
    exchanges =
        record { rows = tt; left = layer.start config.server_setup; layer = refl };
  }
  begins_by (d ∷ ds) few =
      let have = (own_of config.limits config.server_szx (begun_by ds)).delays in
      let k = few_delays ds in
      let o = few_others d.path have in
      let law = begins_by ds (omega (arith, few)) in
      record {
        rows = (sym (lt-ltb (length (others d.path have)) max_delays (omega (arith, few, k, o))), law.rows);
        exchanges = law.exchanges;
      }

  abbrev plain_by : List (List (List ℕ)) → List S.Delay → List S.Call
  plain_by ps ds = map gives_it (map (λ p. PlainOf p) ps ++ map (λ d. DelayOf d) ds)

  begins_plain : (ps : List (List (List ℕ))) (ds : List S.Delay) → length ps ≤ max_plains → length ds ≤ max_delays
      → ServerLaw config.limits config.server_szx config.server_setup (plain_by ps ds)
  begins_plain [] ds few_ps few = begins_by ds few
  begins_plain (p ∷ ps) ds few_ps few =
      let have = (own_of config.limits config.server_szx (plain_by ps ds)).plains in
      let k = few_plain config.limits config.server_szx ps ds in
      let law = begins_plain ps ds (omega (arith, few_ps)) few in
      record {
        rows = (sym (may_be p have (omega (arith, few_ps, k))), law.rows);
        exchanges = law.exchanges;
      }

  begins : IsConfig config → RecordOf config [] []
  begins range = record {
    events_are = refl;
    made = tt;
    client = record {
      rows = tt;
      exchanges = record
          { rows = tt; left = layer.start config.client_setup; layer = refl };
    };
    server = begins_plain config.plains config.delays range.few_plains range.few;
  }

  pub has_record : IsConfig config → (events : List Event) → MayRun config events → HasRecord config events
  has_record range [] may = (
    [],
    record {
      made = begins range;
      legal = record { range = range; events = tt };
      all_made = tt;
    },
  )
  has_record range (event ∷ events) may =
      let k = has_record range events may.1 in
      let f = goes_on config events k.0 event k.1.made k.1.legal (may.0 k.0 k.1) in
      (turn_of event f.entries ∷ k.0, record { made = f.made; legal = f.legal; all_made = (refl, k.1.all_made) })
