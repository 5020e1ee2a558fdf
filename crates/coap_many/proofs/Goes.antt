-- A record of many goes on with each event that can come: a world of two in which it happens goes on, and the other
-- clients stand still.
use Rattle.std.proofs.Common.{◌≡◌, ◌⊎◌, inl, inr, ℕ, Bool, true, false, List, [], ◌∷◌, ◌++◌, map}
use Rattle.std.proofs.Common.{refl, sym, ap, subst, ◌∙◌, append_assoc, if◌then◌else◌}
use Rattle.std.specs.Prelude.{filter}
use Rattle.coap_types.specs.Past.{Always, all_of}
use Rattle.coap_types.specs.SameEndpoint.{same_endpoint}
use Rattle.coap_types.specs.declared.endpoint.Endpoint.{Endpoint}
use Rattle.coap_types.proofs.Facts.Endpoints.{same_endpoint_is, same_endpoint_self}
use Rattle.coap_client.specs.Law.{ClientLaw}
use Rattle.coap_client_laws.proofs.Facts.Laws as client_facts
use Rattle.coap_server.specs.Law.{ServerLaw}
use Rattle.coap_server.specs.Trace as S
use Rattle.coap_server_laws.proofs.Facts.Laws as server_facts
use Rattle.coap_record.specs.Events as E
use Rattle.coap_promise.specs.NoFault as N
use Rattle.coap_record.specs.Record as W
use Rattle.coap_record.specs.Begins.{begins_with}
use Rattle.coap_many.specs.Clients.{Client, Config, IsClient, IsOfClient, world_of}
use Rattle.coap_many.specs.Events.{Event, Act, Calls, Observes, Cancels, Forgets, Ticks}
use Rattle.coap_many.specs.Events.{What, Acts, Sets, Removes, TickServer, Deliver, StrangerToClient}
use Rattle.coap_many.specs.Events.{StrangerToServer}
use Rattle.coap_many.specs.GoesOn.{CanCome, AllCanCome, HasTurn, GoesOn, events_of}
use Rattle.coap_many.specs.Legal.{IsConfig}
use Rattle.coap_many.specs.Entries.{Entry, OfClient, OfServer, Turn, IsNumber, as_of}
use Rattle.coap_many.specs.Record.{Makes, Delivers, RecordOf}
use Rattle.coap_many.specs.Events.{act_of}
use Rattle.coap_many.specs.Entries.{given_in, entries_of, client_of, server_of, server_trace}
use Rattle.coap_many.specs.View.{view, view_entry, view_entries}
use Rattle.coap_many.specs.Comings.{is_of, number_of}
use Rattle.coap_many.proofs.Entries.{client_view, server_view, all_of_append, the_two}
use Rattle.coap_many.proofs.Numbers.{IsAt, Found, unique, found}
use Rattle.coap_many.proofs.Owned.{one_client}
use Rattle.coap_many.proofs.Seen.{is_member, member, any_past, on_server}
use Rattle.coap_many.proofs.Views.{Sees, sees}

-- what such an event is for the two, and what they make of it made of many
module _ (config : Config) (range : IsConfig config) (me : Endpoint) (mine : IsOfClient config me) (past : List Turn)
    (at word : ℕ)
    (given : all_of (W.given_in (the_two config me at)) (view config me past)
    ≡ filter (is_of config me) (all_of (given_in config) past)) where
  pub record Expects (what : What) : Type 0 where
    pub kind : E.What
    pub can : N.CanCome (the_two config me at) (view config me past) kind
    pub back : (es : List W.Entry) → W.Makes (the_two config me at) (view config me past) at word kind false es
        → Makes config past at word what false (map (as_of me) es)

  act_can : (act : Act) → N.CanCome (the_two config me at) (view config me past) (act_of act)
  act_can (Calls r) = tt
  act_can (Observes path) = tt
  act_can (Cancels number) = tt
  act_can (Forgets number) = tt
  act_can Ticks = tt

  of_act : (act : Act) → Expects (Acts me act)
  of_act act = record {
    kind = act_of act;
    can = act_can act;
    back = λ es m. (
      es,
      any_past (the_two config me at) (the_two config me at) (view config me past) [] at word false es act
          m,
      refl,
    );
  }

  -- the server's calls are of no client
  of_none : (es : List W.Entry) (cs : List S.Call) → es ≡ map W.OfServer cs → map (as_of me) es
      ≡ map (as_of config.server) es
  of_none es cs is = subst (λ l. map (as_of me) l ≡ map (as_of config.server) l) (sym is) (each cs)
    where
      each : (cs : List S.Call) → map (as_of me) (map W.OfServer cs) ≡ map (as_of config.server) (map W.OfServer cs)
      each [] = refl
      each (c ∷ cs) = ap (λ l. OfServer c ∷ l) (each cs)

  at_server : (es : List W.Entry) (calls : List S.Call) → W.OnServer calls es → map (as_of me) es
      ≡ map (as_of config.server) es
  at_server es calls on = of_none es (on_server calls es on).0 (on_server calls es on).1

  made_of : (g : W.Given) (es : List W.Entry) → W.Delivers (the_two config me at) g at word false es
      → Delivers config g at word false (map (as_of me) es)
  made_of g es (inl d) = inl (d.0, (es, (d.1, d.2, d.3), at_server es d.1 d.3))
  made_of g es (inr d) = inr (
    subst (IsOfClient config) (sym d.0) mine,
    (es, (d.1, d.2, d.3), ap (λ w. map (as_of w) es) (sym d.0)),
  )

  swap : (g : W.Given) → (g.packet.to ≡ config.server) ⊎ (g.packet.to ≡ me)
      → (g.packet.to ≡ me) ⊎ (g.packet.to ≡ config.server)
  swap g (inl h) = inr h
  swap g (inr h) = inl h

  of_number : (number : ℕ) (g : W.Given) → IsNumber config number g past
      → (g.packet.to ≡ config.server) ⊎ (g.packet.to ≡ me) → (b : Bool) → is_of config me g ≡ b
      → Expects (Deliver number)
  of_number number g is to true e =
      let f : Found config me number g (all_of (given_in config) past) =
      found config me number g (all_of (given_in config) past) is in
      let n = number_of config me f.before in
      let numbered : W.IsNumber (the_two config me at) n g (view config me past) =
      subst (IsAt n g) (sym given) (f.numbered e) in
      record {
        kind = E.Deliver n;
        can = (g, numbered, swap g to);
        back = λ es m. (
          g,
          is,
          made_of g es (subst (λ (h : W.Given). W.Delivers (the_two config me at) h at word false es)
              (unique n m.0 g (all_of (W.given_in (the_two config me at)) (view config me past)) m.1 numbered) m.2),
        );
      }
  of_number number g is (inl to) false e = record {
    kind = E.StrangerToServer g.from g.packet.bytes;
    can = tt;
    back = λ es m. (g, is, made_of g es (inl (to, m.0, m.1, m.2)));
  }
  of_number number g is (inr to) false e = record {
    kind = E.StrangerToClient g.from g.packet.bytes;
    can = tt;
    back = λ es m. (g, is, made_of g es (inr (to, m.0, m.1, m.2)));
  }

  -- the event is the server's, or this client's
  abbrev pub Concerns : What → Type 0
  Concerns (Acts who act) = who ≡ me
  Concerns (StrangerToClient who from bytes) = who ≡ me
  Concerns (Deliver number) = (g : W.Given) × IsNumber config number g past
      × ((g.packet.to ≡ config.server) ⊎ (g.packet.to ≡ me))
  Concerns what = Unit {0}

  pub expects : (what : What) → Concerns what → Expects what
  expects (Acts who act) own = subst (λ w. Expects (Acts w act)) (sym own) (of_act act)
  expects (Sets path format body) own = record {
    kind = E.Sets path format body;
    can = tt;
    back = λ es m. (es, m, at_server es m.0 m.2);
  }
  expects (Removes path) own = record {
    kind = E.Removes path;
    can = tt;
    back = λ es m. (es, m, at_server es m.0 m.2);
  }
  expects TickServer own = record {
    kind = E.TickServer;
    can = tt;
    back = λ es m. (es, m, at_server es m.0 m.2);
  }
  expects (Deliver number) own = of_number number own.0 own.1 own.2 (is_of config me own.0) refl
  expects (StrangerToClient who from bytes) own = record {
    kind = E.StrangerToClient from bytes;
    can = tt;
    back = λ es m. (es, m, ap (λ w. map (as_of w) es) (sym own));
  }
  expects (StrangerToServer from bytes) own = record {
    kind = E.StrangerToServer from bytes;
    can = tt;
    back = λ es m. (es, m, at_server es m.0 m.2);
  }

-- what is added to the traces

same_view : (me : Endpoint) (es : List W.Entry) → view_entries me (map (as_of me) es) ≡ es
same_view me [] = refl
same_view me (W.OfClient c ∷ es) =
    ap (λ b. (if b then W.OfClient c ∷ [] else []) ++ view_entries me (map (as_of me) es)) (same_endpoint_self me)
    ∙ ap (λ l. W.OfClient c ∷ l) (same_view me es)
same_view me (W.OfServer c ∷ es) = ap (λ l. W.OfServer c ∷ l) (same_view me es)

others_still : (me other : Endpoint) → same_endpoint me other ≡ false → (es : List W.Entry) (t : List Entry)
    → client_of other (map (as_of me) es ++ t) ≡ client_of other t
others_still me other apart [] t = refl
others_still me other apart (W.OfClient c ∷ es) t =
    ap (λ b. (if b then c ∷ [] else []) ++ client_of other (map (as_of me) es ++ t)) apart
    ∙ others_still me other apart es t
others_still me other apart (W.OfServer c ∷ es) t = others_still me other apart es t

client_front : (me : Endpoint) (s t : List Entry) → client_of me (s ++ t) ≡ client_of me s ++ client_of me t
client_front me [] t = refl
client_front me (OfClient who c ∷ s) t = ap (λ l. (if same_endpoint who me then c ∷ [] else []) ++ l)
    (client_front me s t)
    ∙ sym (append_assoc (if same_endpoint who me then c ∷ [] else []) (client_of me s) (client_of me t))
client_front me (OfServer c ∷ s) t = client_front me s t

server_front : (config : Config) (s t : List Entry) → server_trace config (s ++ t) ≡ server_of s
    ++ server_trace config t
server_front config [] t = refl
server_front config (OfClient who c ∷ s) t = server_front config s t
server_front config (OfServer c ∷ s) t = ap (λ l. c ∷ l) (server_front config s t)

module _ (config : Config) (past : List Turn) (run : RecordOf config (map (λ (t : Turn). t.event) past) past)
    (range : IsConfig config) (cans : AllCanCome config past)
    (no_fault : (k : Client) → IsClient config k → N.NeverFaults (world_of config k) (view config k.at past))
    (event : Event) (can : CanCome config past event.what) where
  -- it goes on where the event is the server's, or this client's
  module _ (k : Client) (client : IsClient config k) where
    abbrev pub mine : IsOfClient config k.at
    mine = is_member k config.clients client

    pub s : Sees config range k.at mine past
    s = sees config range k.at mine past run.made cans

    module _ (x : Expects config range k.at mine past event.at event.word s.given event.what) where
      abbrev there : E.Event
      there = record { at = event.at; word = event.word; what = x.kind }

      follows : N.HasTurn (world_of config k) (N.events_of (view config k.at past)) (view config k.at past) there
      follows = (no_fault k client).goes_on [] (view config k.at past) refl there x.can

      abbrev entries : List Entry
      entries = map (as_of k.at) follows.entries

      seen_is : follows.entries ++ W.entries_of (view config k.at past)
          ≡ view_entries k.at (entries ++ entries_of past)
      seen_is = ap (λ l. follows.entries ++ l) s.entries
          ∙ ap (λ l. l ++ view_entries k.at (entries_of past)) (sym (same_view k.at follows.entries))
          ∙ sym (all_of_append (view_entry k.at) entries (entries_of past))

      own_law : ClientLaw config.server k.sizes k.setup (client_of k.at (entries ++ entries_of past))
      own_law = subst (ClientLaw config.server k.sizes k.setup)
          (ap W.client_of seen_is ∙ client_view k.at (entries ++ entries_of past)) follows.made.client

      law_of : (j : Client) → IsClient config j
          → ClientLaw config.server j.sizes j.setup (client_of j.at (entries ++ entries_of past))
      law_of j of_j = by (same_endpoint k.at j.at) refl
        where
          by : (b : Bool) → same_endpoint k.at j.at ≡ b
              → ClientLaw config.server j.sizes j.setup (client_of j.at (entries ++ entries_of past))
          by true e = subst (λ (i : Client). ClientLaw config.server i.sizes i.setup (client_of i.at
              (entries ++ entries_of past)))
              (one_client config.clients range.apart k j client of_j (same_endpoint_is k.at j.at e)) own_law
          by false e = subst (ClientLaw config.server j.sizes j.setup)
              (sym (others_still k.at j.at e follows.entries (entries_of past))) (run.clients j of_j)

      goes : HasTurn config past event
      goes = record {
        entries = entries;
        made = record {
          events_are = refl;
          made = (x.back follows.entries follows.made.made.0, run.made);
          clients = law_of;
          server = subst (ServerLaw config.limits config.szx config.setup)
              (ap (λ l. W.server_of l ++ begins_with config.plains config.delays) seen_is
              ∙ ap (λ l. l ++ begins_with config.plains config.delays) (server_view k.at (entries ++ entries_of past)))
              follows.made.server;
        };
      }

    goes_with : Concerns config range k.at mine past event.at event.word s.given event.what → HasTurn config past event
    goes_with own = goes (expects config range k.at mine past event.at event.word s.given event.what own)

  -- whose it is
  goes_for : (what : What) → event.what ≡ what → CanCome config past what → HasTurn config past event
  goes_for (Acts who act) is comes =
      let k = member who config.clients comes in
      goes_with k.0 k.1 (subst (λ w. Concerns config range k.0.at (mine k.0 k.1) past event.at event.word
      (s k.0 k.1).given w) (sym is) (sym k.2))
  goes_for (StrangerToClient who from bytes) is comes =
      let k = member who config.clients comes in
      goes_with k.0 k.1 (subst (λ w. Concerns config range k.0.at (mine k.0 k.1) past event.at event.word
      (s k.0 k.1).given w) (sym is) (sym k.2))
  goes_for (Deliver number) is comes = elim comes.2 [
    | inl to ↦ (let k = range.some in
        goes_with k.0 k.1 (subst (λ w. Concerns config range k.0.at (mine k.0 k.1) past event.at event.word
        (s k.0 k.1).given w) (sym is) (comes.0, comes.1, inl to)))
    | inr of ↦ (let k = member comes.0.packet.to config.clients of in
        goes_with k.0 k.1 (subst (λ w. Concerns config range k.0.at (mine k.0 k.1) past event.at event.word
        (s k.0 k.1).given w) (sym is) (comes.0, comes.1, inr (sym k.2))))
  ]
  goes_for (Sets path format body) is comes =
      let k = range.some in
      goes_with k.0 k.1 (subst (λ w. Concerns config range k.0.at (mine k.0 k.1) past event.at event.word
      (s k.0 k.1).given w) (sym is) tt)
  goes_for (Removes path) is comes =
      let k = range.some in
      goes_with k.0 k.1 (subst (λ w. Concerns config range k.0.at (mine k.0 k.1) past event.at event.word
      (s k.0 k.1).given w) (sym is) tt)
  goes_for TickServer is comes =
      let k = range.some in
      goes_with k.0 k.1 (subst (λ w. Concerns config range k.0.at (mine k.0 k.1) past event.at event.word
      (s k.0 k.1).given w) (sym is) tt)
  goes_for (StrangerToServer from bytes) is comes =
      let k = range.some in
      goes_with k.0 k.1 (subst (λ w. Concerns config range k.0.at (mine k.0 k.1) past event.at event.word
      (s k.0 k.1).given w) (sym is) tt)

  pub goes_on_here : HasTurn config past event
  goes_on_here = goes_for event.what refl can

-- a record was one before
run_back : (config : Config) (later past : List Turn)
    → RecordOf config (map (λ (t : Turn). t.event) (later ++ past)) (later ++ past)
    → RecordOf config (map (λ (t : Turn). t.event) past) past
run_back config [] past run = run
run_back config (t ∷ later) past run = run_back config later past (record {
  events_are = refl;
  made = run.made.1;
  clients = λ k client. client_facts.back config.server k.sizes k.setup (client_of k.at t.entries)
      (client_of k.at (entries_of (later ++ past)))
      (subst (ClientLaw config.server k.sizes k.setup) (client_front k.at t.entries (entries_of (later ++ past)))
      (run.clients k client));
  server = server_facts.back config.limits config.szx config.setup (server_of t.entries)
      (server_trace config (entries_of (later ++ past)))
      (subst (ServerLaw config.limits config.szx config.setup)
      (server_front config t.entries (entries_of (later ++ past)))
      run.server);
})

can_back : (config : Config) (later past : List Turn) → AllCanCome config (later ++ past) → AllCanCome config past
can_back config [] past h = h
can_back config (t ∷ later) past h = can_back config later past h.1

pub goes_on : (config : Config) (events : List Event) (turns : List Turn) → RecordOf config events turns
    → IsConfig config → AllCanCome config turns
    → ((past : List Turn) → RecordOf config (events_of past) past → AllCanCome config past → (k : Client)
    → IsClient config k → N.NeverFaults (world_of config k) (view config k.at past)) → GoesOn config turns
goes_on config events turns run range cans no_fault later past is event can =
    let whole : RecordOf config (events_of turns) turns =
    record { events_are = refl; made = run.made; clients = run.clients; server = run.server } in
    let before = run_back config later past (subst (λ ts. RecordOf config (events_of ts) ts) is whole) in
    let could = can_back config later past (subst (AllCanCome config) is cans) in
    goes_on_here config past before range could (no_fault past before could) event can
