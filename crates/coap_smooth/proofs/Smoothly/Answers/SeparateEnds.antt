-- A response in a CON of its own comes to the client within 1,000 ms, and ends the exchange that is open.
use Rattle.std.proofs.Common.{◌≡◌, ◌⊎◌, inl, inr, ◌<◌, ℕ, ◌+◌, Some, List, [], ◌∷◌, ◌++◌, ap, sym, subst, ◌∙◌}
use Rattle.std.proofs.Common.{append_assoc}
use Rattle.coap_types.specs.Past.{Ever, Sometime, Always}
use Rattle.coap_types.proofs.Facts.Endpoints.{same_endpoint_self}
use Rattle.coap_types.proofs.Facts.Traces.{Ever_append, Always_back}
use Rattle.coap_layer.specs.Channel.{far_of, OnNear}
use Rattle.coap_layer.specs.Rows.{LayerLaw, Stands as Stands_in}
use Rattle.coap_layer.specs.Taking.{TakesWithin}
use Rattle.coap_layer.specs.Trace as L
use Rattle.coap_layer.specs.Words.{Open, begun}
use Rattle.coap_client_laws.specs.Follows.Hears.{Hears}
use Rattle.coap_client_laws.specs.Follows.Open.{IsOpenSince}
use Rattle.coap_client.specs.Sendings.{Sending, last_sent}
use Rattle.coap_client.specs.Trace as C
use Rattle.coap_client_laws.proofs.Facts.Laws as client_facts
use Rattle.coap_record.specs.Events.{Config}
use Rattle.coap_promise.specs.Hops.{client_adds, server_adds, hops_at, hops_in, hops_of}
use Rattle.coap_record.specs.Record.{Entry, OfClient, OfServer, Turn, entries_of, client_of, server_trace}
use Rattle.coap_smooth.specs.Separate.{CarriesAnswer, SeparateEnds}
use Rattle.coap_smooth.specs.Smooth.{max_age, TakesNoObservation}
use Rattle.coap_promise.proofs.Facts.Delivery.HopsAreEntries.{client_layer, client_next}
use Rattle.coap_promise.proofs.Facts.Requests.OfACall.{Lawful, lawful_back}
use Rattle.coap_promise.proofs.Facts.Requests.Promised.{lawful}
use Rattle.coap_smooth.proofs.Smoothly.Arriving.AllTaken.{Goes, goes_before, taken_here}
use Rattle.coap_smooth.proofs.Smoothly.Answers.AnswerEnds.{ComesUp, never_answered}
use Rattle.coap_smooth.proofs.Smoothly.Requests.AskedBefore.{asked_before}
use Rattle.coap_smooth.proofs.Smoothly.Requests.AtOnce.{Laws, none_before}
use Rattle.coap_smooth.proofs.Smoothly.Answers.ExchangeOpen.{OpenOf, open_of, last_of}
use Rattle.coap_smooth.proofs.Smoothly.Arriving.HandedAs.{as_response}
use Rattle.coap_smooth.proofs.Smoothly.Requests.LastWasSent.{was_sent}
use Rattle.coap_smooth.proofs.Smoothly.Requests.PlainRequests.{was_plain}
use Rattle.coap_smooth.proofs.Smoothly.Ticks.NothingIsLeft.{record_of}
use Rattle.coap_smooth.proofs.Smoothly.Arriving.WhereItArrives.{at_client, near_found, no_near}

pub ever_at : (Q : L.Entry → Type 0) (e : L.Entry) (xs : List L.Entry) → Ever (λ y. y ≡ e) xs → Q e → Ever Q xs
ever_at Q e [] h q = h
ever_at Q e (x ∷ xs) (inl h) q = inl (subst Q (sym h) q)
ever_at Q e (x ∷ xs) (inr h) q = inr (ever_at Q e xs h q)

module _ (config : Config) (con : Open) (x : Sending) (s : CarriesAnswer config.addresses x con) where
  abbrev Comes : List C.Call → C.Call → Type 0
  Comes t c = ComesUp config.addresses.server config.client_sizes config.client_setup x t c

  abbrev IsTaken : L.Entry → Type 0
  IsTaken e = TakesWithin max_age config.addresses.server con e

  comes_here : (past : List Entry) (c : C.Call) → Lawful config (OfClient c ∷ past) → (e : L.Entry)
      → Ever (λ y. y ≡ e) (client_adds config (client_of past) c) → IsTaken e → Comes (client_of past) c
  comes_here past c law e among takes =
      let t : List C.Call = client_of past in
      let at = at_client config t c (law.client.exchanges.left, law.client.exchanges.layer) config.addresses.server
      con.bytes e among
      takes.takes.call in
      let parts : client_layer config (c ∷ t) ≡ at.later ++ (e ∷ client_layer config t) =
      client_next config t c ∙ ap (λ l. l ++ client_layer config t) at.adds
      ∙ append_assoc at.later (e ∷ []) (client_layer config t) in
      let stands = (Always_back (Stands_in config.client_setup) at.later (e ∷ client_layer config t)
      (subst (LayerLaw config.client_setup) parts
      (client_facts.layer config.addresses.server config.client_sizes config.client_setup (c ∷ t) law.client))).0 in
      let up : e.answer ≡ L.Becomes (L.Response s.message) =
      as_response config.client_setup (client_layer config t) e config.addresses.server con.id con.bytes s.message
      stands
      takes.takes.call s.spells s.kind takes.takes.up s.class in
      let hears : Ever (Hears config.addresses.server s.message) (client_adds config t c) =
      ever_at (Hears config.addresses.server s.message) e (client_adds config t c) among
      (record { bytes = con.bytes; call = takes.takes.call; answer = up }) in
      let asked = asked_before config past c law s.message hears in
      let f = at.fed in
      record {
        now = f.now;
        from = config.addresses.server;
        bytes = con.bytes;
        w = f.word;
        message = s.message;
        settled = f.settled;
        event = f.event;
        sent = f.sent;
        token = f.token;
        kept = f.kept;
        is = f.is ∙ ap (λ u. C.Feeds f.now config.addresses.server con.bytes f.word u f.settled f.event f.sent f.token
            f.kept) up;
        sound = record { there = same_endpoint_self config.addresses.server; understood = s.understood };
        same = s.token;
        kind = inl s.kind;
        asked = asked.sending;
        asked_before = asked.sent;
        asked_same = asked.token;
      }

  comes : (es : List Entry) → Lawful config es → Ever (OnNear IsTaken) (hops_in config es)
      → Sometime Comes (client_of es)
  comes [] law h = h
  comes (OfServer c ∷ past) law h =
      by (Ever_append (OnNear IsTaken) (hops_at config past (OfServer c)) (hops_in config past) h)
      (comes past (lawful_back config past (OfServer c) law))
    where
      by : Ever (OnNear IsTaken) (hops_at config past (OfServer c)) ⊎ Ever (OnNear IsTaken) (hops_in config past)
          → (Ever (OnNear IsTaken) (hops_in config past) → Sometime Comes (client_of past))
          → Sometime Comes (client_of past)
      by (inl now) older = absurd (no_near IsTaken (server_adds config (server_trace config past) c) now)
      by (inr before) older = older before
  comes (OfClient c ∷ past) law h =
      by (Ever_append (OnNear IsTaken) (hops_at config past (OfClient c)) (hops_in config past) h)
      (comes past (lawful_back config past (OfClient c) law))
    where
      by : Ever (OnNear IsTaken) (hops_at config past (OfClient c)) ⊎ Ever (OnNear IsTaken) (hops_in config past)
          → (Ever (OnNear IsTaken) (hops_in config past) → Sometime Comes (client_of past))
          → Sometime Comes (c ∷ client_of past)
      by (inl now) older =
          let k = near_found IsTaken (client_adds config (client_of past) c) now in
          inl (comes_here past c law k.0 k.1 k.2)
      by (inr before) older = inr (older before)

module _ (config : Config) (laws : Laws) where
  pub ends_here : (turn : Turn) (past : List Turn) → Goes config (turn ∷ past)
      → Always (λ p c. TakesNoObservation c) (client_of (entries_of past)) → (at : ℕ)
      → IsOpenSince config.client_sizes at (client_of (entries_of past)) → (x : Sending)
      → last_sent config.client_sizes (client_of (entries_of past)) ≡ Some x → (con : Open)
      → Ever (λ b. begun b ≡ Some con) (far_of (hops_of config past)) → CarriesAnswer config.addresses x con
      → con.first + max_age < turn.event.at → ⊥
  ends_here turn past g none at is_open x last con there s late =
      let t : List C.Call = client_of (entries_of past) in
      let old = goes_before config turn past g in
      let k = open_of config.addresses.server config.client_sizes config.client_setup at t old.stands.client is_open in
      let both : Some k.0 ≡ Some x =
      sym (last_of config.addresses.server config.client_sizes config.client_setup at k.0 t k.1) ∙ last in
      let same : k.0 ≡ x = cc both in
      let o : OpenOf config.addresses.server config.client_sizes config.client_setup at x t =
      subst (λ z. OpenOf config.addresses.server config.client_sizes config.client_setup at z t) same k.1 in
      let taken = (taken_here config laws.beneath turn past g).by_client con there s.to late in
      let up = comes config con x s (entries_of past) (lawful config _ past (record_of config past old.stands)
      (record { range = old.stands.range; events = old.stands.legal })) taken in
      let plain = was_plain config.client_sizes x t
      (laws.observed config.addresses.server config.client_sizes config.client_setup t old.stands.client) none
      (was_sent config.addresses.server config.client_sizes config.client_setup at x t o) in
      never_answered config.addresses.server config.client_sizes config.client_setup at x t old.stands.client
      (laws.heard config.addresses.server config.client_sizes config.client_setup t old.stands.client)
      (laws.own config.addresses.server config.client_sizes config.client_setup t old.stands.client) plain o up

  pub separate_ends : (turns : List Turn) → Goes config turns
      → Always (λ p c. TakesNoObservation c) (client_of (entries_of turns)) → SeparateEnds config turns
  separate_ends [] g none = tt
  separate_ends (turn ∷ past) g none =
      let before_it = none_before turn.entries (entries_of past) none in (
        λ at is_open x last con there s late. ends_here turn past g before_it at is_open x last con there s late,
        separate_ends past (goes_before config turn past g) before_it,
      )
