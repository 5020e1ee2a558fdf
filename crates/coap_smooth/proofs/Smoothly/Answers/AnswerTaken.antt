-- An acknowledgement with the response that comes while its exchange is open: that exchange was acknowledged before.
use Rattle.std.proofs.Common.{◌≡◌, inl, inr, ⊎_elim, ℕ, ◌==◌, true, false, List, [], ◌∷◌, ◌++◌, map, refl, ap, sym}
use Rattle.std.proofs.Common.{subst, ◌∙◌, append_assoc}
use Rattle.std.specs.Cmp.{unsigned_Decides}
use Rattle.coap_types.specs.Past.{Ever, Sometime}
use Rattle.coap_types.proofs.Facts.Endpoints.{same_endpoint_self}
use Rattle.coap_types.proofs.Facts.Traces.{Always_back}
use Rattle.coap_types.specs.Recognised.{lacks_critical}
use Rattle.coap_types.specs.Roles.{role_of}
use Rattle.coap_types.specs.SameEndpoint.{same_endpoint}
use Rattle.coap_types.specs.declared.direction.Direction.TheVariants.{Response}
use Rattle.coap_types.specs.declared.message.Kind.TheVariants.{Ack}
use Rattle.coap_types.specs.declared.role.Role.TheVariants as role
use Rattle.coap_codec.specs.Message.{Message, Spells}
use Rattle.coap_layer.specs.Channel.{Near, OnNear}
use Rattle.coap_layer.specs.Rows.{Outstanding}
use Rattle.coap_layer.specs.Sends.{as_begun, IsOpen}
use Rattle.coap_layer.specs.Taking.{AllTakeAcks, ArrivesWithin}
use Rattle.coap_layer.specs.Trace as L
use Rattle.coap_layer.specs.Words.{Open, is_to}
use Rattle.coap_client_laws.specs.Follows.Begins.{WasSent}
use Rattle.coap_client_laws.specs.Follows.Open.{AnswersAreHeard}
use Rattle.coap_client_laws.specs.Follows.Tokens.{OwnTokens}
use Rattle.coap_client.specs.Sendings.{Sending}
use Rattle.coap_client.specs.Law.{ClientLaw, layer_of}
use Rattle.coap_client.specs.Trace as C
use Rattle.coap_client_laws.proofs.Facts.Laws as client_facts
use Rattle.coap_record.specs.Events.{Config}
use Rattle.coap_promise.specs.Hops.{client_adds, server_adds, hops_at}
use Rattle.coap_record.specs.Record.{Entry, OfClient, OfServer, client_of, server_trace}
use Rattle.coap_promise.proofs.Facts.Delivery.HopsAreEntries.{client_layer, client_next}
use Rattle.coap_smooth.proofs.Smoothly.Arriving.AckTaken.{AckIn, ack_in, lifted}
use Rattle.coap_smooth.proofs.Smoothly.Answers.AnswerEnds.{IsPlain, ComesUp, never_answered}
use Rattle.coap_smooth.proofs.Smoothly.Answers.ExchangeOpen.{OpenOf, Runs, runs_of, Lonely, Waited, lonely}
use Rattle.coap_smooth.proofs.Smoothly.Requests.RequestOpen.{Alone, alone_now}
use Rattle.coap_smooth.proofs.Smoothly.Ticks.NothingIsLeft.{ForClient, client_behind}
use Rattle.coap_smooth.proofs.Smoothly.Arriving.WhereItArrives.{ClientFed, at_client, near_found, no_near}

-- the response to this request, in the acknowledgement of this CON
pub record IsAckWith (request : Open) (x : Sending) (bytes : List ℕ) (m : Message) : Type 0 where
  pub spells : Spells bytes m
  pub kind : m.kind ≡ Ack
  pub class : role_of m.code ≡ role.Response
  pub id : m.id ≡ request.id
  pub token : m.token ≡ x.token
  pub understood : lacks_critical Response m.options ≡ false

module _ (config : Config) (request : Open) (x : Sending) (bytes : List ℕ) (m : Message)
    (ack : IsAckWith request x bytes m) where
  abbrev Law : List C.Call → Type 0
  Law t = ClientLaw config.addresses.server config.client_sizes config.client_setup t

  abbrev layer : List C.Call → List L.Entry
  layer t = layer_of config.addresses.server config.client_sizes config.client_setup t

  -- it comes here, behind a request with its token, and is taken if its CON is outstanding
  pub record AckComes (t : List C.Call) (c : C.Call) : Type 0 where
    pub up : L.Answer
    pub fed : ClientFed config.addresses.server bytes up c
    pub taken : Outstanding (layer t) config.addresses.server m.id → up ≡ L.Becomes (L.Response m)
    pub sending : Sending
    pub sent : WasSent config.client_sizes sending t
    pub same : sending.token ≡ x.token

  sent_in : (t : List C.Call) → Sometime AckComes t → (z : Sending) × WasSent config.client_sizes z t
      × (z.token ≡ x.token)
  sent_in [] h = absurd h
  sent_in (c ∷ t) (inl k) = (k.sending, inr k.sent, k.same)
  sent_in (c ∷ t) (inr h) = let k = sent_in t h in (k.0, inr k.1, k.2)

  -- the CON that is outstanding is that
  outstanding_is : (at : ℕ) (t : List C.Call) (o : OpenOf config.addresses.server config.client_sizes
      config.client_setup at x t)
      → Alone config.addresses.server config.client_sizes config.client_setup request at x t o → request.to
      ≡ config.addresses.server
      → (r : Runs config.addresses.server config.client_sizes config.client_setup at x t)
      → Lonely config.addresses.server config.client_sizes config.client_setup at x r.exchange t
      → Outstanding (layer t) config.addresses.server m.id
  outstanding_is at t o alone to r k =
      let con : Open = k.con in
      let stays : IsOpen (layer t) (as_begun con) =
      subst (Ever (λ z. as_begun z ≡ as_begun con)) (sym k.only) (inl refl) in
      let same : as_begun con ≡ request =
      alone_now config.addresses.server config.client_sizes config.client_setup request at x t o alone (as_begun con)
      stays in
      let there : con.to ≡ config.addresses.server = ap (λ (z : Open). z.to) same ∙ to in
      let id : con.id ≡ m.id = ap (λ (z : Open). z.id) same ∙ sym ack.id in
      let place : same_endpoint con.to config.addresses.server ≡ true =
      ap (λ p. same_endpoint p config.addresses.server) there ∙ same_endpoint_self config.addresses.server in
      let number : (con.id == m.id) ≡ true = (unsigned_Decides con.id m.id).1 id in
      let is : is_to config.addresses.server m.id con ≡ true = cc (place, number) in
      subst (Ever (λ c. is_to config.addresses.server m.id c ≡ true)) (sym k.only) (inl is)

  pub acked_before : (at : ℕ) (t : List C.Call) → Law t → AnswersAreHeard config.addresses.server config.client_sizes
      config.client_setup t
      → OwnTokens config.client_sizes t → IsPlain x → request.to ≡ config.addresses.server
      → (o : OpenOf config.addresses.server config.client_sizes config.client_setup at x t)
      → Alone config.addresses.server config.client_sizes config.client_setup request at x t o
      → Sometime AckComes t → AckIn config request t
  acked_before at [] law heard own plain to o alone h = absurd h
  acked_before at (c ∷ t) law heard own plain to (inl o) alone (inl k) =
      let d = own.0 x k.sending o.0 k.sent k.same in absurd (plain.no_cancel d.number d.cancels)
  acked_before at (c ∷ t) law heard own plain to (inl o) alone (inr h) =
      let z = sent_in t h in
      let d = own.0 x z.0 o.0 z.1 z.2 in absurd (plain.no_cancel d.number d.cancels)
  acked_before at (c ∷ t) law heard own plain to (inr o) alone (inr h) =
      lifted config request c t
      (acked_before at t (client_facts.back config.addresses.server config.client_sizes config.client_setup (c ∷ []) t
      law) heard.1 own.1
      plain to o.3 alone.1 h)
  acked_before at (c ∷ t) law heard own plain to (inr o) alone (inl k) =
      let old = client_facts.back config.addresses.server config.client_sizes config.client_setup (c ∷ []) t law in
      let r = runs_of config.addresses.server config.client_sizes config.client_setup at x t old o.3 in
      ⊎_elim
      (λ (z : Lonely config.addresses.server config.client_sizes config.client_setup at x r.exchange t). absurd
      (up r z))
      (λ (z : Waited config.addresses.server config.client_sizes config.client_setup r.exchange t).
      lifted config request c t (ack_in config request to at x t old o.3 alone.1 r z))
      (lonely config.addresses.server config.client_sizes config.client_setup at x t old r)
    where
      up : (r : Runs config.addresses.server config.client_sizes config.client_setup at x t)
          → Lonely config.addresses.server config.client_sizes config.client_setup at x r.exchange t → ⊥
      up r z =
          let f = k.fed in
          let there = outstanding_is at t o.3 alone.1 to r z in
          let response = k.taken there in
          let comes : ComesUp config.addresses.server config.client_sizes config.client_setup x t c =
          record {
            now = f.now;
            from = config.addresses.server;
            bytes = bytes;
            w = f.word;
            message = m;
            settled = f.settled;
            event = f.event;
            sent = f.sent;
            token = f.token;
            kept = f.kept;
            is = f.is ∙ ap (λ u. C.Feeds f.now config.addresses.server bytes f.word u f.settled f.event f.sent f.token
                f.kept) response;
            sound = record { there = same_endpoint_self config.addresses.server; understood = ack.understood };
            same = ack.token;
            kind = inr (ack.kind, there);
            asked = k.sending;
            asked_before = k.sent;
            asked_same = k.same ∙ sym ack.token;
          } in
          never_answered config.addresses.server config.client_sizes config.client_setup at x (c ∷ t) law heard own
          plain (inr o)
          (inl comes)

  -- .. where it arrives
  abbrev Arrives : ℕ → ℕ → L.Entry → Type 0
  Arrives most since = ArrivesWithin most config.addresses.server bytes since

  module _ (most since : ℕ) (sending : Sending) (same : sending.token ≡ x.token)
      (acks : (t : List C.Call) → Law t → AllTakeAcks (layer t)) where
    abbrev pub ArrivesBehind : List Entry → Entry → Type 0
    ArrivesBehind past e = Ever (OnNear (Arrives most since)) (hops_at config past e)
        × WasSent config.client_sizes sending (client_of past)

    comes_here : (t : List C.Call) (c : C.Call) → Law (c ∷ t) → WasSent config.client_sizes sending t
        → Ever (OnNear (Arrives most since)) (map Near (client_adds config t c)) → AckComes t c
    comes_here t c law sent h =
        let y = near_found (Arrives most since) (client_adds config t c) h in
        let at = at_client config t c (law.exchanges.left, law.exchanges.layer) config.addresses.server bytes y.0 y.1
        y.2.call in
        let parts : client_layer config (c ∷ t) ≡ at.later ++ (y.0 ∷ client_layer config t) =
        client_next config t c ∙ ap (λ l. l ++ client_layer config t) at.adds
        ∙ append_assoc at.later (y.0 ∷ []) (client_layer config t) in
        let takes = (Always_back _ at.later (y.0 ∷ client_layer config t)
        (subst AllTakeAcks parts (acks (c ∷ t) law))).0 in
        record {
          up = y.0.answer;
          fed = at.fed;
          taken = λ there. takes.carrying config.addresses.server bytes m y.2.call ack.spells ack.kind ack.class there;
          sending = sending;
          sent = sent;
          same = same;
        }

    pub to_calls : (es : List Entry) → ForClient config es → Sometime ArrivesBehind es
        → Sometime AckComes (client_of es)
    to_calls [] law h = h
    to_calls (OfServer c ∷ past) law (inl h) =
        absurd (no_near (Arrives most since) (server_adds config (server_trace config past) c) h.0)
    to_calls (OfServer c ∷ past) law (inr h) = to_calls past law h
    to_calls (OfClient c ∷ past) law (inl h) = inl (comes_here (client_of past) c law h.1 h.0)
    to_calls (OfClient c ∷ past) law (inr h) = inr (to_calls past (client_behind config (OfClient c ∷ []) past law) h)
