-- Where an exchange waits for a separate response, an Empty acknowledgement of its request was taken.
use Rattle.std.proofs.Common.{◌≡◌, inl, inr, ⊎_elim, ℕ, max, Bool, true, false, Option, Some, None, List, [], ◌∷◌, ◌++◌}
use Rattle.std.proofs.Common.{refl, ap, sym, subst, ◌∙◌, Result, Ok, Err, append_assoc}
use Rattle.coap_types.specs.Past.{Ever, Sometime}
use Rattle.coap_types.proofs.Facts.Endpoints.{same_endpoint_is}
use Rattle.coap_types.proofs.Facts.Traces.{Always_back, Sometime_back}
use Rattle.coap_types.specs.declared.endpoint.Endpoint.{Endpoint}
use Rattle.coap_layer.specs.Channel.{HearsAck}
use Rattle.coap_layer.specs.Machine.State.{State, start, made}
use Rattle.coap_layer.specs.Machine.Steps.{Steps, left_after}
use Rattle.coap_layer.specs.Sends.{as_begun, IsOpen}
use Rattle.coap_layer.specs.Trace as L
use Rattle.coap_layer.specs.Words.{Open}
use Rattle.coap_layer.specs.declared.setup.Setup.{Setup}
use Rattle.coap_block.specs.Sizes.{Sizes}
use Rattle.coap_exchange.specs.AskerArrivals.{verdict_on, running_after, running_unless}
use Rattle.coap_exchange.specs.AskerLaw as X
use Rattle.coap_exchange.specs.AskerTrace as E
use Rattle.coap_exchange.specs.declared.asker.AskRefusal.{AskRefusal}
use Rattle.coap_exchange.specs.declared.asker.Event.{Event}
use Rattle.coap_exchange.specs.declared.asker.Exchange.{Exchange}
use Rattle.coap_exchange.specs.declared.asker.Turn.{Turn}
use Rattle.coap_exchange.specs.declared.asker.Turn.TheVariants as turn_is
use Rattle.coap_exchange.specs.declared.matching.Verdict.{Verdict}
use Rattle.coap_exchange.specs.declared.matching.Verdict.TheVariants.{AnswerCon, Answer, Await, EndByReset}
use Rattle.coap_exchange.proofs.Facts.ClientSide.{server_is}
use Rattle.coap_exchange.proofs.Facts.Moves as move
use Rattle.coap_exchange.proofs.Facts.Moves.{opened_none, ask_row}
use Rattle.coap_exchange.proofs.Facts.Verdicts.{Fits, OfRequest, verdict_fits}
use Rattle.coap_client.specs.Deeds.{effect, deeds, forgets}
use Rattle.coap_client.specs.Effects.{Deed, Rests, Asks, Effect, has_sent}
use Rattle.coap_client.specs.Events.{closed}
use Rattle.coap_client.specs.Sendings.{Sending, sends, sent_by}
use Rattle.coap_client.specs.Law.{ClientLaw, own_of, lower_of, layer_of}
use Rattle.coap_client.specs.Own.{Operation, Own}
use Rattle.coap_client.specs.Requests.{message_of}
use Rattle.coap_client.specs.Trace as C
use Rattle.coap_client_laws.proofs.Facts.Laws.{back, layer_next}
use Rattle.coap_client_laws.proofs.Facts.Exchanges.{failed_quiet}
use Rattle.coap_record.specs.Events.{Config}
use Rattle.coap_promise.specs.Hops.{client_asks, client_asked, client_adds}
use Rattle.coap_promise.proofs.Facts.Delivery.HopsAreEntries.{client_asked_next}
use Rattle.coap_smooth.proofs.Smoothly.Answers.ExchangeOpen.{OpenOf, Runs, runs_of, Lonely, Waited, lonely}
use Rattle.coap_smooth.proofs.Smoothly.Arriving.FewArrive.{last_answer, newer, parts}
use Rattle.coap_smooth.proofs.Smoothly.Arriving.OthersTakeNone.{client_feeds}
use Rattle.coap_smooth.proofs.Smoothly.Requests.RequestOpen.{Alone, alone_now, fresh}
use Rattle.coap_client.proofs.Facts.EachMove.{releases_none}

module _ (server : Endpoint) (setup : Setup) where
  abbrev running : List E.Call → Option Exchange
  running t = (X.own_of server setup t).running

  -- what asks for no request leaves what runs
  quiet_runs : (d : Deed) (o : Own) (m w : ℕ) (sent : L.Answer) (token : Result (List ℕ) AskRefusal) (kept : Bool)
      (past : List E.Call) → ((op : Operation) → d ≡ Asks op → ⊥)
      → running (deeds d o m w sent token kept ++ past) ≡ running past
  quiet_runs (Asks op) o m w sent token kept past f = absurd (f op refl)
  quiet_runs _ o m w sent token kept past f = refl

  refused_runs : (past : List E.Call) (now w : ℕ) (r : E.Request) (below : L.Answer) (why : AskRefusal)
      → X.AskerLaw server setup (E.Ask now r w below (Err why) ∷ past)
      → running (E.Ask now r w below (Err why) ∷ past) ≡ running past
  refused_runs past now w r below why law = by (ask_row s r below (Err why) law.0)
    where
      s : E.Own
      s = X.own_of server setup past

      by : move.AskRow s r below (Err why) → running (E.Ask now r w below (Err why) ∷ past) ≡ running past
      by (move.refused e is none) = ap (λ (o : E.Own). o.running) (opened_none s r below none)
      by (move.sent id is some opens by_id) = absurd (cc is)

  module _ (e : Effect) (m w : ℕ) (sent : L.Answer) (kept : Bool) (input : E.Call) (past : List E.Call) where
    abbrev behind : Deed → Result (List ℕ) AskRefusal → List E.Call
    behind d token = (deeds (closed m e d token).deed (closed m e d token).own m w sent token kept
        ++ (deeds d e.own m w sent token kept ++ input ∷ [])) ++ past

    -- .. so does what is not sent
    unsent_runs : (d : Deed) (token : Result (List ℕ) AskRefusal) → e.deed ≡ d → sent_by e d token ≡ None
        → X.AskerLaw server setup (behind d token) → running (behind d token) ≡ running (input ∷ past)
    unsent_runs Rests token is none law =
        ap running (append_assoc (deeds e.deed e.own m w sent token kept) (input ∷ []) past)
        ∙ quiet_runs e.deed e.own m w sent token kept (input ∷ past) (λ op h. cc (h, is))
    unsent_runs (Asks op) (Ok key) is none law = absurd (cc none)
    unsent_runs (Asks op) (Err why) is none law =
        let c : Effect = closed m e (Asks op) (Err why) in
        let ask : E.Call = E.Ask m (message_of e.own.observations op) w sent (Err why) in
        let front = deeds c.deed c.own m w sent (Err why) kept in
        let parts : (front ++ (ask ∷ input ∷ [])) ++ past ≡ front ++ (ask ∷ input ∷ past) =
        append_assoc front (ask ∷ input ∷ []) past in
        ap running parts
        ∙ quiet_runs c.deed c.own m w sent (Err why) kept (ask ∷ input ∷ past) (failed_quiet has_sent e.own (Some op))
        ∙ refused_runs (input ∷ past) m w (message_of e.own.observations op) sent why
        (Always_back _ front (ask ∷ input ∷ past) (subst (X.AskerLaw server setup) parts law))
    unsent_runs _ token is none law = refl

-- what is acknowledged by an arrival
record ByAck (from : Endpoint) (up : L.Answer) (s : E.Own) : Type 0 where
  id : ℕ
  is : up ≡ L.Becomes (L.Acked id)
  of : OfRequest s from id

awaited : (s : E.Own) (from : Endpoint) (up : L.Answer) (at : ℕ) (y z : Exchange) (v : Verdict) → Fits s from up v
    → running_after at v (Some y) ≡ Some z → y.acked ≡ None → (z.acked ≡ None → ⊥) → ByAck from up s
awaited s from up at y z Await f is none acked = record { id = f.0; is = f.1; of = f.2 }
awaited s from up at y z AnswerCon f is none acked = absurd (cc is)
awaited s from up at y z Answer f is none acked = absurd (cc is)
awaited s from up at y z EndByReset f is none acked = absurd (cc is)
awaited s from up at y z _ f is none acked =
    let k : y ≡ z = cc is in absurd (acked (ap (λ (e : Exchange). e.acked) (sym k) ∙ none))

same_acked : (y z : Exchange) (o : Option Exchange) → o ≡ Some y → o ≡ Some z → y.acked ≡ None → (z.acked ≡ None → ⊥)
    → ⊥
same_acked y z o a b none acked =
    let both : Some y ≡ Some z = sym a ∙ b in
    let k : y ≡ z = cc both in
    acked (ap (λ (e : Exchange). e.acked) (sym k) ∙ none)

none_ended : (turn : Turn) (y z : Exchange) → running_unless turn (Some y) ≡ Some z → Some y ≡ Some z
none_ended (turn_is.End e) y z h = absurd (cc h)
none_ended _ y z h = h

-- a forgetting asks for no request
no_forget : (answer : Bool) (number : ℕ) (s : Own) (op : Operation) → forgets answer number s ≡ Asks op → ⊥
no_forget true number s op h = releases_none _ op h
no_forget false number s op h = cc h

module _ (server : Endpoint) (sizes : Sizes) (setup : Setup) where
  -- the Empty acknowledgement of this exchange's request is taken
  pub record IsAckFed (y : Exchange) (c : C.Call) : Type 0 where
    pub now : ℕ
    pub from : Endpoint
    pub bytes : List ℕ
    pub w : ℕ
    pub id : ℕ
    pub settled : Bool
    pub event : Option Event
    pub sent : L.Answer
    pub token : Result (List ℕ) AskRefusal
    pub kept : Bool
    pub is : c ≡ C.Feeds now from bytes w (L.Becomes (L.Acked id)) settled event sent token kept
    pub there : from ≡ server
    pub id_is : id ≡ y.id.0

  module _ (t : List C.Call) (y z : Exchange) (runs : running server setup (lower_of sizes t) ≡ Some y)
      (unheard : y.acked ≡ None) (acked : z.acked ≡ None → ⊥) where
    abbrev here : E.Own
    here = X.own_of server setup (lower_of sizes t)

    same_runs : (c : C.Call) → running server setup (lower_of sizes t) ≡ Some z → IsAckFed y c
    same_runs c h = absurd (same_acked y z (running server setup (lower_of sizes t)) runs h unheard acked)

    pub ack_fed : (c : C.Call) → ClientLaw server sizes setup (c ∷ t) → sends (own_of sizes t) c ≡ None
        → running server setup (lower_of sizes (c ∷ t)) ≡ Some z → IsAckFed y c
    ack_fed (C.Feeds now from bytes w up settled event sent token kept) law none h =
        let c : C.Call = C.Feeds now from bytes w up settled event sent token kept in
        let m : ℕ = max (own_of sizes t).clock now in
        let e = effect (own_of sizes t) c in
        let input : E.Call = E.Receive m from bytes up settled event in
        let same = unsent_runs server setup e m w sent kept input (lower_of sizes t) e.deed token refl none
        law.exchanges.rows in
        let at : ℕ = max here.clock m in
        let left : running_after at (verdict_on here from up) (Some y) ≡ Some z =
        subst (λ o. running_after at (verdict_on here from up) o ≡ Some z) runs (sym same ∙ h) in
        let k = awaited here from up at y z (verdict_on here from up) (verdict_fits here from up) left unheard acked in
        let both : Some k.of.exchange ≡ Some y = sym k.of.runs ∙ runs in
        let alike : k.of.exchange ≡ y = cc both in
        record {
          now = now;
          from = from;
          bytes = bytes;
          w = w;
          id = k.id;
          settled = settled;
          event = event;
          sent = sent;
          token = token;
          kept = kept;
          is = ap (λ u. C.Feeds now from bytes w u settled event sent token kept) k.is;
          there = same_endpoint_is from here.server k.of.there ∙ server_is server setup (lower_of sizes t);
          id_is = k.of.id_is ∙ ap (λ (e : Exchange). e.id.0) alike;
        }
    ack_fed (C.Ticks now w below turn sent token kept answer) law none h =
        let c : C.Call = C.Ticks now w below turn sent token kept answer in
        let m : ℕ = max (own_of sizes t).clock now in
        let e = effect (own_of sizes t) c in
        let input : E.Call = E.Ticks m below turn in
        let same = unsent_runs server setup e m w sent kept input (lower_of sizes t) e.deed token refl none
        law.exchanges.rows in
        let left : running_unless turn (Some y) ≡ Some z =
        subst (λ o. running_unless turn o ≡ Some z) runs (sym same ∙ h) in
        same_runs c (runs ∙ none_ended turn y z left)
    ack_fed (C.Forgets number kept answer) law none h =
        let s = own_of sizes t in
        same_runs (C.Forgets number kept answer)
        (sym (quiet_runs server setup (forgets answer number s) s 0 0 L.Nothing _ kept (lower_of sizes t)
        (no_forget answer number s)) ∙ h)
    ack_fed c law none h = same_runs c h

-- an acknowledgement of this CON is taken, and is Empty
pub record TakesEmpty (con : Open) (past : List L.Entry) (e : L.Entry) : Type 0 where
  pub hears : HearsAck con past e
  pub empty : e.answer ≡ L.Becomes (L.Acked con.id)

module _ (config : Config) where
  abbrev Law : List C.Call → Type 0
  Law t = ClientLaw config.addresses.server config.client_sizes config.client_setup t

  abbrev layer : List C.Call → List L.Entry
  layer t = layer_of config.addresses.server config.client_sizes config.client_setup t

  -- .. of the CON that began so
  pub record AckIn (request : Open) (t : List C.Call) : Type 0 where
    pub con : Open
    pub is : as_begun con ≡ request
    pub taken : Sometime (TakesEmpty con) (layer t)

  pub lifted : (request : Open) (c : C.Call) (t : List C.Call) → AckIn request t → AckIn request (c ∷ t)
  lifted request c t k =
      let next = layer_next config.addresses.server config.client_sizes config.client_setup t c in
      record {
        con = k.con;
        is = k.is;
        taken = subst (Sometime (TakesEmpty k.con)) (sym next) (Sometime_back (TakesEmpty k.con) _ (layer t) k.taken);
      }

  -- the arrival is the oldest of what the call adds
  taken_here : (request : Open) (at : ℕ) (x : Sending) (c : C.Call) (t : List C.Call) → Law (c ∷ t) → (y : Exchange)
      → ((z : Open) → IsOpen (layer t) z → z ≡ request) → request.to ≡ config.addresses.server
      → Lonely config.addresses.server config.client_sizes config.client_setup at x y t
      → IsAckFed config.addresses.server config.client_sizes config.client_setup y c → AckIn request (c ∷ t)
  taken_here request at x c t law y only to k f =
      let con : Open = k.con in
      let stays : IsOpen (layer t) (as_begun con) =
      subst (Ever (λ z. as_begun z ≡ as_begun con)) (sym k.only) (inl refl) in
      let same : as_begun con ≡ request = only (as_begun con) stays in
      let there : con.to ≡ config.addresses.server = ap (λ (z : Open). z.to) same ∙ to in
      let fed : C.Call = C.Feeds f.now f.from f.bytes f.w (L.Becomes (L.Acked f.id)) f.settled f.event f.sent f.token
      f.kept
      in
      let b = client_feeds config t f.now f.from f.bytes f.w (L.Becomes (L.Acked f.id)) f.settled f.event f.sent f.token
      f.kept in
      let first : State = left_after (start config.client_setup) (client_asked config t) in
      let e : L.Entry = made first b.now (L.Receive f.from f.bytes) in
      let steps = subst (λ d. Steps (start config.client_setup) (client_asks config t d ++ client_asked config t)
      law.exchanges.left) f.is (subst (λ a. Steps (start config.client_setup) a law.exchanges.left)
      (client_asked_next config t c) law.exchanges.layer) in
      let answer : e.answer ≡ L.Becomes (L.Acked f.id) = last_answer (start config.client_setup)
      (client_asks config t fed) (client_asked config t) law.exchanges.left steps (L.Receive f.from f.bytes)
      (L.Becomes (L.Acked f.id)) b in
      let adds : client_adds config t c ≡ newer first (client_asks config t fed) (L.Receive f.from f.bytes)
      (L.Becomes (L.Acked f.id)) b ++ e ∷ [] =
      ap (client_adds config t) f.is ∙ parts first (client_asks config t fed) (L.Receive f.from f.bytes)
      (L.Becomes (L.Acked f.id)) b in
      let next = layer_next config.addresses.server config.client_sizes config.client_setup t c in
      let id : f.id ≡ con.id = f.id_is ∙ sym k.id in
      let empty : e.answer ≡ L.Becomes (L.Acked con.id) = answer ∙ ap (λ n. L.Becomes (L.Acked n)) id in
      let takes : TakesEmpty con (layer t) e =
      record {
        hears = record {
          is_outstanding = subst (Ever (λ z. z ≡ con)) (sym k.only) (inl refl);
          bytes = f.bytes;
          call = ap (λ p. L.Receive p f.bytes) (f.there ∙ sym there);
          answer = inl empty;
        };
        empty = empty;
      } in
      record {
        con = con;
        is = same;
        taken = subst (Sometime (TakesEmpty con)) (sym (next ∙ ap (λ a. a ++ layer t) adds ∙ append_assoc
            (newer first (client_asks config t fed) (L.Receive f.from f.bytes) (L.Becomes (L.Acked f.id)) b) (e ∷ [])
            (layer t)))
            (Sometime_back (TakesEmpty con) (newer first (client_asks config t fed) (L.Receive f.from f.bytes)
            (L.Becomes (L.Acked f.id)) b) (e ∷ layer t) (inl takes));
      }

  pub ack_in : (request : Open) → request.to ≡ config.addresses.server → (at : ℕ) (x : Sending) (t : List C.Call)
      → Law t
      → (o : OpenOf config.addresses.server config.client_sizes config.client_setup at x t)
      → Alone config.addresses.server config.client_sizes config.client_setup request at x t o
      → (r : Runs config.addresses.server config.client_sizes config.client_setup at x t)
      → Waited config.addresses.server config.client_sizes config.client_setup r.exchange t → AckIn request t
  ack_in request to at x [] law o a r w = absurd o
  ack_in request to at x (c ∷ t) law (inl o) a r w = absurd (w.acked
      (fresh config.addresses.server config.client_sizes config.client_setup t c law x o.0 r.exchange r.runs))
  ack_in request to at x (c ∷ t) law (inr o) a r w =
      let old = back config.addresses.server config.client_sizes config.client_setup (c ∷ []) t law in
      let q = runs_of config.addresses.server config.client_sizes config.client_setup at x t old o.3 in
      ⊎_elim
      (λ k. taken_here request at x c t law q.exchange
      (alone_now config.addresses.server config.client_sizes config.client_setup request at x t o.3 a.1) to k
      (ack_fed config.addresses.server config.client_sizes config.client_setup t q.exchange r.exchange q.runs k.unheard
      w.acked c law
      o.0 r.runs))
      (λ k. lifted request c t (ack_in request to at x t old o.3 a.1 q k))
      (lonely config.addresses.server config.client_sizes config.client_setup at x t old q)
