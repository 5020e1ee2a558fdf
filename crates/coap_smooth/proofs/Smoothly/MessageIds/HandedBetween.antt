-- Between two answers that the client hears, the server's message layer hands up a request: that of the exchange that
-- the second of them answers.
use Rattle.std.proofs.Common.{◌≡◌, ◌⊎◌, inl, inr, ℕ, true, Option, Some, None, List, [], ◌∷◌, refl, ap, sym, subst, ◌∙◌}
use Rattle.std.proofs.Common.{is_some}
use Rattle.coap_types.specs.Past.{Ever, Sometime, Always}
use Rattle.coap_types.specs.declared.endpoint.Endpoint.{Endpoint}
use Rattle.coap_codec.specs.Message.{Message}
use Rattle.coap_layer.specs.Trace as L
use Rattle.coap_layer.specs.declared.setup.Setup.{Setup}
use Rattle.coap_block.specs.Sizes.{Sizes}
use Rattle.coap_observe.specs.Observers.{Observer}
use Rattle.coap_resource.specs.Serves.{Question}
use Rattle.coap_exchange.specs.declared.answerer.Asked.{Asked}
use Rattle.coap_exchange.specs.declared.asker.Event.TheVariants as event_of
use Rattle.coap_exchange.specs.declared.asker.Exchange.{Exchange}
use Rattle.coap_client_laws.specs.Follows.Answered.{IsSentFor}
use Rattle.coap_client_laws.specs.Follows.Begins.{WasSent}
use Rattle.coap_client_laws.specs.Follows.CallsAlone.{CallsAlone, NoneIsTaken, is_call}
use Rattle.coap_client_laws.specs.Follows.Open.{IsOfOpen}
use Rattle.coap_client_laws.specs.Follows.Tokens.{OwnTokens, Deregisters}
use Rattle.coap_client.specs.Sendings.{Sending, hears}
use Rattle.coap_client.specs.Law.{ClientLaw}
use Rattle.coap_client.specs.Own.{Operation, Calling}
use Rattle.coap_client.specs.Trace as C
use Rattle.coap_client_laws.proofs.Facts.Exchanges.{hears_of_open}
use Rattle.coap_server.specs.Checks.{Verdict, Uploads}
use Rattle.coap_server.specs.Follows.Brings.{HandsUp, Comes}
use Rattle.coap_server.specs.Follows.Observes.{WasMade}
use Rattle.coap_server.specs.Follows.Serves.{Serving, serving}
use Rattle.coap_server.specs.Law.{own_of as S_own}
use Rattle.coap_server.specs.Trace as S
use Rattle.coap_server_laws.proofs.Facts.Laws as server_facts
use Rattle.coap_promise.specs.Answers.{IsAnswer, replies, continues, refuses, notifies, AnswersAt}
use Rattle.coap_record.specs.Events.{Config}
use Rattle.coap_promise.specs.Hops.{server_adds}
use Rattle.coap_record.specs.Record.{Entry, OfClient, OfServer, client_of, server_trace, settings}
use Rattle.coap_promise.specs.Serves.{BroughtAt}
use Rattle.coap_smooth.specs.Smooth.{came_at, to_server}
use Rattle.coap_promise.proofs.Facts.Delivery.HopsAreEntries.{server_layer, server_next}
use Rattle.coap_promise.proofs.Facts.Reports.Answered.{all_answered}
use Rattle.coap_promise.proofs.Facts.Requests.CameFrom.{same_front}
use Rattle.coap_promise.proofs.Facts.Requests.OfACall.{Lawful, lawful_back}
use Rattle.coap_promise.proofs.Facts.Requests.Traced.{brought_in}
use Rattle.coap_smooth.proofs.Smoothly.Answers.ExchangeOpen.{OpenOf, open_of, last_of, runs_of}
use Rattle.coap_smooth.proofs.Smoothly.Arriving.OthersTakeNone.{server_call, server_up}
use Rattle.coap_smooth.proofs.Smoothly.Arriving.WhereItArrives.{at_server}
use Rattle.coap_promise.proofs.Facts.Reports.BegunWith.{none_made}
use Rattle.coap_promise.proofs.Facts.Requests.AtAnyTime.{at_any_time}

-- when an answer is heard, and when the server's layer hands something up

abbrev pub answered_at : C.Call → Option ℕ
answered_at (C.Feeds now from bytes word up settled (Some (event_of.Answer m)) sent token kept) = Some now
answered_at c = None

abbrev pub heard_at : Entry → Option ℕ
heard_at (OfClient c) = answered_at c
heard_at (OfServer c) = None

abbrev pub arrived_at : Entry → Option ℕ
arrived_at (OfClient c) = None
arrived_at (OfServer c) = to_server c

-- since the last answer was heard, something was handed up
abbrev pub CameSince : List Entry → Type 0
CameSince [] = ⊥
CameSince (e ∷ past) = (is_some (arrived_at e) ≡ true) ⊎ ((heard_at e ≡ None) × CameSince past)

abbrev pub AreBetween : List Entry → Type 0
AreBetween es = Always (λ past e. is_some (heard_at e) ≡ true → CameSince past) es

silent : (c : C.Call) → hears c ≡ None → answered_at c ≡ None
silent (C.Feeds now from bytes word up settled (Some (event_of.Answer m)) sent token kept) h = absurd (cc h)
silent _ h = refl

pub heard_some : (c : C.Call) → is_some (answered_at c) ≡ true → (m : Message) × (hears c ≡ Some m)
heard_some (C.Feeds now from bytes word up settled (Some (event_of.Answer m)) sent token kept) h = (m, refl)
heard_some _ h = absurd (cc h)

pub found : (P : L.Entry → Type 0) (xs : List L.Entry) → Ever P xs → (y : L.Entry) × Ever (λ z. z ≡ y) xs × P y
found P [] h = absurd h
found P (y ∷ xs) (inl h) = (y, inl refl, h)
found P (y ∷ xs) (inr h) = let k = found P xs h in (k.0, inr k.1, k.2)

-- a message that arrives and is handed up comes to the server
arrives_some : (c : S.Call) (from : Endpoint) (bytes : List ℕ) (up : L.Answer) → server_call c ≡ L.Receive from bytes
    → up ≡ server_up c → ((now : ℕ) → is_some (came_at now up) ≡ true) → is_some (to_server c) ≡ true
arrives_some (S.Feeds now f b word u came h below) from bytes up is same some =
    ap (λ z. is_some (came_at now z)) (sym same) ∙ some now
arrives_some (S.Refuses now f b word code u p response below) from bytes up is same some =
    ap (λ z. is_some (came_at now z)) (sym same) ∙ some now
arrives_some _ from bytes up is same some = absurd (cc is)

-- what is sent for a call cancels nothing
not_cancelling : (op : Operation) (x : Sending) → is_call op ≡ true → IsSentFor op x → (y : Sending) → Deregisters y x
    → ⊥
not_cancelling (Calling n r t) x h is y d = let k = d.cancels in cc (is, k)
not_cancelling _ x h is y d = cc h

module _ (config : Config) where
  abbrev trace : List Entry → List S.Call
  trace past = server_trace config past

  -- here the server's layer hands up a request that was sent under this token
  record HandsSent (token : List ℕ) (past : List Entry) (e : Entry) : Type 0 where
    sending : Sending
    sent : WasSent config.client_sizes sending (client_of past)
    token_is : sending.token ≡ token
    arrives : is_some (arrived_at e) ≡ true

  comes_sent : (past : List Entry) (c : S.Call) (a : Asked) (v : Verdict) → Lawful config (OfServer c ∷ past)
      → Comes config.limits config.server_szx config.server_setup (trace past) c a v → a.from ≡ config.addresses.client
      → HandsSent a.token past (OfServer c)
  comes_sent past c a v law comes from =
      let k = law.came.0 a v comes from in
      let adds : server_adds config (trace past) c ≡ comes.news =
      same_front (server_adds config (trace past) c) comes.news (server_layer config (trace past))
      (sym (server_next config (trace past) c) ∙ comes.is) in
      let up = found (HandsUp config.server_szx a v) (server_adds config (trace past) c)
      (subst (Ever (HandsUp config.server_szx a v)) (sym adds) comes.here) in
      let at = at_server config (trace past) c (law.server.exchanges.left, law.server.exchanges.layer) a.from up.2.bytes
      up.0 up.1 up.2.call in
      record {
        sending = k.sending;
        sent = k.sent;
        token_is = sym (ap (λ (z : Asked). z.token) k.asked);
        arrives = arrives_some c a.from up.2.bytes up.0.answer at.call at.up
            (λ now. ap (λ u. is_some (came_at now u)) up.2.answer);
      }

  brought_sent : (a : Asked) (q : Question) (w : List Entry) → Lawful config w → a.from ≡ config.addresses.client
      → Sometime (BroughtAt config a q) w → Sometime (HandsSent a.token) w
  brought_sent a q [] law from h = h
  brought_sent a q (OfClient c ∷ w) law from (inl h) = absurd h
  brought_sent a q (OfServer c ∷ w) law from (inl h) = inl (comes_sent w c a h.verdict law h.comes from)
  brought_sent a q (e ∷ w) law from (inr h) = inr (brought_sent a q w (lawful_back config w e law) from h)

  -- a request that is served was handed up, here or before
  served_sent : (past : List Entry) (c : S.Call) → Lawful config (OfServer c ∷ past) → (x : Serving)
      → serving (S_own config.limits config.server_szx (trace past)) c ≡ Some x → x.asked.from ≡ config.addresses.client
      → Sometime (HandsSent x.asked.token) (OfServer c ∷ past)
  served_sent past c law x here from =
      brought_sent x.asked x.question (OfServer c ∷ past) law from
      (brought_in config x.asked x.question (OfServer c ∷ past)
      ((server_facts.handed config.limits config.server_szx config.server_setup (c ∷ trace past) law.server).0 x here))

  -- .. and so was a registration
  made_sent : (o : Observer) (w : List Entry) → Lawful config w → o.to ≡ config.addresses.client
      → WasMade config.limits config.server_szx (trace w) o → Sometime (HandsSent o.token) w
  made_sent o [] law to h = absurd (none_made config o (settings config) h)
  made_sent o (OfClient c ∷ w) law to h = inr (made_sent o w (lawful_back config w (OfClient c) law) to h)
  made_sent o (OfServer c ∷ w) law to (inr h) = inr (made_sent o w (lawful_back config w (OfServer c) law) to h)
  made_sent o (OfServer c ∷ w) law to (inl h) =
      subst (λ token. Sometime (HandsSent token) (OfServer c ∷ w)) h.made.token_is
      (served_sent w c law h.made.request h.made.here (h.made.from ∙ to))

  answer_sent : (m : Message) (past : List Entry) (c : S.Call) → Lawful config (OfServer c ∷ past)
      → IsAnswer config m (trace past) c → Sometime (HandsSent m.token) (OfServer c ∷ past)
  answer_sent m past c law (replies x here is) =
      subst (λ token. Sometime (HandsSent token) (OfServer c ∷ past)) is.token_is
      (served_sent past c law x here is.to_client)
  answer_sent m past c law (continues x size takes more asks is) =
      let b = (server_facts.blocks config.limits config.server_szx config.server_setup (c ∷ trace past)
      law.server).0 x takes in
      subst (λ token. Sometime (HandsSent token) (OfServer c ∷ past)) is.token_is
      (inl (comes_sent past c x.asked (Uploads b.question b.block) law b.comes is.to_client))
  answer_sent m past c law (refuses a v code comes hands unserved refuses_it is) =
      subst (λ token. Sometime (HandsSent token) (OfServer c ∷ past)) is.token_is
      (inl (comes_sent past c a v law comes is.to_client))
  answer_sent m past c law (notifies o reply here made shows is) =
      subst (λ token. Sometime (HandsSent token) (OfServer c ∷ past)) is.token_is
      (inr (made_sent o past (lawful_back config past (OfServer c) law) is.to_client made))

  answered_sent : (m : Message) (es : List Entry) → Lawful config es → Sometime (AnswersAt config m) es
      → Sometime (HandsSent m.token) es
  answered_sent m [] law h = h
  answered_sent m (OfClient c ∷ past) law (inl h) = absurd h
  answered_sent m (OfServer c ∷ past) law (inl h) = answer_sent m past c law h
  answered_sent m (e ∷ past) law (inr h) = inr (answered_sent m past (lawful_back config past e law) h)

  -- what was handed up was sent before
  record SentUnder (token : List ℕ) (es : List Entry) : Type 0 where
    sending : Sending
    sent : WasSent config.client_sizes sending (client_of es)
    token_is : sending.token ≡ token

  sent_under : (token : List ℕ) (es : List Entry) → Sometime (HandsSent token) es → SentUnder token es
  sent_under token [] h = absurd h
  sent_under token (OfServer c ∷ past) (inl h) =
      record { sending = h.sending; sent = h.sent; token_is = h.token_is }
  sent_under token (OfServer c ∷ past) (inr h) =
      let k = sent_under token past h in record { sending = k.sending; sent = k.sent; token_is = k.token_is }
  sent_under token (OfClient c ∷ past) (inl h) = let k = h.arrives in absurd (cc k)
  sent_under token (OfClient c ∷ past) (inr h) =
      let k = sent_under token past h in record { sending = k.sending; sent = inr k.sent; token_is = k.token_is }

  -- from now back to where the request of the exchange was handed up, no answer is heard
  back_to : (at : ℕ) (x : Sending) → ((y : Sending) → Deregisters y x → ⊥) → (es : List Entry)
      → OwnTokens config.client_sizes (client_of es)
      → OpenOf config.addresses.server config.client_sizes config.client_setup at x (client_of es)
      → Sometime (HandsSent x.token) es → CameSince es
  back_to at x apart [] own o h = h
  back_to at x apart (OfServer c ∷ past) own o (inl h) = inl h.arrives
  back_to at x apart (OfServer c ∷ past) own o (inr h) = inr (refl, back_to at x apart past own o h)
  back_to at x apart (OfClient c ∷ past) own o (inl h) = let k = h.arrives in absurd (cc k)
  back_to at x apart (OfClient c ∷ past) own (inl o) (inr h) =
      let k = sent_under x.token past h in
      absurd (apart k.sending (own.0 x k.sending o.0 k.sent k.token_is))
  back_to at x apart (OfClient c ∷ past) own (inr o) (inr h) =
      inr (silent c o.1, back_to at x apart past own.1 o.3 h)

  module _ (own_tokens : (t : List C.Call) → ClientLaw config.addresses.server config.client_sizes config.client_setup t
      → OwnTokens config.client_sizes t)
      (alone : (t : List C.Call) → ClientLaw config.addresses.server config.client_sizes config.client_setup t
      → CallsAlone config.client_sizes t) where
    came_since : (past : List Entry) (c : C.Call) → Lawful config (OfClient c ∷ past)
        → NoneIsTaken (c ∷ client_of past) → (m : Message) → hears c ≡ Some m → CameSince past
    came_since past c law none m is =
        let before = lawful_back config past (OfClient c) law in
        let sizes : Sizes = config.client_sizes in
        let setup : Setup = config.client_setup in
        let h : IsOfOpen config.addresses.server sizes setup (client_of past) m =
        (hears_of_open config.addresses.server sizes setup (c ∷ client_of past) law.client).0 m is in
        let o = open_of config.addresses.server sizes setup h.since (client_of past) before.client h.is_open in
        let r = runs_of config.addresses.server sizes setup h.since o.0 (client_of past) before.client o.1 in
        let both : Some h.runs.exchange ≡ Some r.exchange = sym h.runs.runs ∙ r.runs in
        let same : h.runs.exchange ≡ r.exchange = cc both in
        let token : m.token ≡ (o.0).token = h.token ∙ ap (λ (y : Exchange). y.token) same ∙ r.token in
        let lasts : Some h.runs.sending ≡ Some o.0 = sym h.runs.last_sent
        ∙ last_of config.addresses.server sizes setup h.since o.0 (client_of past) o.1 in
        let last : h.runs.sending ≡ o.0 = cc lasts in
        let calls : is_call h.runs.operation ≡ true =
        (alone (c ∷ client_of past) law.client none).0.runs h.runs.operation h.runs.operates in
        back_to h.since o.0
        (not_cancelling h.runs.operation o.0 calls (subst (IsSentFor h.runs.operation) last h.runs.sent_for)) past
        (own_tokens (client_of past) before.client) o.1
        (subst (λ t. Sometime (HandsSent t) past) token
        (answered_sent m past before ((all_answered config (OfClient c ∷ past) (at_any_time law)).0 m is)))

    pub handed_between : (es : List Entry) → Lawful config es → NoneIsTaken (client_of es) → AreBetween es
    handed_between [] law none = tt
    handed_between (OfServer c ∷ past) law none =
        (λ h. absurd (cc h), handed_between past (lawful_back config past (OfServer c) law) none)
    handed_between (OfClient c ∷ past) law none = (
      λ h. (let k = heard_some c h in came_since past c law none k.0 k.1),
      handed_between past (lawful_back config past (OfClient c) law) none.1,
    )
