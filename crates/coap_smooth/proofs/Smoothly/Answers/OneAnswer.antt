-- Where nothing is observed, a request of the client is answered by one call of the server.
use Rattle.std.proofs.Common.{◌≡◌, ◌⊎◌, inl, inr, ◌≤◌, ◌<◌, ℕ, ◌+◌, Some, List, [], ◌∷◌, ◌++◌, refl, ap, sym, subst}
use Rattle.std.proofs.Common.{◌∙◌, arith}
use Rattle.coap_types.specs.Past.{Ever, Sometime, Always}
use Rattle.coap_codec.specs.Message.{Spells}
use Rattle.coap_layer.specs.Channel.{near_of}
use Rattle.coap_layer.specs.Words.{Open, begun}
use Rattle.coap_exchange.specs.declared.answerer.Asked.{Asked}
use Rattle.coap_exchange.specs.AnswererFollows.{hits, same_asked, hands, responds, times_handed, times_answered}
use Rattle.coap_exchange.specs.AnswererFollows.{AreResponses}
use Rattle.coap_exchange.specs.AnswererSteps.{asked_of}
use Rattle.coap_exchange.specs.AnswererTrace as R
use Rattle.coap_exchange.proofs.Facts.ServerSide.{are_responses, self_hits}
use Rattle.coap_client_laws.specs.Follows.Begins.{WasSent}
use Rattle.coap_client_laws.specs.Follows.OfObservations.{AreOfObservations}
use Rattle.coap_client_laws.specs.Follows.Sendings.{NoNons}
use Rattle.coap_client_laws.specs.Follows.Tokens.{Deregisters, Ends}
use Rattle.coap_client.specs.Sendings.{Sending}
use Rattle.coap_client_laws.proofs.Facts.Laws as client_facts
use Rattle.coap_server.specs.Asks.{lower}
use Rattle.coap_server.specs.Follows.Attended.{AnswersIt}
use Rattle.coap_server_laws.specs.Follows.Counts.{ups}
use Rattle.coap_server.specs.Law.{own_of, lower_of}
use Rattle.coap_server.specs.Trace as S
use Rattle.coap_server_laws.proofs.Facts.Laws as server_facts
use Rattle.coap_promise.specs.CameFrom.{request_of}
use Rattle.coap_record.specs.Events.{Config}
use Rattle.coap_promise.specs.Hops.{hops_in}
use Rattle.coap_record.specs.Record.{Entry, OfServer, client_of, server_trace}
use Rattle.coap_smooth.specs.Smooth.{TakesNoObservation}
use Rattle.coap_promise.proofs.Facts.Delivery.HopsAreEntries.{near_is, far_is}
use Rattle.coap_promise.proofs.Facts.Reports.HandedOnce.{counted_in}
use Rattle.coap_promise.proofs.Facts.Requests.HandedUpOnce.{OneConBy, up_once, once_counted}
use Rattle.coap_promise.proofs.Facts.Requests.OfACall.{Lawful}
use Rattle.coap_smooth.proofs.Smoothly.Requests.PlainRequests.{was_plain}

-- how often, in the calls of the exchanges

answered_more : (a : Asked) (xs t : List R.Call) → times_answered a t ≤ times_answered a (xs ++ t)
answered_more a [] t = omega arith
answered_more a (c ∷ xs) t =
    more (hits (same_asked a) (responds c)) (times_answered a t) (times_answered a (xs ++ t)) (answered_more a xs t)
  where
    more : (n k m : ℕ) → k ≤ m → k ≤ n + m
    more n k m h = omega (arith, h)

answered_in : (a : Asked) (xs t : List R.Call) → Ever (λ b. responds b ≡ Some a) xs → 1 ≤ times_answered a (xs ++ t)
answered_in a [] t h = absurd h
answered_in a (c ∷ xs) t (inl h) =
    here (hits (same_asked a) (responds c)) (times_answered a (xs ++ t)) (ap (hits (same_asked a)) h ∙ self_hits a)
  where
    here : (n m : ℕ) → n ≡ 1 → 1 ≤ n + m
    here n m h = omega (arith, h)
answered_in a (c ∷ xs) t (inr h) =
    behind (hits (same_asked a) (responds c)) (times_answered a (xs ++ t)) (answered_in a xs t h)
  where
    behind : (n m : ℕ) → 1 ≤ m → 1 ≤ n + m
    behind n m h = omega (arith, h)

-- a second answer wants that it is handed up twice
two_handed : (a : Asked) (xs t : List R.Call) → AreResponses (xs ++ t) → Ever (λ b. responds b ≡ Some a) xs
    → 1 ≤ times_answered a t → 2 ≤ times_handed a (xs ++ t)
two_handed a [] t law h one = absurd h
two_handed a (c ∷ xs) t law (inl h) one =
    two (hits (same_asked a) (hands c)) (times_handed a (xs ++ t)) (times_answered a (xs ++ t)) (times_answered a t)
    (law.0.first a h) (answered_more a xs t) one
  where
    two : (n m k j : ℕ) → k < m → j ≤ k → 1 ≤ j → 2 ≤ n + m
    two n m k j h g f = omega (arith, h, g, f)
two_handed a (c ∷ xs) t law (inr h) one =
    behind (hits (same_asked a) (hands c)) (times_handed a (xs ++ t)) (two_handed a xs t law.1 h one)
  where
    behind : (n m : ℕ) → 2 ≤ m → 2 ≤ n + m
    behind n m h = omega (arith, h)

module _ (config : Config) where
  -- a request of the client is one that it sent
  pub record Origin (a : Asked) (es : List Entry) : Type 0 where
    pub sending : Sending
    pub con : Open
    pub sent : WasSent config.client_sizes sending (client_of es)
    pub begun_there : Ever (λ b. begun b ≡ Some con) (near_of (hops_in config es))
    pub spells : Spells con.bytes (request_of con.id sending)
    pub asked : a ≡ asked_of config.addresses.client (request_of con.id sending)

  module _ (es : List Entry) (law : Lawful config es)
      (observed : AreOfObservations config.client_sizes (client_of es))
      (none : Always (λ p c. TakesNoObservation c) (client_of es)) where
    no_cancel : (x y : Sending) → WasSent config.client_sizes y (client_of es) → Deregisters x y → ⊥
    no_cancel x y sent d = (was_plain config.client_sizes y (client_of es) observed none sent).no_cancel d.number
        d.cancels

    -- one CON has a token
    pub one_con : (token : List ℕ) → OneConBy token (near_of (hops_in config es))
    one_con token a b i j x y sa sb ia ib ta tb =
        let near = near_is config es in
        by (client_facts.one_con config.addresses.server config.client_sizes config.client_setup (client_of es)
        law.client a b
        (subst (Ever (λ e. begun e ≡ Some a)) near i) (subst (Ever (λ e. begun e ≡ Some b)) near j) x y sa sb
        (ta ∙ sym tb))
      where
        by : (a ≡ b) ⊎ (Ends config.addresses.server config.client_sizes (client_of es) a b
            ⊎ Ends config.addresses.server config.client_sizes (client_of es) b a) → a ≡ b
        by (inl same) = same
        by (inr (inl e)) = absurd (no_cancel e.first e.second e.second_sent e.deregisters)
        by (inr (inr e)) = absurd (no_cancel e.first e.second e.second_sent e.deregisters)

    -- .. and one request
    pub one_sending : (x y : Sending) → WasSent config.client_sizes x (client_of es)
        → WasSent config.client_sizes y (client_of es) → x.token ≡ y.token → x ≡ y
    one_sending x y i j same =
        by (client_facts.tokens config.addresses.server config.client_sizes config.client_setup (client_of es)
        law.client x y i j same)
      where
        by : (x ≡ y) ⊎ (Deregisters x y ⊎ Deregisters y x) → x ≡ y
        by (inl is) = is
        by (inr (inl d)) = absurd (no_cancel x y j d)
        by (inr (inr d)) = absurd (no_cancel y x i d)

    pub same_origin : (a b : Asked) → Origin a es → Origin b es → a.token ≡ b.token → a ≡ b
    same_origin a b k l same =
        let tokens : k.sending.token ≡ l.sending.token = sym (ap (λ (z : Asked). z.token) k.asked)
        ∙ (same ∙ ap (λ (z : Asked). z.token) l.asked) in
        let s : k.sending ≡ l.sending = one_sending k.sending l.sending k.sent l.sent tokens in
        let c : k.con ≡ l.con = one_con l.sending.token k.con l.con k.begun_there l.begun_there
        (request_of k.con.id k.sending) (request_of l.con.id l.sending) k.spells l.spells refl
        refl tokens refl in
        k.asked ∙ (ap (λ (z : Open). asked_of config.addresses.client (request_of z.id k.sending)) c
        ∙ (ap (λ z. asked_of config.addresses.client (request_of l.con.id z)) s ∙ sym l.asked))

  abbrev pub Answered : Asked → List S.Call → S.Call → Type 0
  Answered a past c = AnswersIt config.limits config.server_szx past c a

  answered_before : (a : Asked) (t : List S.Call) → Sometime (Answered a) t
      → 1 ≤ times_answered a (lower_of config.limits config.server_szx t)
  answered_before a [] h = absurd h
  answered_before a (c ∷ t) (inl h) = answered_in a (lower (own_of config.limits config.server_szx t) c)
      (lower_of config.limits config.server_szx t) h
  answered_before a (c ∷ t) (inr h) =
      let k = answered_before a t h in
      let more = answered_more a (lower (own_of config.limits config.server_szx t) c)
      (lower_of config.limits config.server_szx t) in
      omega (arith, k, more)

  pub answered_once : (past : List Entry) (c : S.Call) → Lawful config (OfServer c ∷ past)
      → AreOfObservations config.client_sizes (client_of past)
      → Always (λ p d. TakesNoObservation d) (client_of past) → (a : Asked) → a.from ≡ config.addresses.client
      → Answered a (server_trace config past) c → Sometime (Answered a) (server_trace config past) → ⊥
  answered_once past c law observed none a from now before =
      let es : List Entry = OfServer c ∷ past in
      let t : List S.Call = server_trace config es in
      let two = two_handed a (lower (own_of config.limits config.server_szx (server_trace config past)) c)
      (lower_of config.limits config.server_szx (server_trace config past))
      (are_responses (lower_of config.limits config.server_szx t) law.server.exchanges.rows) now
      (answered_before a (server_trace config past) before) in
      let same = server_facts.handed_as_often config.limits config.server_szx a t in
      let counted = counted_in config.limits config.server_szx a config.server_setup t
      (server_facts.counts config.limits config.server_szx config.server_setup t law.server) in
      let nons = subst NoNons (sym (near_is config es))
      (client_facts.nons config.addresses.server config.client_sizes config.client_setup (client_of past)) in
      let few = once_counted a (hops_in config es)
      (up_once config.client_setup config.server_setup config.addresses.client config.addresses.server a from
      (hops_in config es)
      law.channel nons (one_con es law observed none a.token)) in
      let far = ap (ups a) (far_is config es) in
      omega (arith, two, same, counted, few, far)
