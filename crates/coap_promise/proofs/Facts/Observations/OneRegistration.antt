-- While an observation isn't cancelled, the server serves one request under its token.
use Rattle.std.proofs.Common.{◌≡◌, ◌≤◌, ◌⊎◌, inl, inr, ℕ, Some, List, [], ◌∷◌, map, refl, ap, sym, subst, ◌∙◌, arith}
use Rattle.coap_types.specs.Past.{Ever, Sometime, Always}
use Rattle.coap_codec.specs.Message.{Message, Spells}
use Rattle.coap_layer.specs.Channel.{near_of}
use Rattle.coap_layer.specs.Words.{Open, begun}
use Rattle.coap_exchange.specs.declared.answerer.Asked.{Asked}
use Rattle.coap_exchange.specs.AnswererFollows.{hits, same_asked}
use Rattle.coap_exchange.specs.AnswererSteps.{asked_of}
use Rattle.coap_exchange.proofs.Facts.ServerSide.{self_hits}
use Rattle.coap_client_laws.specs.Follows.Sendings.{NoNons}
use Rattle.coap_server_laws.specs.Follows.Counts.{ups}
use Rattle.coap_client_laws.specs.Follows.Begins.{WasSent}
use Rattle.coap_client_laws.specs.Follows.Ended.{WasCancelled}
use Rattle.coap_client.specs.Own.{Registering, Cancelling}
use Rattle.coap_client_laws.specs.Follows.Tokens.{Deregisters, Ends}
use Rattle.coap_client.specs.Sendings.{Sending}
use Rattle.coap_server.specs.Follows.Serves.{Serving, serving, asked_of as served_as, times_served}
use Rattle.coap_server.specs.Follows.Tells.{Pair}
use Rattle.coap_server.specs.Law.{own_of}
use Rattle.coap_server.specs.Trace as S
use Rattle.coap_client_laws.proofs.Facts.Laws as client_facts
use Rattle.coap_server_laws.proofs.Facts.Laws as server_facts
use Rattle.coap_server_laws.specs.Follows.Told.{ServesNon, ServesPair}
use Rattle.coap_promise.specs.CameFrom.{request_of}
use Rattle.coap_record.specs.Events.{Config}
use Rattle.coap_promise.specs.Hops.{hops_at, hops_in}
use Rattle.coap_record.specs.Record.{Entry, OfClient, OfServer, client_of, server_trace, Setting, DelayOf, PlainOf}
use Rattle.coap_record.specs.Record.{gives_it, settings}
use Rattle.coap_promise.proofs.Facts.Requests.HandedUpOnce.{OneConBy, up_once, once_counted}
use Rattle.coap_promise.proofs.Facts.Delivery.HopsAreEntries.{near_is, far_is}
use Rattle.coap_promise.proofs.Facts.Requests.CameFrom.{same_request}
use Rattle.coap_promise.proofs.Facts.Requests.OfACall.{Lawful, lawful_back}
use Rattle.coap_promise.proofs.Facts.Requests.Traced.{near_later, sent_later, Traced, traced, brought_in}
use Rattle.coap_promise.proofs.Facts.Observations.Positions.{AtServer, server_entries}

module _ (config : Config) where
  -- which of the client's requests it is that is served here
  pub came : (past : List Entry) (c : S.Call) → Lawful config (OfServer c ∷ past) → (x : Serving)
      → serving (own_of config.limits config.server_szx (server_trace config past)) c ≡ Some x
      → x.asked.from ≡ config.addresses.client
      → Traced config x.asked x.question (OfServer c ∷ past)
  came past c law x here from =
      let w : List Entry = OfServer c ∷ past in
      let brings = (server_facts.handed config.limits config.server_szx config.server_setup
      (server_trace config w) law.server).0 x here in
      traced config x.asked x.question w law.came from (brought_in config x.asked x.question w brings)

  -- it is a CON
  non_first : (past : List S.Call) (s : Setting)
      → ServesNon config.limits config.server_szx config.addresses.client past (gives_it s) → ⊥
  non_first past (DelayOf d) k = let here = k.here in cc here
  non_first past (PlainOf p) k = let here = k.here in cc here

  non_at : (t : List Entry) → Lawful config t → Sometime
      (AtServer config (ServesNon config.limits config.server_szx config.addresses.client)) t → ⊥
  non_at [] law h = h
  non_at (OfClient c ∷ past) law (inl h) = h
  non_at (OfClient c ∷ past) law (inr h) = non_at past (lawful_back config past (OfClient c) law) h
  non_at (OfServer c ∷ past) law (inr h) = non_at past (lawful_back config past (OfServer c) law) h
  non_at (OfServer c ∷ past) law (inl h) =
      let k = came past c law h.request h.here h.from in
      h.kind (ap (λ (a : Asked). a.kind) k.came.asked)

  pub no_non : (t : List Entry) → Lawful config t
      → Sometime (ServesNon config.limits config.server_szx config.addresses.client) (server_trace config t) → ⊥
  no_non t law h = non_at t law (server_entries config
      (ServesNon config.limits config.server_szx config.addresses.client) non_first t h)

module _ (config : Config) (all : List Entry) (whole : Lawful config all) (number : ℕ) (token : List ℕ)
    (first : Sending) (sent : WasSent config.client_sizes first (client_of all)) (path : List (List ℕ))
    (registers : first.operation ≡ Registering number path) (token_is : first.token ≡ token)
    (none : WasCancelled config.client_sizes number (client_of all) → ⊥) where
  -- the token is that of the registration alone
  is_first : (x : Sending) → WasSent config.client_sizes x (client_of all) → x.token ≡ token → x ≡ first
  is_first x there same = by (client_facts.tokens config.addresses.server config.client_sizes config.client_setup
      (client_of all) whole.client x first there sent (same ∙ sym token_is))
    where
      by : (x ≡ first) ⊎ (Deregisters x first ⊎ Deregisters first x) → x ≡ first
      by (inl e) = e
      by (inr (inl d)) = let c : Cancelling d.number ≡ Registering number path = sym d.cancels
          ∙ registers in absurd (cc c)
      by (inr (inr d)) =
          let r : Registering d.number d.path ≡ Registering number path = sym d.registers ∙ registers in
          let n : d.number ≡ number = cc r in
          absurd (none (record { sending = x; sent = there; cancels = d.cancels ∙ ap (λ z. Cancelling z) n }))

  not_ended : (con other : Open) (m : Message) → Spells con.bytes m → con.id ≡ m.id
      → m.token ≡ token → Ends config.addresses.server config.client_sizes (client_of all) con other → ⊥
  not_ended con other m spells id here e =
      let same = is_first e.first e.first_sent (sym
      (ap (λ (z : Message). z.token) (same_request config.addresses con m e.first e.begins spells id)) ∙ here) in
      let r : Registering e.deregisters.number e.deregisters.path
      ≡ Registering number path = sym e.deregisters.registers
      ∙ (ap (λ (z : Sending). z.operation) same ∙ registers) in
      let n : e.deregisters.number ≡ number = cc r in
      none (record {
        sending = e.second;
        sent = e.second_sent;
        cancels = e.deregisters.cancels ∙ ap (λ z. Cancelling z) n;
      })

  one_con : OneConBy token (near_of (hops_in config all))
  one_con a b i j x y sa sb ia ib ta tb =
      let near = near_is config all in
      by (client_facts.one_con config.addresses.server config.client_sizes config.client_setup (client_of all)
      whole.client a b
      (subst (Ever (λ e. begun e ≡ Some a)) near i) (subst (Ever (λ e. begun e ≡ Some b)) near j) x y sa sb
      (ta ∙ sym tb))
    where
      by : (a ≡ b) ⊎ (Ends config.addresses.server config.client_sizes (client_of all) a b
          ⊎ Ends config.addresses.server config.client_sizes (client_of all) b a) → a ≡ b
      by (inl same) = same
      by (inr (inl e)) = absurd (not_ended a b x sa ia ta e)
      by (inr (inr e)) = absurd (not_ended b a y sb ib tb e)

  abbrev pub pair : Pair
  pair = record { to = config.addresses.client; token = token }

  abbrev pub Serves : List S.Call → S.Call → Type 0
  Serves past c = ServesPair config.limits config.server_szx pair past c

  abbrev Later : List Entry → Type 0
  Later t = ((x : Sending) → WasSent config.client_sizes x (client_of t)
      → WasSent config.client_sizes x (client_of all))
      × ((con : Open) → Ever (λ b. begun b ≡ Some con) (near_of (hops_in config t))
      → Ever (λ b. begun b ≡ Some con) (near_of (hops_in config all)))

  later_back : (e : Entry) (past : List Entry) → Later (e ∷ past) → Later past
  later_back e past h = (
    λ x k. h.0 x (sent_later config x past e k),
    λ con k. h.1 con (near_later (λ b. begun b ≡ Some con) (hops_at config past e) (hops_in config past) k),
  )

  -- a request of the client under this token is served, whether it registers or not
  pub record ServesIt (past : List S.Call) (c : S.Call) : Type 0 where
    pub request : Serving
    pub here : serving (own_of config.limits config.server_szx past) c ≡ Some request
    pub from : request.asked.from ≡ config.addresses.client
    pub under : request.asked.token ≡ token

  abbrev it : (past : List S.Call) (c : S.Call) → Serves past c → ServesIt past c
  it past c k = record { request = k.request; here = k.here; from = k.from; under = k.token_is }

  -- which request it is
  record Known (x : Serving) : Type 0 where
    con : Open
    begun_there : Ever (λ b. begun b ≡ Some con) (near_of (hops_in config all))
    spells : Spells con.bytes (request_of con.id first)
    asked : x.asked ≡ asked_of config.addresses.client (request_of con.id first)

  known : (past : List Entry) (c : S.Call) → Later (OfServer c ∷ past) → Lawful config (OfServer c ∷ past)
      → (k : ServesIt (server_trace config past) c) → Known k.request
  known past c later law k =
      let x : Serving = k.request in
      let t = came config past c law x k.here k.from in
      let s : Sending = t.came.sending in
      let same : s ≡ first = is_first s (later.0 s t.sent)
      (sym (ap (λ (z : Asked). z.token) t.came.asked) ∙ k.under) in
      record {
        con = t.came.con;
        begun_there = later.1 t.came.con t.begun_before;
        spells = subst (λ z. Spells t.came.con.bytes (request_of t.came.con.id z)) same t.came.spells;
        asked = t.came.asked ∙ ap (λ z. asked_of config.addresses.client (request_of t.came.con.id z)) same;
      }

  same_asked_by : (x y : Serving) → Known x → Known y → x.asked ≡ y.asked
  same_asked_by x y k l =
      let c : k.con ≡ l.con = one_con k.con l.con k.begun_there l.begun_there (request_of k.con.id first)
      (request_of l.con.id first) k.spells l.spells refl refl token_is token_is in
      k.asked ∙ (ap (λ (z : Open). asked_of config.addresses.client (request_of z.id first)) c ∙ sym l.asked)

  abbrev own : List Entry → S.Own
  own past = own_of config.limits config.server_szx (server_trace config past)

  served_now : (past : List Entry) (c : S.Call) (x : Serving) (b : Asked) → x.asked ≡ b → serving (own past) c ≡ Some x
      → 1 ≤ hits (same_asked b) (served_as (serving (own past) c))
  served_now past c x b is h =
      let e : hits (same_asked b) (served_as (serving (own past) c))
      ≡ hits (same_asked b) (Some b) = ap (λ o. hits (same_asked b) (served_as o)) h
      ∙ ap (λ z. hits (same_asked b) (Some z)) is in
      let f = self_hits b in
      omega (arith, e, f)

  abbrev At : List Entry → Entry → Type 0
  At = AtServer config Serves

  served_before : (y : Serving) → Known y → (t : List Entry) → Later t → Lawful config t → Sometime At t
      → 1 ≤ times_served config.limits config.server_szx y.asked (server_trace config t)
  served_before y k [] later law h = absurd h
  served_before y k (OfClient c ∷ past) later law (inl a) = absurd a
  served_before y k (OfClient c ∷ past) later law (inr h) =
      served_before y k past (later_back (OfClient c) past later) (lawful_back config past (OfClient c) law) h
  served_before y k (OfServer c ∷ past) later law (inl a) =
      let n = served_now past c a.request y.asked
      (same_asked_by a.request y (known past c later law (it (server_trace config past) c a)) k) a.here in
      omega (arith, n)
  served_before y k (OfServer c ∷ past) later law (inr h) = let n =
      served_before y k past (later_back (OfServer c) past later) (lawful_back config past (OfServer c) law) h in omega
      (arith, n)

  first_none : (past : List S.Call) (s : Setting) → Serves past (gives_it s) → ⊥
  first_none past (DelayOf d) k = let here = k.here in cc here
  first_none past (PlainOf p) k = let here = k.here in cc here

  not_twice : (past : List Entry) (c : S.Call) → Later (OfServer c ∷ past) → Lawful config (OfServer c ∷ past)
      → ServesIt (server_trace config past) c → Sometime Serves (server_trace config past) → ⊥
  not_twice past c later law a h =
      let e : Entry = OfServer c in
      let x : Serving = a.request in
      let t : List S.Call = server_trace config (e ∷ past) in
      let k : Known x = known past c later law a in
      let before = served_before x k past (later_back e past later) (lawful_back config past e law)
      (server_entries config Serves first_none past h) in
      let fewer = (server_facts.served config.limits config.server_szx config.server_setup t law.server).0 x a.here in
      let counted = (server_facts.counts config.limits config.server_szx config.server_setup t law.server).0 x.asked in
      let its : x.asked.token ≡ token = a.under in
      let cons : OneConBy x.asked.token (near_of (hops_in config (e ∷ past))) = λ p q i j m n pm qn pi qi tp tq.
      one_con p q (later.1 p i) (later.1 q j) m n pm qn pi qi (tp ∙ its) (tq ∙ its)
      in
      let nons = subst NoNons (sym (near_is config (e ∷ past)))
      (client_facts.nons config.addresses.server config.client_sizes config.client_setup (client_of past)) in
      let few = once_counted x.asked (hops_in config (e ∷ past))
      (up_once config.client_setup config.server_setup config.addresses.client config.addresses.server x.asked a.from
      (hops_in config (e ∷ past)) law.channel nons cons) in
      let same = ap (ups x.asked) (far_is config (e ∷ past)) in
      omega (arith, before, fewer, counted, few, same)

  abbrev pub Once : List S.Call → Type 0
  Once t = Always (λ past c. Serves past c → Sometime Serves past → ⊥) t

  -- behind that none is served
  abbrev pub ServedOnce : List S.Call → Type 0
  ServedOnce t = Always (λ past c. ServesIt past c → Sometime Serves past → ⊥) t

  it_first : (past : List S.Call) (s : Setting) → ServesIt past (gives_it s) → ⊥
  it_first past (DelayOf d) k = let here = k.here in cc here
  it_first past (PlainOf p) k = let here = k.here in cc here

  once_first : (ss : List Setting) → ServedOnce (map gives_it ss)
  once_first [] = tt
  once_first (s ∷ ss) = (λ a h. it_first _ s a, once_first ss)

  once_in : (t : List Entry) → Later t → Lawful config t → ServedOnce (server_trace config t)
  once_in [] later law = once_first (settings config)
  once_in (OfClient c ∷ past) later law = once_in past (later_back (OfClient c) past later)
      (lawful_back config past (OfClient c) law)
  once_in (OfServer c ∷ past) later law = (
    λ a h. not_twice past c later law a h,
    once_in past (later_back (OfServer c) past later) (lawful_back config past (OfServer c) law),
  )

  pub served_once : ServedOnce (server_trace config all)
  served_once = once_in all (λ x h. h, λ con h. h) whole

  registers_once : (t : List S.Call) → ServedOnce t → Once t
  registers_once [] h = tt
  registers_once (c ∷ t) h = (λ k before. h.0 (it t c k) before, registers_once t h.1)

  pub serves_once : Once (server_trace config all)
  serves_once = registers_once (server_trace config all) served_once
