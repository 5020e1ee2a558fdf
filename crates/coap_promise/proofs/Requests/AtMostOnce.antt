-- At most one applied request belongs to a call.
use Rattle.std.proofs.Common.{◌≡◌, ◌≤◌, ◌⊎◌, inl, inr, ℕ, Some, List, [], ◌∷◌, refl, ap, sym, subst, ◌∙◌, arith}
use Rattle.coap_types.specs.Past.{Ever, Sometime, Always}
use Rattle.coap_codec.specs.Message.{Message, Spells}
use Rattle.coap_layer.specs.Channel.{near_of}
use Rattle.coap_layer.specs.Words.{Open, begun}
use Rattle.coap_exchange.specs.declared.answerer.Asked.{Asked}
use Rattle.coap_exchange.specs.AnswererFollows.{hits, same_asked}
use Rattle.coap_exchange.specs.AnswererSteps.{asked_of}
use Rattle.coap_exchange.proofs.Facts.ServerSide.{self_hits}
use Rattle.coap_client_laws.specs.Follows.Sendings.{NoNons}
use Rattle.coap_server_laws.specs.Follows.Counts.{ups}
use Rattle.coap_client_laws.specs.Follows.Order.{call_of}
use Rattle.coap_client_laws.specs.Follows.Tokens.{Ends}
use Rattle.coap_client.specs.Sendings.{Taken, WasTaken, Sending}
use Rattle.coap_server.specs.Follows.Serves.{Serving, serving, asked_of as served_as, times_served}
use Rattle.coap_server.specs.Law.{own_of}
use Rattle.coap_server.specs.Trace as S
use Rattle.coap_client_laws.proofs.Facts.Laws as client_facts
use Rattle.coap_server_laws.proofs.Facts.Laws as server_facts
use Rattle.coap_promise.specs.Applied.{AtMostOnce}
use Rattle.coap_promise.specs.CameFrom.{request_of}
use Rattle.coap_record.specs.Events.{Config}
use Rattle.coap_promise.specs.Hops.{hops_in}
use Rattle.coap_record.specs.Legal.{IsRequest}
use Rattle.coap_record.specs.Record.{Entry, OfClient, OfServer, client_of, server_trace}
use Rattle.coap_promise.specs.Words.{AppliesFor}
use Rattle.coap_promise.proofs.Facts.Requests.HandedUpOnce.{OneConBy, up_once, once_counted}
use Rattle.coap_promise.proofs.Facts.Delivery.HopsAreEntries.{near_is, far_is}
use Rattle.coap_promise.proofs.Facts.Requests.CameFrom.{same_request}
use Rattle.coap_promise.proofs.Facts.Requests.OfACall.{no_call, Lawful, lawful_back, Sent, Later, later_back, Known}
use Rattle.coap_promise.proofs.Facts.Requests.OfACall.{one_sending, known}

module _ (config : Config) (number : ℕ) (all : List Entry) (small : config.client_sizes.szx ≤ 6)
    (whole : Lawful config all)
    (in_range : (x : Taken) → WasTaken x (client_of all) → IsRequest x.request) where
  abbrev Knows : List Entry → Serving → Type 0
  Knows w x = Known config number all small whole in_range w x

  abbrev LaterAll : List Entry → Type 0
  LaterAll t = Later config number all small whole in_range t

  -- one CON has the token of a request of a call: no cancel of an observation has it, nor a registration
  not_registers : (k : Sending) → Sent config number all small whole in_range k all → call_of k.operation ≡ Some number
      → (con other : Open) (m : Message) → Spells con.bytes m → con.id ≡ m.id → m.token ≡ k.token
      → Ends config.addresses.server config.client_sizes (client_of all) con other → ⊥
  not_registers k sent of con other m spells id token e =
      let same = one_sending config number all small whole in_range e.first k e.first_sent sent of
      (sym (ap (λ (z : Message). z.token) (same_request config.addresses con m e.first e.begins spells id)) ∙ token) in
      no_call e.first e.second number (ap (λ (z : Sending). call_of z.operation) same ∙ of) e.deregisters

  pub one_con : (k : Sending) → Sent config number all small whole in_range k all → call_of k.operation ≡ Some number
      → OneConBy k.token (near_of (hops_in config all))
  one_con k sent of a b i j x y sa sb ia ib ta tb =
      let near = near_is config all in
      by (client_facts.one_con config.addresses.server config.client_sizes config.client_setup (client_of all)
      whole.client a b
      (subst (Ever (λ e. begun e ≡ Some a)) near i) (subst (Ever (λ e. begun e ≡ Some b)) near j) x y sa sb
      (ta ∙ sym tb))
    where
      by : (a ≡ b) ⊎ (Ends config.addresses.server config.client_sizes (client_of all) a b
          ⊎ Ends config.addresses.server config.client_sizes (client_of all) b a) → a ≡ b
      by (inl same) = same
      by (inr (inl e)) = absurd (not_registers k sent of a b x sa ia ta e)
      by (inr (inr e)) = absurd (not_registers k sent of b a y sb ib tb e)

  -- so two are one request: only the last of a call can be applied
  same_asked_by : (v w : List Entry) (x y : Serving) → Knows v x → Knows w y → x.asked ≡ y.asked
  same_asked_by v w x y k l =
      let s : k.sending ≡ l.sending = client_facts.one_last config.addresses.server config.client_sizes
      config.client_setup
      (client_of all) whole.client k.sending l.sending number k.sent l.sent k.of_call l.of_call k.last l.last in
      let c : k.con ≡ l.con =
      one_con l.sending l.sent l.of_call k.con l.con k.begun_there l.begun_there (request_of k.con.id k.sending)
      (request_of l.con.id l.sending) k.spells l.spells refl refl
      (ap (λ (z : Sending). z.token) s) refl
      in
      k.asked ∙ (ap (λ (z : Open). asked_of config.addresses.client (request_of z.id k.sending)) c
      ∙ (ap (λ z. asked_of config.addresses.client (request_of l.con.id z)) s ∙ sym l.asked))

  served_now : (past : List Entry) (c : S.Call) (x : Serving) (b : Asked) → x.asked ≡ b
      → serving (own_of config.limits config.server_szx (server_trace config past)) c ≡ Some x
      → 1 ≤ hits (same_asked b) (served_as (serving
      (own_of config.limits config.server_szx (server_trace config past)) c))
  served_now past c x b is h =
      let e : hits (same_asked b) (served_as (serving
      (own_of config.limits config.server_szx (server_trace config past)) c))
      ≡ hits (same_asked b) (Some b) = ap (λ o. hits (same_asked b) (served_as o)) h
      ∙ ap (λ z. hits (same_asked b) (Some z)) is in
      let f = self_hits b in
      omega (arith, e, f)

  served_before : (w : List Entry) (y : Serving) → Knows w y → (t : List Entry) → LaterAll t → Lawful config t
      → Sometime (AppliesFor config number all) t
      → 1 ≤ times_served config.limits config.server_szx y.asked (server_trace config t)
  served_before w y k [] later law h = absurd h
  served_before w y k (OfClient c ∷ past) later law (inl a) = absurd a.here
  served_before w y k (OfClient c ∷ past) later law (inr h) =
      served_before w y k past (later_back config number all small whole in_range (OfClient c) past later)
      (lawful_back config past (OfClient c) law) h
  served_before w y k (OfServer c ∷ past) later law (inl a) =
      let n = served_now past c a.request y.asked
      (same_asked_by (OfServer c ∷ past) w a.request y
      (known config number all small whole in_range past c later law a) k) a.here in
      omega (arith, n)
  served_before w y k (OfServer c ∷ past) later law (inr h) = let n =
      served_before w y k past (later_back config number all small whole in_range (OfServer c) past later)
      (lawful_back config past (OfServer c) law) h in omega (arith, n)

  not_twice : (past : List Entry) (c : S.Call) → LaterAll (OfServer c ∷ past) → Lawful config (OfServer c ∷ past)
      → AppliesFor config number all past (OfServer c) → Sometime (AppliesFor config number all) past → ⊥
  not_twice past c later law a h =
      let e : Entry = OfServer c in
      let x : Serving = a.request in
      let t : List S.Call = server_trace config (e ∷ past) in
      let k : Knows (e ∷ past) x = known config number all small whole in_range past c later law a in
      let before = served_before (e ∷ past) x k past (later_back config number all small whole in_range e past later)
      (lawful_back config past e law) h in
      let fewer = (server_facts.served config.limits config.server_szx config.server_setup t law.server).0 x a.here in
      let counted = (server_facts.counts config.limits config.server_szx config.server_setup t law.server).0 x.asked in
      let token : x.asked.token ≡ k.sending.token = ap (λ (z : Asked). z.token) k.asked in
      let cons : OneConBy x.asked.token (near_of (hops_in config (e ∷ past))) = λ p q i j m n pm qn pi qi tp tq.
      one_con k.sending k.sent k.of_call p q (later.1 p i) (later.1 q j) m n pm qn pi qi (tp ∙ token) (tq ∙ token)
      in
      let nons = subst NoNons (sym (near_is config (e ∷ past)))
      (client_facts.nons config.addresses.server config.client_sizes config.client_setup (client_of past)) in
      let few = once_counted x.asked (hops_in config (e ∷ past))
      (up_once config.client_setup config.server_setup config.addresses.client config.addresses.server x.asked a.from
      (hops_in config (e ∷ past)) law.channel nons cons) in
      let same = ap (ups x.asked) (far_is config (e ∷ past)) in
      omega (arith, before, fewer, counted, few, same)

  at_most : (t : List Entry) → LaterAll t → Lawful config t
      → Always (λ past e. AppliesFor config number all past e → Sometime (AppliesFor config number all) past → ⊥) t
  at_most [] later law = tt
  at_most (OfClient c ∷ past) later law = (
    λ a h. a.here,
    at_most past (later_back config number all small whole in_range (OfClient c) past later)
        (lawful_back config past (OfClient c) law),
  )
  at_most (OfServer c ∷ past) later law = (
    λ a h. not_twice past c later law a h,
    at_most past (later_back config number all small whole in_range (OfServer c) past later)
        (lawful_back config past (OfServer c) law),
  )

pub at_most_once : (config : Config) (all : List Entry) → config.client_sizes.szx ≤ 6 → Lawful config all
    → ((x : Taken) → WasTaken x (client_of all) → IsRequest x.request) → AtMostOnce config all
at_most_once config all small law in_range number =
    at_most config number all small law in_range all (λ x h. h, λ con h. h, λ x h. h) law
