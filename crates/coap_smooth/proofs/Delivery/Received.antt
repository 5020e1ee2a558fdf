-- What an end is fed its message layer receives.
use Rattle.std.proofs.Common.{◌≡◌, inl, inr, ℕ, max, List, [], ◌∷◌, ◌++◌, refl, sym, subst, arith, append_assoc}
use Rattle.coap_types.specs.Past.{Ever}
use Rattle.coap_types.specs.declared.endpoint.Endpoint.{Endpoint}
use Rattle.coap_types.proofs.Facts.Traces.{Ever_front, Ever_back, Ever_by_law}
use Rattle.coap_layer.specs.Machine.State.{State, start}
use Rattle.coap_layer.specs.Machine.Steps.{Asked, left_after, entries}
use Rattle.coap_layer.specs.Trace as L
use Rattle.coap_layer.specs.declared.setup.Setup.{Setup}
use Rattle.coap_exchange.specs.AnswererLaw as answerer
use Rattle.coap_exchange.specs.AnswererSteps as answerer_steps
use Rattle.coap_exchange.specs.AnswererSteps.{reject_by}
use Rattle.coap_exchange.specs.AnswererTrace as R
use Rattle.coap_exchange.specs.AskerArrivals.{acts, verdict_on, replying, id_in}
use Rattle.coap_exchange.specs.AskerLaw as asker
use Rattle.coap_exchange.specs.AskerRequests.{asked}
use Rattle.coap_exchange.specs.AskerSteps as asker_steps
use Rattle.coap_exchange.specs.AskerTrace as A
use Rattle.coap_exchange.specs.Adds.{asked_by_client, asked_by_server}
use Rattle.coap_client.specs.Deeds.{effect, close, deeds}
use Rattle.coap_client.specs.Trace as C
use Rattle.coap_server.specs.Asks.{answering}
use Rattle.coap_server.specs.Handling.{heard, incoming}
use Rattle.coap_server.specs.Trace as S
use Rattle.coap_client.specs.Law as client_law
use Rattle.coap_server.specs.Law as server_law
use Rattle.coap_record.specs.Events.{Config, Event}
use Rattle.coap_promise.specs.Hops.{client_adds, server_adds, client_asked, server_asked}
use Rattle.coap_record.specs.Legal.{Legal}
use Rattle.coap_smooth.specs.Received.{ReceivesAt, AreReceived}
use Rattle.coap_record.specs.Record.{Turn, RecordOf, entries_of, client_of, server_trace}
use Rattle.coap_promise.proofs.Facts.Delivery.ClientInTime as client
use Rattle.coap_promise.proofs.Facts.Delivery.EntriesInTime.{Every, Timely}
use Rattle.coap_promise.proofs.Facts.Delivery.HopsAreAChannel.{run}
use Rattle.coap_promise.proofs.Facts.Delivery.ServerInTime as server

-- the entries have the calls that are asked for
in_entries : (call : L.Call) (old : State) (asks : List Asked) → Ever (λ a. a.call ≡ call) asks
    → Ever (λ e. e.call ≡ call) (entries old asks)
in_entries call old [] h = h
in_entries call old (a ∷ asks) (inl h) = inl h
in_entries call old (a ∷ asks) (inr h) = inr (in_entries call old asks h)

-- each at its moment
at_moment : (t : ℕ) (F : Endpoint → List ℕ → Type 0) (from : Endpoint) (bytes : List ℕ) (es : List L.Entry)
    → Every (Timely t F) es → Ever (λ e. e.call ≡ L.Receive from bytes) es
    → Ever (ReceivesAt t from bytes) es
at_moment t F from bytes es times h = Ever_by_law (λ past e. Timely t F e) (λ e. e.call ≡ L.Receive from bytes)
    (ReceivesAt t from bytes)
    (λ past e l k. record {
      call = k;
      at = (let a = l.0.till in let b = (l.0.fed from bytes k).1 in omega (arith, a, b));
    }) es times h

-- the oldest of what is asked of the exchanges

server_last : (past later : List R.Call) (c : R.Call) (call : L.Call)
    → Ever (λ a. a.call ≡ call) (answerer_steps.lower (answerer.own_of past) c)
    → Ever (λ a. a.call ≡ call) (asked_by_server past (later ++ c ∷ []))
server_last past [] c call h = Ever_front (λ a. a.call ≡ call) _ [] h
server_last past (d ∷ later) c call h = Ever_back (λ a. a.call ≡ call)
    (answerer_steps.lower (answerer.own_of ((later ++ c ∷ []) ++ past)) d) _ (server_last past later c call h)

client_last : (to : Endpoint) (setup : Setup) (past later : List A.Call) (c : A.Call) (call : L.Call)
    → Ever (λ a. a.call ≡ call) (asker_steps.lower (asker.own_of to setup past) c)
    → Ever (λ a. a.call ≡ call) (asked_by_client to setup past (later ++ c ∷ []))
client_last to setup past [] c call h = Ever_front (λ a. a.call ≡ call) _ [] h
client_last to setup past (d ∷ later) c call h = Ever_back (λ a. a.call ≡ call)
    (asker_steps.lower (asker.own_of to setup ((later ++ c ∷ []) ++ past)) d) _
    (client_last to setup past later c call h)

incoming_asked : (s : R.Own) (m : ℕ) (from : Endpoint) (bytes : List ℕ) (up : _) (came : _)
    → Ever (λ (a : Asked). a.call ≡ L.Receive from bytes) (answerer_steps.lower s (R.Incoming m from bytes up came))
incoming_asked s m from bytes up came = Ever_back (λ (a : Asked). a.call ≡ L.Receive from bytes)
    (replying from (id_in up) (reject_by up)) (asked m (L.Receive from bytes) up ∷ []) (inl refl)

receive_asked : (s : A.Own) (m : ℕ) (from : Endpoint) (bytes : List ℕ) (up : _) (settled : _) (event : _)
    → Ever (λ (a : Asked). a.call ≡ L.Receive from bytes) (asker_steps.lower s
    (A.Receive m from bytes up settled event))
receive_asked s m from bytes up settled event = Ever_back (λ (a : Asked). a.call ≡ L.Receive from bytes)
    (acts s from up settled (verdict_on s from up)) (asked m (L.Receive from bytes) up ∷ []) (inl refl)

module _ (config : Config) where
  server_receives : (t : ℕ) (past : List S.Call) (from : Endpoint) (bytes : List ℕ) (c : S.Call) (word : ℕ) (up : _)
      (came : _) (h : _) (below : _) → c ≡ S.Feeds t from bytes word up came h below
      → server.IsBy config t past → Ever (ReceivesAt t from bytes) (server_adds config past c)
  server_receives t past from bytes c word up came h below is by =
      subst (λ d. Ever (ReceivesAt t from bytes) (server_adds config past d)) (sym is)
      (at_moment t (server.Fed (S.Feeds t from bytes word up came h below)) from bytes _
      (server.adds_timely config t past (S.Feeds t from bytes word up came h below) by refl)
      (in_entries (L.Receive from bytes) (left_after (start config.server_setup) (server_asked config past)) _
      (server_last (server_law.lower_of config.limits config.server_szx past)
      (answering (heard own t (incoming own t from bytes up came)) came h below) (incoming own t from bytes up came)
      (L.Receive from bytes) (incoming_asked (answerer.own_of (server_law.lower_of config.limits config.server_szx
      past))
      (max own.clock t) from bytes up came))))
    where
      own : S.Own
      own = server_law.own_of config.limits config.server_szx past

  client_receives : (t : ℕ) (past : List C.Call) (from : Endpoint) (bytes : List ℕ) (c : C.Call) (word : ℕ) (up : _)
      (settled : _) (event : _) (sent : _) (token : _) (kept : _)
      → c ≡ C.Feeds t from bytes word up settled event sent token kept → client.IsBy config t past
      → Ever (ReceivesAt t from bytes) (client_adds config past c)
  client_receives t past from bytes c word up settled event sent token kept is by =
      let d : C.Call = C.Feeds t from bytes word up settled event sent token kept in
      let m : ℕ = max (client_law.own_of config.client_sizes past).clock t in
      let e = effect (client_law.own_of config.client_sizes past) d in
      let k = close m e token in
      let later : List A.Call = deeds k.deed k.own m word sent token kept in
      let first : List A.Call = deeds e.deed e.own m word sent token kept in
      let input : A.Call = A.Receive m from bytes up settled event in
      subst (λ x. Ever (ReceivesAt t from bytes) (client_adds config past x)) (sym is)
      (at_moment t (client.Fed d) from bytes _ (client.adds_timely config t past d by refl)
      (in_entries (L.Receive from bytes) (left_after (start config.client_setup) (client_asked config past)) _
      (subst (λ l. Ever (λ (a : Asked). a.call ≡ L.Receive from bytes)
      (asked_by_client config.addresses.server config.client_setup (client_law.lower_of config.client_sizes past) l))
      (append_assoc later first (input ∷ []))
      (client_last config.addresses.server config.client_setup (client_law.lower_of config.client_sizes past)
      (later ++ first) input
      (L.Receive from bytes) (receive_asked (asker.own_of config.addresses.server config.client_setup
      (client_law.lower_of config.client_sizes past)) m from bytes up settled event)))))

pub are_received : (config : Config) (events : List Event) (turns : List Turn) → RecordOf config events turns
    → Legal config turns → AreReceived config turns
are_received config events turns made legal t word from bytes later = (
  (λ c k. server_receives config t (server_trace config (entries_of turns)) from bytes c word k.0 k.1 k.2 k.3 k.4
      ((run config events turns made legal).still t later).server),
  (λ c k. client_receives config t (client_of (entries_of turns)) from bytes c word k.0 k.1 k.2 k.3 k.4 k.5 k.6
      ((run config events turns made legal).still t later).client),
)
