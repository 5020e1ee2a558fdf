-- A request that a server without delays takes is answered in its acknowledgement at once.
use Rattle.std.proofs.Common.{◌≡◌, ◌⊎◌, inl, inr, ⊎_elim, ◌≤◌, ◌<◌, ℕ, ◌+◌, true, false, Option, Some, None, List}
use Rattle.std.proofs.Common.{[], ◌∷◌, ◌++◌, refl, ap, sym, subst, ◌∙◌, arith, append_assoc}
use Rattle.coap_types.specs.Past.{Ever, Sometime, Always, Since}
use Rattle.coap_types.proofs.Facts.Traces.{Ever_append, Always_back}
use Rattle.coap_types.specs.Recognised.{lacks_critical}
use Rattle.coap_types.specs.Roles.{role_of}
use Rattle.coap_types.specs.declared.direction.Direction.TheVariants.{Response}
use Rattle.coap_types.specs.declared.message.Kind.TheVariants.{Ack}
use Rattle.coap_types.specs.declared.role.Role.TheVariants as role
use Rattle.coap_codec.specs.Message.{Message, Spells}
use Rattle.coap_layer.specs.Channel.{OnFar, Takes, RepliesTo, RepliesSo}
use Rattle.coap_layer.specs.Rows.{Stands as Stands_in, LayerLaw}
use Rattle.coap_layer.specs.Taking.{TakesWithin}
use Rattle.coap_layer.specs.Trace as L
use Rattle.coap_layer.specs.Trace.{with_head}
use Rattle.coap_layer.specs.Words.{Open, handed, handed_in}
use Rattle.coap_exchange.specs.AnswererLaw as answerer
use Rattle.coap_exchange.specs.AnswererSteps.{asked_of, asked_in, content_of, IsResponse, IsRight}
use Rattle.coap_exchange.specs.AnswererTrace as R
use Rattle.coap_exchange.specs.declared.answerer.Asked.{Asked}
use Rattle.coap_client_laws.specs.Follows.Begins.{WasSent}
use Rattle.coap_client.specs.Sendings.{Sending}
use Rattle.coap_server.specs.Asks.{lower}
use Rattle.coap_server.specs.Checks.{verdict_on}
use Rattle.coap_server.specs.Follows.Attended.{came_in, AllHandedOn, WaitsToAsk, AnswersIt, IsIgnored}
use Rattle.coap_server.specs.Follows.Brings.{Comes, HandsUp}
use Rattle.coap_server_laws.specs.Follows.GoesOut.{responds_with, Sends}
use Rattle.coap_server_laws.specs.Follows.SentAs.{ack_with, InAck}
use Rattle.coap_server.specs.Follows.Serves.{hands}
use Rattle.coap_server.specs.Law.{ServerLaw, own_of, lower_of}
use Rattle.coap_server.specs.Trace as S
use Rattle.coap_server_laws.proofs.Facts.Laws as server_facts
use Rattle.coap_promise.specs.CameFrom.{request_of}
use Rattle.coap_record.specs.Events.{Config}
use Rattle.coap_promise.specs.Hops.{client_adds, server_adds, hops_at, hops_in}
use Rattle.coap_record.specs.Legal.{IsConfig}
use Rattle.coap_record.specs.Record.{Entry, OfClient, OfServer, client_of, server_trace}
use Rattle.coap_promise.proofs.Facts.Delivery.EntriesInTime.{Every}
use Rattle.coap_promise.proofs.Facts.Delivery.HopsAreEntries.{server_layer, server_next}
use Rattle.coap_promise.proofs.Facts.Requests.OfACall.{Lawful, lawful_back}
use Rattle.coap_smooth.proofs.Smoothly.Arriving.HandedAs.{as_request}
use Rattle.coap_smooth.proofs.Smoothly.Requests.DelaysAreShort.{SetsNone, IsAmong, among_delays}
use Rattle.coap_smooth.proofs.Smoothly.Arriving.OthersTakeNone.{IsSilent}
use Rattle.coap_smooth.proofs.Smoothly.Arriving.WhereItArrives.{AtServer, ServerFed, at_server, far_found, no_far}
use Rattle.coap_smooth.proofs.Smoothly.Arriving.WhereItArrives.{server_fed}

-- one pair

same_pair : (a b : Asked) (q r : R.Response)
    → ◌≡◌ {A = Option (Asked × R.Response)} (Some (a, q)) (Some (b, r)) → (a ≡ b) × (q ≡ r)
same_pair a b q r h = (
  ap (λ (o : Option (Asked × R.Response)). elim o as (λ w. Asked) [ Some p ↦ p.0 | None ↦ a ]) h,
  ap (λ (o : Option (Asked × R.Response)). elim o as (λ w. R.Response) [ Some p ↦ p.1 | None ↦ q ]) h,
)

-- What is sent as a response can be spelled.

response_row : (s : R.Own) (b : R.Call) (a : Asked) (r : R.Response) → IsRight s b
    → responds_with b ≡ Some (a, r) → IsResponse a r
response_row s (R.Answers x y below) a r right h =
    let k = same_pair x a y r h in
    subst (λ z. IsResponse a z) k.1 (subst (λ z. IsResponse z y) k.0 right.1)
response_row s (R.Responds now x y w id) a r right h =
    let k = same_pair x a y r h in
    subst (λ z. IsResponse a z) k.1 (subst (λ z. IsResponse z y) k.0 right.1)
response_row s _ a r right h = absurd (cc h)

pub response_in : (later past : List R.Call) (a : Asked) (r : R.Response) → answerer.AnswererLaw (later ++ past)
    → Ever (λ b. responds_with b ≡ Some (a, r)) later → IsResponse a r
response_in [] past a r law h = absurd h
response_in (b ∷ later) past a r law (inl h) = response_row (answerer.own_of (later ++ past)) b a r law.0 h
response_in (b ∷ later) past a r law (inr h) = response_in later past a r law.1 h

-- an element parts its list
record PartsAt {X : Type 0} (x : X) (xs : List X) : Type 0 where
  newer : List X
  older : List X
  is : xs ≡ newer ++ x ∷ older

parts_at : {X : Type 0} (x : X) (xs : List X) → Ever (λ y. y ≡ x) xs → PartsAt x xs
parts_at x [] h = absurd h
parts_at x (y ∷ xs) (inl h) = record { newer = []; older = xs; is = ap (λ z. z ∷ xs) h }
parts_at x (y ∷ xs) (inr h) = let k = parts_at x xs h in
    record { newer = y ∷ k.newer; older = k.older; is = ap (λ l. y ∷ l) k.is }

-- behind what hands nothing up
since_behind : (Q : L.Entry → Type 0) (q rest : List L.Entry) → Every IsSilent q
    → Since Q (λ y. handed y ≡ None) rest → Since Q (λ y. handed y ≡ None) (q ++ rest)
since_behind Q [] rest h s = s
since_behind Q (y ∷ q) rest h s = inr (h.0.hands, since_behind Q q rest h.1 s)

-- .. and back: the first that hands something up is the one
since_first : (Q : L.Entry → Type 0) (q rest : List L.Entry) (e : L.Entry) → Every IsSilent q
    → ((y : L.Entry) → Q y → handed y ≡ None → ⊥) → (handed e ≡ None → ⊥)
    → Since Q (λ y. handed y ≡ None) (q ++ e ∷ rest) → Q e
since_first Q [] rest e h some up (inl s) = s
since_first Q [] rest e h some up (inr s) = absurd (up s.0)
since_first Q (y ∷ q) rest e h some up (inl s) = absurd (some y s h.0.hands)
since_first Q (y ∷ q) rest e h some up (inr s) = since_first Q q rest e h.1 some up s.1

module _ (config : Config) (most : ℕ) where
  abbrev trace : List Entry → List S.Call
  trace past = server_trace config past

  -- the request of this sending is answered in the acknowledgement of its CON; it was sent before
  pub record RepliedAt (con : Open) (x : Sending) (past : List Entry) (c : S.Call) : Type 0 where
    pub message : Message
    pub bytes : List ℕ
    pub spells : Spells bytes message
    pub kind : message.kind ≡ Ack
    pub class : role_of message.code ≡ role.Response
    pub id : message.id ≡ con.id
    pub token : message.token ≡ x.token
    pub understood : lacks_critical Response message.options ≡ false
    pub newer : List L.Entry
    pub older : List L.Entry
    pub reply : L.Entry
    pub adds : server_adds config (server_trace config past) c ≡ newer ++ reply ∷ older
    pub out : reply.out ≡ record { to = config.addresses.client; bytes = bytes } ∷ []
    pub soon : reply.at ≤ con.first + most
    pub replies : RepliesTo config.addresses.client con bytes (older ++ server_layer config (server_trace config past))
        reply
    pub sending : Sending
    pub sent : WasSent config.client_sizes sending (client_of past)
    pub same : sending.token ≡ x.token

  abbrev pub IsReplied : Open → Sending → List Entry → Entry → Type 0
  IsReplied con x past (OfClient c) = ⊥
  IsReplied con x past (OfServer c) = RepliedAt con x past c

  module _ (range : IsConfig config) (no_delays : config.delays ≡ [])
      (handed_on : (t : List S.Call) → ServerLaw config.limits config.server_szx config.server_setup t
      → AllHandedOn config.limits config.server_szx config.server_setup t)
      (con : Open) (x : Sending) (spells : Spells con.bytes (request_of con.id x))
      (class : role_of (request_of con.id x).code ≡ role.Request) where
    abbrev n : Message
    n = request_of con.id x

    abbrev a : Asked
    a = asked_of config.addresses.client n

    module _ (past : List Entry) (c : S.Call) (law : Lawful config (OfServer c ∷ past)) (e : L.Entry)
        (takes : TakesWithin most config.addresses.client con e)
        (at : AtServer config config.addresses.client con.bytes e (trace past) c) where
      abbrev t : List S.Call
      t = trace past

      abbrev Facts : Type 0
      Facts = LayerLaw config.server_setup (server_layer config (c ∷ t))

      layer : Facts
      layer = server_facts.layer config.limits config.server_szx config.server_setup (c ∷ t) law.server

      parts : server_layer config (c ∷ t) ≡ at.later ++ (e ∷ server_layer config t)
      parts = server_next config t c ∙ ap (λ l. l ++ server_layer config t) at.adds
          ∙ append_assoc at.later (e ∷ []) (server_layer config t)

      stands : Stands_in config.server_setup (server_layer config t) e
      stands = (Always_back _ at.later (e ∷ server_layer config t)
          (subst (LayerLaw config.server_setup) parts layer)).0

      feed : ServerFed config.addresses.client con.bytes e.answer c
      feed = server_fed config.addresses.client con.bytes e.answer c at.call at.up law.unrefused.0.unrefused

      answer : e.answer ≡ L.Becomes (L.Request n true)
      answer = as_request config.server_setup (server_layer config t) e config.addresses.client con.id con.bytes n
          stands
          takes.takes.call spells refl takes.takes.up class

      fed : c ≡ S.Feeds feed.now config.addresses.client con.bytes feed.word (L.Becomes (L.Request n true))
          feed.came
          feed.handling feed.below
      fed = feed.is ∙ ap (λ u. S.Feeds feed.now config.addresses.client con.bytes feed.word u feed.came
          feed.handling
          feed.below) answer

      came : feed.came ≡ Some (a, n)
      came = (handed_on (c ∷ t) law.server).0 feed.now config.addresses.client con.bytes feed.word n true
          feed.came
          feed.handling feed.below fed

      came_is : came_in c ≡ Some (a, n)
      came_is = ap came_in fed ∙ came

      hands_it : hands c ≡ Some a
      hands_it = ap hands fed ∙ ap asked_in came

      handed_is : handed e ≡ Some (record { from = config.addresses.client; message = n })
      handed_is = ap (λ d. handed_in d e.answer) takes.takes.call
          ∙ ap (λ z. handed_in (L.Receive config.addresses.client con.bytes) z) answer

      is_handed : handed e ≡ None → ⊥
      is_handed none = let k = sym none ∙ handed_is in cc k

      -- it came from the client
      comes : Comes config.limits config.server_szx config.server_setup t c a (verdict_on config.server_szx n)
      comes = record {
        news = server_adds config t c;
        is = server_next config t c;
        here = subst (Ever (HandsUp config.server_szx a (verdict_on config.server_szx n))) (sym at.adds)
            (last at.later (record {
              message = n;
              bytes = con.bytes;
              call = takes.takes.call;
              answer = answer;
              asked_is = refl;
              verdict = refl;
            }));
      }
        where
          last : (l : List L.Entry) → HandsUp config.server_szx a (verdict_on config.server_szx n) e
              → Ever (HandsUp config.server_szx a (verdict_on config.server_szx n)) (l ++ e ∷ [])
          last [] h = inl h
          last (y ∷ l) h = inr (last l h)

      -- a reply to it
      module _ (bytes : List ℕ) (reply : L.Entry) (mem : Ever (λ y. y ≡ reply) (server_adds config t c))
          (call : reply.call ≡ L.Reply config.addresses.client con.id bytes) where
        among : Ever (λ y. y ≡ reply) at.later
        among = ⊎_elim (λ w. w) (λ w. absurd (not_last w))
            (Ever_append (λ y. y ≡ reply) at.later (e ∷ []) (subst (Ever (λ y. y ≡ reply)) at.adds mem))
          where
            not_last : Ever (λ y. y ≡ reply) (e ∷ []) → ⊥
            not_last (inl w) = let k = sym takes.takes.call ∙ ap (λ (y : L.Entry). y.call) w ∙ call in cc k
            not_last (inr w) = w

        between : PartsAt reply at.later
        between = parts_at reply at.later among

        silent : Every IsSilent between.older
        silent = (Always_back (λ p y. IsSilent y) between.newer (reply ∷ between.older)
            (subst (Every IsSilent) between.is at.silent)).1

        all : server_layer config (c ∷ t)
            ≡ between.newer ++ (reply ∷ (between.older ++ (e ∷ server_layer config t)))
        all = parts ∙ ap (λ l. l ++ (e ∷ server_layer config t)) between.is
            ∙ append_assoc between.newer (reply ∷ between.older) (e ∷ server_layer config t)

        at_once : reply.at ≡ e.at
        at_once =
            let so = (Always_back RepliesSo between.newer (reply ∷ (between.older ++ (e ∷ server_layer config t)))
            (subst (Always RepliesSo) all
            (server_facts.replies config.limits config.server_szx config.server_setup (c ∷ t) law.server))).0 in
            let k = so config.addresses.client con.id bytes call in
            sym (since_first (λ h. (handed h ≡ Some k.to_what) × (h.at ≡ reply.at)) between.older
            (server_layer config t) e
            silent (λ y z none. (let w = sym none ∙ z.0 in cc w)) is_handed k.latest).1

        added : server_adds config t c ≡ between.newer ++ reply ∷ (between.older ++ e ∷ [])
        added = at.adds ∙ ap (λ l. l ++ e ∷ []) between.is
            ∙ append_assoc between.newer (reply ∷ between.older) (e ∷ [])

        replies : RepliesTo config.addresses.client con bytes ((between.older ++ e ∷ []) ++ server_layer config t) reply
        replies = subst (λ l. RepliesTo config.addresses.client con bytes l reply)
            (sym (append_assoc between.older (e ∷ []) (server_layer config t)))
            (record {
              call = call;
              to_it = since_behind (λ y. Takes config.addresses.client con y × (y.at ≡ reply.at)) between.older
                  (e ∷ server_layer config t) silent (inl (takes.takes, sym at_once));
            })

      small : con.id < 65536
      small = spells.id

      -- a response in its acknowledgement
      module _ (r : R.Response) (sends : Sends config.limits config.server_szx t c a r) (reply : L.Entry)
          (mem : Ever (λ y. y ≡ reply) (server_adds config t c)) (ack : InAck a r reply) where
        response : IsResponse a r
        response = response_in (lower (own_of config.limits config.server_szx t) c)
            (lower_of config.limits config.server_szx t) a r law.server.exchanges.rows sends

        replied : Lawful config (OfServer c ∷ past) → RepliedAt con x past c
        replied same_law =
            let from = law.came.0 a (verdict_on config.server_szx n) comes refl in
            let understood = (server_facts.recognised config.limits config.server_szx config.server_setup (c ∷ t)
            law.server
            range.server_szx range.server_limit.1).0.responses a r sends in
            let b = between (ack_with a r) reply mem ack.call in
            let when = at_once (ack_with a r) reply mem ack.call in
            let soon = takes.soon in
            record {
              message = with_head Ack con.id (content_of a r);
              bytes = ack_with a r;
              spells = response.spelled Ack con.id small;
              kind = refl;
              class = response.code;
              id = refl;
              token = refl;
              understood = understood;
              newer = b.newer;
              older = b.older ++ e ∷ [];
              reply = reply;
              adds = added (ack_with a r) reply mem ack.call;
              out = ack.out;
              soon = omega (arith, when, soon);
              replies = replies (ack_with a r) reply mem ack.call;
              sending = from.sending;
              sent = from.sent;
              same = sym (ap (λ (z : Asked). z.token) from.asked);
            }

      -- none waits
      no_wait : Every SetsNone past → WaitsToAsk config.limits config.server_szx t c (a, n) → ⊥
      no_wait none waits =
          subst (IsAmong waits.waits.delay) no_delays
          (among_delays config past none waits.question.path waits.waits.delay
          ((server_facts.delays_stay config.limits config.server_szx t).given waits.question.path waits.waits.delay
          waits.waits.has_to.has_delay))

      attended : Every SetsNone past → RepliedAt con x past c
      attended none = by ((server_facts.attended config.limits config.server_szx config.server_setup (c ∷ t)
          law.server).0
          (a, n) came_is)
        where
          found : (P : L.Entry → Type 0) (xs : List L.Entry) → Ever P xs → (y : L.Entry) × Ever (λ z. z ≡ y) xs × P y
          found P [] h = absurd h
          found P (y ∷ xs) (inl h) = (y, inl refl, h)
          found P (y ∷ xs) (inr h) = let k = found P xs h in (k.0, inr k.1, k.2)

          by : AnswersIt config.limits config.server_szx t c a
              ⊎ (WaitsToAsk config.limits config.server_szx t c (a, n) ⊎ IsIgnored n) → RepliedAt con x past c
          by (inl answers) =
              let out = (server_facts.goes_out config.limits config.server_szx config.server_setup (c ∷ t) law.server).0
              in
              let r = out.answers a answers in
              let sent = (server_facts.sent_as config.limits config.server_szx config.server_setup (c ∷ t)
              law.server).0 in
              let w = found (InAck a r.0) (server_adds config t c) (sent.at_once a r.0 hands_it refl r.1) in
              replied r.0 r.1 w.0 w.1 w.2 law
          by (inr (inl waits)) = absurd (no_wait none waits)
          by (inr (inr ignored)) = absurd (ignored.kind refl)

    abbrev Taken : L.Entry → Type 0
    Taken e = TakesWithin most config.addresses.client con e

    pub request_taken : (es : List Entry) → Lawful config es → Every SetsNone es
        → Ever (OnFar Taken) (hops_in config es)
        → Sometime (IsReplied con x) es
    request_taken [] law none h = h
    request_taken (OfClient c ∷ past) law none h =
        ⊎_elim (λ l. absurd (no_far Taken (client_adds config (client_of past) c) l))
        (λ r. inr (request_taken past (lawful_back config past (OfClient c) law) none.1 r))
        (Ever_append (OnFar Taken) (hops_at config past (OfClient c)) (hops_in config past) h)
    request_taken (OfServer c ∷ past) law none h =
        ⊎_elim (λ l. inl (here l))
        (λ r. inr (request_taken past (lawful_back config past (OfServer c) law) none.1 r))
        (Ever_append (OnFar Taken) (hops_at config past (OfServer c)) (hops_in config past) h)
      where
        here : Ever (OnFar Taken) (hops_at config past (OfServer c)) → RepliedAt con x past c
        here w =
            let k = far_found Taken _ w in
            attended past c law k.0 k.2 (at_server config (trace past) c
            (law.server.exchanges.left, law.server.exchanges.layer) config.addresses.client con.bytes k.0 k.1
            k.2.takes.call) none.1
