-- What is heard answers the request that was sent last, for the operation that runs; and where that is one of a call,
-- the call runs as it was taken.
use Rattle.std.proofs.Common.{◌≡◌, inl, inr, ℕ, max, Bool, Option, Some, None, List, [], ◌∷◌, ◌++◌, ap, sym, subst, ◌∙◌}
use Rattle.std.proofs.Common.{Result}
use Rattle.coap_types.specs.declared.endpoint.Endpoint.{Endpoint}
use Rattle.coap_codec.specs.Message.{Message}
use Rattle.coap_layer.specs.Trace as L
use Rattle.coap_layer.specs.declared.setup.Setup.{Setup}
use Rattle.coap_block.specs.Sizes.{Sizes}
use Rattle.coap_exchange.specs.declared.asker.AskRefusal.{AskRefusal}
use Rattle.coap_exchange.specs.declared.asker.Event.{Event}
use Rattle.coap_exchange.specs.declared.asker.Event.TheVariants as event_of
use Rattle.coap_exchange.specs.declared.asker.Exchange.{Exchange}
use Rattle.coap_exchange.specs.declared.asker.Turn.{Turn}
use Rattle.coap_exchange.specs.AskerArrivals.{running_after, turn_of, verdict_on}
use Rattle.coap_exchange.specs.AskerTrace as E
use Rattle.coap_exchange.specs.AskerLaw as X
use Rattle.coap_client.specs.Trace.{Request, Call, Feeds, Ticks}
use Rattle.coap_client.specs.Own.{Transfer, Operation, Calling}
use Rattle.coap_client.specs.Effects.{Effect}
use Rattle.coap_client.specs.Events.{happened, passes}
use Rattle.coap_client.specs.Deeds.{at, close, deeds}
use Rattle.coap_client.specs.Law.{ClientLaw, own_of, lower_of}
use Rattle.coap_client_laws.specs.Follows.Answered.{IsSentFor}
use Rattle.coap_client_laws.specs.Follows.Begins.{WasSent}
use Rattle.coap_client_laws.specs.Follows.Bodies.{HeardFor}
use Rattle.coap_client_laws.specs.Follows.OfCalls.{CarriesBody, AreOfCalls}
use Rattle.coap_client_laws.specs.Follows.Order.{call_of}
use Rattle.coap_client.specs.Sendings.{Taken, WasTaken, Sending, hears, last_sent}
use Rattle.coap_client_laws.proofs.Counting.Bounds.{one_request}
use Rattle.coap_client_laws.proofs.Places.Numbers.{numbers_once}
use Rattle.coap_client.proofs.Facts.Places.Once.{beneath, law_front, done_right}
use Rattle.coap_client_laws.proofs.Sending.OfCalls.{are_of_calls}
use Rattle.coap_client_laws.proofs.Sending.SentFor.{sent_for, sent_call}
use Rattle.coap_client_laws.proofs.Sending.Tokens.{one_of_token}
use Rattle.coap_client_laws.proofs.Sending.LiveTokens.{last_was_sent}
use Rattle.coap_client.proofs.Facts.Turning.ExchangeCame.{Came, came}
use Rattle.coap_client.proofs.Facts.Turning.Leading.{client_back}

module _ (sizes : Sizes) (server : Endpoint) (setup : Setup) where
  -- it has the token of the exchange that runs
  abbrev HasExchange : List Call → Message → Type 0
  HasExchange t m = (x : Exchange) × ((beneath server sizes setup t).running ≡ Some x) × (m.token ≡ x.token)

  -- what a datagram tells
  pub fed_came :
      (t : List Call) (now : ℕ) (from : Endpoint) (bytes : List ℕ) (w : ℕ) (up : L.Answer) (settled : Bool)
      (event : Option Event) (sent : L.Answer) (token : Result (List ℕ) AskRefusal) (kept : Bool)
      → X.AskerLaw server setup (lower_of sizes (Feeds now from bytes w up settled event sent token kept ∷ t))
      → Came (beneath server sizes setup t).running
      (running_after (max (own_of sizes t).clock now) (verdict_on (beneath server sizes setup t) from up)
      (beneath server sizes setup t).running) event
  fed_came t now from bytes w up settled event sent token kept law =
      let moment : ℕ = max (own_of sizes t).clock now in
      let e : Effect = happened (at now (own_of sizes t)) moment event in
      let k : Effect = close moment e token in
      let later : List E.Call = deeds k.deed k.own moment w sent token kept in
      let first : List E.Call = deeds e.deed e.own moment w sent token kept in
      let input : E.Call = E.Receive moment from bytes up settled event in
      let right = done_right (beneath server sizes setup t) later first input
      (law_front server setup (later ++ (first ++ input ∷ [])) (lower_of sizes t) law) in
      came (beneath server sizes setup t) from moment up event right.0

  -- .. and what a tick does
  pub ticked_turn :
      (t : List Call) (now w : ℕ) (below : L.Answer) (turn : Turn) (sent : L.Answer)
      (token : Result (List ℕ) AskRefusal) (kept did : Bool)
      → X.AskerLaw server setup (lower_of sizes (Ticks now w below turn sent token kept did ∷ t))
      → turn ≡ turn_of (beneath server sizes setup t)
      (max (beneath server sizes setup t).clock (max (own_of sizes t).clock now)) below
  ticked_turn t now w below turn sent token kept did law =
      let moment : ℕ = max (own_of sizes t).clock now in
      let e : Effect = passes (at now (own_of sizes t)) moment turn in
      let k : Effect = close moment e token in
      let later : List E.Call = deeds k.deed k.own moment w sent token kept in
      let first : List E.Call = deeds e.deed e.own moment w sent token kept in
      let input : E.Call = E.Ticks moment below turn in
      let right = done_right (beneath server sizes setup t) later first input
      (law_front server setup (later ++ (first ++ input ∷ [])) (lower_of sizes t) law) in
      right.0

  heard_exchange : (t : List Call) (c : Call) → X.AskerLaw server setup (lower_of sizes (c ∷ t)) → (m : Message)
      → hears c ≡ Some m → HasExchange t m
  heard_exchange t (Feeds now from bytes w up settled (Some (event_of.Answer a)) sent token kept) law m h =
      let g = fed_came t now from bytes w up settled (Some (event_of.Answer a)) sent token kept law in
      let same : m ≡ a = cc h in
      (g.0, g.1, ap (λ (z : Message). z.token) same ∙ g.2)
  heard_exchange t _ law m h = absurd (cc h)

  pub record HeardRuns (t : List Call) (m : Message) : Type 0 where
    pub operation : Operation
    pub runs : (own_of sizes t).running ≡ Some operation
    pub sending : Sending
    pub last : last_sent sizes t ≡ Some sending
    pub is_for : IsSentFor operation sending
    pub token : sending.token ≡ m.token

  pub heard_runs : (t : List Call) (c : Call) → ClientLaw server sizes setup (c ∷ t) → (m : Message) → hears c ≡ Some m
      → HeardRuns t m
  heard_runs t c law m h =
      let past = client_back server sizes setup (c ∷ []) t law in
      let x = heard_exchange t c law.exchanges.rows m h in
      let z = sent_for sizes server setup t past.rows past.exchanges.rows x.0 x.1 in
      record {
        operation = z.operation;
        runs = z.runs;
        sending = z.sending;
        last = z.last;
        is_for = z.is_for;
        token = sym z.token ∙ sym x.2;
      }

  -- a request of a call that was sent is that call's

  abbrev as_taken : ℕ → Request → Taken
  as_taken k r = record { number = k; request = r }

  record OfTaken (t : List Call) (x : Sending) (k : ℕ) : Type 0 where
    request : Request
    taken : WasTaken (as_taken k request) t
    transfer : Transfer
    operation : x.operation ≡ Calling k (record request { body = [] }) transfer
    carries : CarriesBody sizes request.method request.body transfer

  of_taken : (t : List Call) → AreOfCalls sizes t → (x : Sending) (k : ℕ) → WasSent sizes x t
      → call_of x.operation ≡ Some k → OfTaken t x k
  of_taken [] law x k h of = absurd h
  of_taken (c ∷ t) law x k (inl h) of = let g = law.0 x k h of in record
      { request = g.request; taken = inr g.taken; transfer = g.transfer; operation = g.operation; carries = g.carries }
  of_taken (c ∷ t) law x k (inr h) of = let g = of_taken t law.1 x k h of in record
      { request = g.request; taken = inr g.taken; transfer = g.transfer; operation = g.operation; carries = g.carries }

  -- the call that an answer is heard for runs, as it was taken
  pub record RunsCall (t : List Call) (x : Taken) (z : Sending) : Type 0 where
    pub transfer : Transfer
    pub sent : z.operation ≡ Calling x.number (record x.request { body = [] }) transfer
    pub runs : (own_of sizes t).running ≡ Some (Calling x.number (record x.request { body = [] }) transfer)
    pub carries : CarriesBody sizes x.request.method x.request.body transfer

  -- the request that a heard answer is for was sent last
  pub sent_last : (t : List Call) → ClientLaw server sizes setup t → (x z : Sending) (k : ℕ) → WasSent sizes x t
      → call_of x.operation ≡ Some k → last_sent sizes t ≡ Some z → x.token ≡ z.token → x ≡ z
  sent_last t law x z k was is last same =
      elim (one_of_token sizes server setup t law x z was (last_was_sent sizes t z last) same) [
        | inl e ↦ e
        | inr r ↦ elim r [
          | inl d ↦ (let w : call_of x.operation ≡ None = ap call_of d.registers in absurd (cc (w, is)))
          | inr d ↦ (let w : call_of x.operation ≡ None = ap call_of d.cancels in absurd (cc (w, is)))
        ]
      ]

  pub runs_call : (t : List Call) (c : Call) → ClientLaw server sizes setup (c ∷ t) → (x : Taken) → WasTaken x t
      → (m : Message) → (h : HeardFor sizes x.number m t c) → RunsCall t x h.sending
  runs_call t c law x was m h =
      let past = client_back server sizes setup (c ∷ []) t law in
      let z = heard_runs t c law m h.heard in
      let g = of_taken t (are_of_calls sizes t) h.sending x.number h.sent h.of_call in
      let same : h.sending ≡ z.sending = sent_last t past h.sending z.sending x.number h.sent h.of_call z.last
      (h.token ∙ sym z.token) in
      let request_is : g.request ≡ x.request =
      one_request x.number g.request x.request t (numbers_once server sizes setup t past.rows past.exchanges.rows)
      g.taken was in
      let op : h.sending.operation ≡ Calling x.number (record x.request { body = [] }) g.transfer =
      g.operation ∙ ap (λ (r : Request). Calling x.number (record r { body = [] }) g.transfer) request_is in
      record {
        transfer = g.transfer;
        sent = op;
        runs = z.runs ∙ ap (λ o. Some o) (sent_call z.operation z.sending x.number
            (record x.request { body = [] }) g.transfer z.is_for (ap (λ (y : Sending). y.operation) (sym same) ∙ op));
        carries = subst (λ (r : Request). CarriesBody sizes r.method r.body g.transfer) request_is g.carries;
      }
