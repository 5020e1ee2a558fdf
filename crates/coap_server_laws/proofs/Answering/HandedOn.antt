-- A request that the message layer hands up is handed up, save a NON for which no Message ID is free.
use Rattle.std.proofs.Common.{◌≡◌, inl, inr, ℕ, max, Bool, true, false, Option, List, [], ◌∷◌, refl, ap, sym, subst}
use Rattle.std.proofs.Common.{◌∙◌}
use Rattle.coap_types.specs.declared.endpoint.Endpoint.{Endpoint}
use Rattle.coap_types.specs.declared.message.Kind.TheVariants.{Con, Non}
use Rattle.coap_codec.specs.Message.{Message}
use Rattle.coap_layer.specs.declared.setup.Setup.{Setup}
use Rattle.coap_layer.specs.Arrivals.{Arrival, Faulted, Whole}
use Rattle.coap_layer.specs.Machine.State as S
use Rattle.coap_layer.specs.Rows.{Arrives, Sorts, rejects, drops, takes_ack, takes_reset, passes_reset, takes_answer}
use Rattle.coap_layer.specs.Rows.{replays, hands_over, Withholds}
use Rattle.coap_layer.specs.Trace as L
use Rattle.coap_layer.specs.Words.{Incoming, clock}
use Rattle.coap_layer.specs.Machine.Steps.{left_after}
use Rattle.coap_resource.specs.Limits.{Limits}
use Rattle.coap_exchange.specs.declared.answerer.Asked.{Asked}
use Rattle.coap_exchange.specs.AnswererTrace as E
use Rattle.coap_exchange.specs.AnswererLaw as W
use Rattle.coap_exchange.specs.AnswererLaw.{ResponseLaw}
use Rattle.coap_exchange.specs.AskerRequests.{asked}
use Rattle.coap_exchange.proofs.Facts.ServerSide.{layer_stands}
use Rattle.coap_server.specs.Trace.{Own, Handling, Call, Feeds}
use Rattle.coap_server.specs.Handling.{heard}
use Rattle.coap_server.specs.Asks.{answering}
use Rattle.coap_server.specs.Law.{ServerLaw, own_of, lower_of}
use Rattle.coap_server.specs.Follows.Attended.{HandedOn, AllHandedOn}
use Rattle.coap_exchange.proofs.Facts.LastStep.{last_step}
use Rattle.coap_server_laws.proofs.Answering.LayerIsLed.{layer_led}
use Rattle.coap_server.proofs.Facts.Exact.Asked.{joined, back}
use Rattle.coap_server.proofs.Facts.Serving.Brought.{server_back, left_is}

-- what the layer hands up and does not remember is a NON for which no Message ID is free
abbrev is_let_go : L.Disposition → Bool
is_let_go (L.Request m false) = true
is_let_go _ = false

let_go : (a : L.Answer) (m : Message) (d : L.Disposition) → a ≡ L.Becomes (L.Request m false) → a ≡ L.Becomes d
    → d ≡ L.Request m false
let_go a m d h k = let z : L.Becomes (L.Request m false) ≡ L.Becomes d = sym h ∙ k in sym (cc z)

not_let_go : {X : Type 0} (a : L.Answer) (m : Message) (d : L.Disposition) → is_let_go d ≡ false
    → a ≡ L.Becomes (L.Request m false) → a ≡ L.Becomes d → X
not_let_go a m d n h k = let z : true ≡ false = sym (ap is_let_go (let_go a m d h k)) ∙ n in absurd (cc z)

one_message : (m n : Message) → L.Request m false ≡ L.Request n false → m ≡ n
one_message m n h = cc h

module _ (setup : Setup) (past : List L.Entry) (e : L.Entry) (m : Message)
    (is : e.answer ≡ L.Becomes (L.Request m false)) where
  abbrev Held : Type 0
  Held = (m.kind ≡ Non) × Withholds setup past e.at

  sorted : (i : Incoming) → Sorts setup past e i → Held
  sorted i (rejects k) = not_let_go e.answer m L.Rejected refl is k.answer
  sorted i (drops k) = not_let_go e.answer m L.Dropped refl is k.answer
  sorted i (takes_ack k) = not_let_go e.answer m (L.Acked i.message.id) refl is k.answer
  sorted i (takes_reset k) = not_let_go e.answer m (L.Reset i.message.id) refl is k.answer
  sorted i (passes_reset k) = not_let_go e.answer m (L.Unmatched i.message.id) refl is k.answer
  sorted i (takes_answer k) = not_let_go e.answer m (L.Response i.message) refl is k.answer
  sorted i (replays k) = not_let_go e.answer m L.Replayed refl is k.answer
  sorted i (hands_over k) =
      elim k.answer [
        | inl z ↦ not_let_go e.answer m (L.Request i.message true) refl is z.2
        | inr z ↦ elim z [
          | inl y ↦ (
            let same = one_message i.message m (let_go e.answer m (L.Request i.message false) is y.3) in subst
                (λ (n : Message). n.kind ≡ Non) same y.1,
            y.2,
          )
          | inr y ↦ not_let_go e.answer m (L.Response i.message) refl is y.1
        ]
      ]

  arrived : (from : Endpoint) (what : Arrival) → Arrives setup past e from what → Held
  arrived from (Faulted Con id) k = not_let_go e.answer m L.Rejected refl is k.0
  arrived from (Whole n) k = sorted (record { from = from; message = n }) k
  arrived from _ k = not_let_go e.answer m L.Dropped refl is k.0

module _ (limits : Limits) (szx : ℕ) (setup : Setup) where
  fed : (t : List Call) (now : ℕ) (from : Endpoint) (bytes : List ℕ) (w : ℕ) (m : Message) (kept : Bool)
      (came : Option (Asked × Message)) (h : Handling) (below : L.Answer)
      → ServerLaw limits szx setup (Feeds now from bytes w (L.Becomes (L.Request m kept)) came h below ∷ t)
      → HandedOn limits szx setup t now from m kept came
  fed t now from bytes w m kept came h below law = by kept law
    where
      s : Own
      s = own_of limits szx t

      at : ℕ
      at = max s.clock now

      calls : List E.Call
      calls = lower_of limits szx t

      first : Bool → E.Call
      first b = E.Incoming at from bytes (L.Becomes (L.Request m b)) came

      first_law : (b : Bool) → ServerLaw limits szx setup
          (Feeds now from bytes w (L.Becomes (L.Request m b)) came h below ∷ t) → ResponseLaw setup (first b ∷ calls)
      first_law b law =
          let asks : List E.Call = answering (heard s now (first b)) came h below in
          back setup asks (first b ∷ calls) (subst (ResponseLaw setup) (joined asks (first b) calls) law.exchanges)

      by : (b : Bool) → ServerLaw limits szx setup (Feeds now from bytes w (L.Becomes (L.Request m b)) came h below ∷ t)
          → HandedOn limits szx setup t now from m b came
      by true law = (first_law true law).rows.0
      by false law =
          let one = first_law false law in
          let stands = (layer_stands setup (first false ∷ calls) one).0 in
          let step = last_step (S.start setup) one.left
          (asked at (L.Receive from bytes) (L.Becomes (L.Request m false)))
          (W.lower_of calls) one.layer in
          let before = back setup (first false ∷ []) calls one in
          let clocks : (left_after (S.start setup) (W.lower_of calls)).clock ≡ clock (W.below_of setup calls) =
          ap (λ (z : S.State). z.clock) (sym
          (left_is (S.start setup) before.left (W.lower_of calls) before.layer)
          ∙ (layer_led setup calls before).kept) in
          let held = arrived setup (W.below_of setup calls) _ m
          (sym step.right) from stands.row.0 stands.row.2 in
          (held.0, subst (λ n. Withholds setup (W.below_of setup calls) (max n at)) clocks held.1)

  here : (t : List Call) (c : Call) → ServerLaw limits szx setup (c ∷ t)
      → (now : ℕ) (from : Endpoint) (bytes : List ℕ) (w : ℕ) (m : Message) (kept : Bool)
      (came : Option (Asked × Message)) (h : Handling) (below : L.Answer)
      → c ≡ Feeds now from bytes w (L.Becomes (L.Request m kept)) came h below
      → HandedOn limits szx setup t now from m kept came
  here t c law now from bytes w m kept came h below is =
      fed t now from bytes w m kept came h below (subst (λ z. ServerLaw limits szx setup (z ∷ t)) is law)

  pub all_handed_on : (t : List Call) → ServerLaw limits szx setup t → AllHandedOn limits szx setup t
  all_handed_on [] law = tt
  all_handed_on (c ∷ t) law = (here t c law, all_handed_on t (server_back limits szx setup c t law))
