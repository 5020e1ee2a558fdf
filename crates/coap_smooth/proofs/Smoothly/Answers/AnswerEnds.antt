-- While an exchange is open no answer to it is taken; and what has its token comes behind its request.
use Rattle.std.proofs.Common.{◌≡◌, ◌⊎◌, inl, inr, ℕ, ◌==◌, Bool, true, Option, Some, None, List, []}
use Rattle.std.proofs.Common.{◌∷◌, ap, sym, subst, ◌∙◌, Result, is_some}
use Rattle.std.proofs.lemmas.Bool.{and_parts}
use Rattle.std.specs.Cmp.{unsigned_Decides}
use Rattle.coap_types.specs.Past.{Ever, Sometime}
use Rattle.coap_types.specs.SameEndpoint.{same_endpoint}
use Rattle.coap_types.specs.declared.endpoint.Endpoint.{Endpoint}
use Rattle.coap_types.specs.declared.message.Kind.TheVariants.{Con, Ack}
use Rattle.coap_codec.specs.Message.{Message}
use Rattle.coap_layer.specs.Rows.{Outstanding}
use Rattle.coap_layer.specs.Trace as L
use Rattle.coap_layer.specs.Words.{is_to}
use Rattle.coap_layer.specs.declared.setup.Setup.{Setup}
use Rattle.coap_block.specs.Sizes.{Sizes}
use Rattle.coap_exchange.specs.AskerResponses.{IsSound}
use Rattle.coap_exchange.specs.declared.asker.AskRefusal.{AskRefusal}
use Rattle.coap_exchange.specs.declared.asker.Event.{Event}
use Rattle.coap_client_laws.specs.Follows.Begins.{WasSent}
use Rattle.coap_client_laws.specs.Follows.Open.{AnswersAreHeard, ComesAsAnswer}
use Rattle.coap_client_laws.specs.Follows.Tokens.{OwnTokens}
use Rattle.coap_client.specs.Sendings.{Sending}
use Rattle.coap_client.specs.Law.{ClientLaw, layer_of}
use Rattle.coap_client.specs.Own.{Cancelling}
use Rattle.coap_client.specs.Trace as C
use Rattle.coap_client_laws.proofs.Facts.Laws.{back}
use Rattle.coap_smooth.proofs.Smoothly.Answers.ExchangeOpen.{OpenOf, Runs, runs_of, Lonely, Waited, lonely}

-- the request registers nothing, and cancels nothing: it has a token of its own
pub record IsPlain (x : Sending) : Type 0 where
  pub tokenless : x.request.token ≡ None
  pub no_cancel : (number : ℕ) → x.operation ≡ Cancelling number → ⊥

module _ (server : Endpoint) (sizes : Sizes) (setup : Setup) where
  -- a response to this request is handed up here: in a CON, or in the acknowledgement of what is outstanding; a request
  -- with its token was sent before
  pub record ComesUp (x : Sending) (past : List C.Call) (c : C.Call) : Type 0 where
    pub now : ℕ
    pub from : Endpoint
    pub bytes : List ℕ
    pub w : ℕ
    pub message : Message
    pub settled : Bool
    pub event : Option Event
    pub sent : L.Answer
    pub token : Result (List ℕ) AskRefusal
    pub kept : Bool
    pub is : c ≡ C.Feeds now from bytes w (L.Becomes (L.Response message)) settled event sent token kept
    pub sound : IsSound server setup from message
    pub same : message.token ≡ x.token
    pub kind : (message.kind ≡ Con)
        ⊎ ((message.kind ≡ Ack) × Outstanding (layer_of server sizes setup past) server message.id)
    pub asked : Sending
    pub asked_before : WasSent sizes asked past
    pub asked_same : asked.token ≡ message.token

  -- it is in time for the exchange
  sent_in : (x : Sending) (t : List C.Call) → Sometime (ComesUp x) t → (z : Sending) × WasSent sizes z t
      × (z.token ≡ x.token)
  sent_in x [] h = absurd h
  sent_in x (c ∷ t) (inl k) = (k.asked, inr k.asked_before, k.asked_same ∙ k.same)
  sent_in x (c ∷ t) (inr h) = let k = sent_in x t h in (k.0, inr k.1, k.2)

  -- what is outstanding is its request
  its_id : (at : ℕ) (x : Sending) (t : List C.Call) (r : Runs server sizes setup at x t) (id : ℕ)
      → Lonely server sizes setup at x r.exchange t ⊎ Waited server sizes setup r.exchange t
      → Outstanding (layer_of server sizes setup t) server id → id ≡ r.exchange.id.0
  its_id at x t r id (inr k) h = absurd (subst (Ever (λ c. is_to server id c ≡ true)) k.none h)
  its_id at x t r id (inl k) h = elim (subst (Ever (λ c. is_to server id c ≡ true)) k.only h) [
    | inl w ↦ (let both = and_parts (same_endpoint k.con.to server) (k.con.id == id) w in
        sym ((unsigned_Decides k.con.id id).0 both.1) ∙ k.id)
    | inr w ↦ absurd w
  ]

  as_answer : (at : ℕ) (x : Sending) (t : List C.Call) (c : C.Call) (k : ComesUp x t c)
      (r : Runs server sizes setup at x t)
      → IsPlain x → Lonely server sizes setup at x r.exchange t ⊎ Waited server sizes setup r.exchange t
      → ComesAsAnswer server sizes setup r.exchange k.message
  as_answer at x t c k r plain alone = by k.kind
    where
      by : (k.message.kind ≡ Con)
          ⊎ ((k.message.kind ≡ Ack) × Outstanding (layer_of server sizes setup t) server k.message.id)
          → ComesAsAnswer server sizes setup r.exchange k.message
      by (inl con) = inr (inl con, inl (r.cancel ∙ ap is_some plain.tokenless))
      by (inr ack) = inl (ack.0, its_id at x t r k.message.id alone ack.1)

  pub never_answered : (at : ℕ) (x : Sending) (t : List C.Call) → ClientLaw server sizes setup t
      → AnswersAreHeard server sizes setup t → OwnTokens sizes t → IsPlain x → OpenOf server sizes setup at x t
      → Sometime (ComesUp x) t → ⊥
  never_answered at x [] law heard own plain o h = h
  never_answered at x (c ∷ t) law heard own plain (inl o) (inl k) =
      let d = own.0 x k.asked o.0 k.asked_before (k.asked_same ∙ k.same) in plain.no_cancel d.number d.cancels
  never_answered at x (c ∷ t) law heard own plain (inl o) (inr h) =
      let z = sent_in x t h in
      let d = own.0 x z.0 o.0 z.1 z.2 in plain.no_cancel d.number d.cancels
  never_answered at x (c ∷ t) law heard own plain (inr o) (inr h) =
      never_answered at x t (back server sizes setup (c ∷ []) t law) heard.1 own.1 plain o.3 h
  never_answered at x (c ∷ t) law heard own plain (inr o) (inl k) =
      let old = back server sizes setup (c ∷ []) t law in
      let r = runs_of server sizes setup at x t old o.3 in
      let alone = lonely server sizes setup at x t old r in
      let is = heard.0 k.now k.from k.bytes k.w k.message k.settled k.event k.sent k.token k.kept r.exchange k.is
      k.sound
      r.runs (k.same ∙ sym r.token) (as_answer at x t c k r plain alone) in
      let z : None ≡ Some k.message = sym o.1 ∙ is in
      cc z
