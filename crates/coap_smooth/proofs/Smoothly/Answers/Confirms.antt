-- What the calls of a server's exchanges send in a CON, a response or a notification, and in a NON, a response.
use Rattle.std.proofs.Common.{◌≡◌, inl, inr, ℕ, Bool, true, false, Option, Some, None, List, [], ◌∷◌, subst}
use Rattle.coap_types.specs.Past.{Ever}
use Rattle.coap_types.specs.declared.endpoint.Endpoint.{Endpoint}
use Rattle.coap_types.specs.declared.message.Kind.{Kind}
use Rattle.coap_types.specs.declared.message.Kind.TheVariants.{Con}
use Rattle.coap_layer.specs.Machine.State.{State}
use Rattle.coap_layer.specs.Machine.Steps.{Asked, entries}
use Rattle.coap_layer.specs.Trace as L
use Rattle.coap_layer.specs.Words.{Open, begun}
use Rattle.coap_layer.proofs.Facts.Laws.{begins_of}
use Rattle.coap_exchange.specs.AnswererSteps as P
use Rattle.coap_exchange.specs.AnswererSteps.{reject_by, deferring, may_defer, asking_room, ready_if, ready_at}
use Rattle.coap_exchange.specs.AnswererTrace as R
use Rattle.coap_exchange.specs.AskerArrivals.{replying, id_in}
use Rattle.coap_exchange.specs.AskerRequests.{asked}
use Rattle.coap_exchange.specs.declared.answerer.Asked as request
use Rattle.coap_exchange.specs.declared.separate.Deferred.{Deferred}
use Rattle.coap_promise.proofs.Facts.Delivery.EntriesInTime.{Every, every_join}

-- of what is sent in a CON to there, and in a NON
module _ (Q N : Endpoint → L.Content → Type 0) where
  pub record IsSo (call : L.Call) : Type 0 where
    pub confirms : (to : Endpoint) (content : L.Content) (word : ℕ) → call ≡ L.Confirm to content word → Q to content
    pub plain : (to : Endpoint) (content : L.Content) → call ≡ L.Plain to content → N to content

  abbrev pub IsAskedSo : Asked → Type 0
  IsAskedSo a = IsSo a.call

  abbrev pub IsEntrySo : L.Entry → Type 0
  IsEntrySo e = IsSo e.call

  -- .. of what a call sends
  abbrev pub SendsSo : R.Call → Type 0
  SendsSo (R.Answers a r below) = N a.from (P.content_of a r)
  SendsSo (R.Responds now a r word id) = Q a.from (P.content_of a r)
  SendsSo (R.Notifies now to token r word id) = Q to (P.content_with token r)
  SendsSo (R.NotifiesPlain now to token r id) = N to (P.content_with token r)
  SendsSo c = Unit {0}

  other : (call : L.Call) → ((to : Endpoint) (content : L.Content) (word : ℕ) → call ≡ L.Confirm to content word → ⊥)
      → ((to : Endpoint) (content : L.Content) → call ≡ L.Plain to content → ⊥) → IsSo call
  other call f g = record {
    confirms = λ to content word is. absurd (f to content word is);
    plain = λ to content is. absurd (g to content is);
  }

  in_con : (at : Endpoint) (content : L.Content) (w : ℕ) → Q at content → IsSo (L.Confirm at content w)
  in_con at content w q = record { confirms = by; plain = λ to z is. absurd (cc is) }
    where
      by : (to : Endpoint) (z : L.Content) (word : ℕ) → L.Confirm at content w ≡ L.Confirm to z word → Q to z
      by to z word is =
          let there : at ≡ to = cc is in
          let whole : content ≡ z = cc is in
          subst (λ (e : Endpoint). Q e z) there (subst (λ y. Q at y) whole q)

  in_non : (at : Endpoint) (content : L.Content) → N at content → IsSo (L.Plain at content)
  in_non at content n = record { confirms = λ to z word is. absurd (cc is); plain = by }
    where
      by : (to : Endpoint) (z : L.Content) → L.Plain at content ≡ L.Plain to z → N to z
      by to z is =
          let there : at ≡ to = cc is in
          let whole : content ≡ z = cc is in
          subst (λ (e : Endpoint). N e z) there (subst (λ y. N at y) whole n)

  of_reply : (to : Endpoint) (id : ℕ) (bytes : List ℕ) → IsSo (L.Reply to id bytes)
  of_reply to id bytes = other (L.Reply to id bytes) (λ x content word is. cc is) (λ x content is. cc is)

  replying_so : (from : Endpoint) (id : ℕ) (o : Option (List ℕ)) → Every IsAskedSo (replying from id o)
  replying_so from id None = tt
  replying_so from id (Some b) = (of_reply from id b, tt)

  answering_so : (s : R.Own) (kind : Kind) (a : request.Asked) (r : R.Response) → N a.from (P.content_of a r)
      → IsSo (P.answering s kind a r)
  answering_so s Con a r n = of_reply a.from _ _
  answering_so s _ a r n = in_non a.from (P.content_of a r) n

  deferring_so : (b : Bool) (a : request.Asked) → Every IsAskedSo (deferring b a)
  deferring_so true a = (of_reply _ _ _, tt)
  deferring_so false a = tt

  room_so : (now : ℕ) (o : Option Deferred) (room : Bool) → Every IsAskedSo (asking_room now o room)
  room_so now None room = tt
  room_so now (Some d) room = (other (L.Room _) (λ to content word is. cc is) (λ to content is. cc is), tt)

  pub sends_so : (s : R.Own) (c : R.Call) → SendsSo c → Every IsAskedSo (P.lower s c)
  sends_so s (R.Incoming now from bytes up answer) q =
      every_join IsAskedSo (replying from (id_in up) (reject_by up)) (asked now (L.Receive from bytes) up ∷ [])
      (replying_so from (id_in up) (reject_by up))
      (other (L.Receive from bytes) (λ to content word is. cc is) (λ to content is. cc is), tt)
  sends_so s (R.Answers a r below) q = (answering_so s a.kind a r q, tt)
  sends_so s (R.Defers now a delay answer) q =
      every_join IsAskedSo (deferring (may_defer s.deferred) a) (asked now L.Pass L.Nothing ∷ [])
      (deferring_so (may_defer s.deferred) a)
      (other L.Pass (λ to content word is. cc is) (λ to content is. cc is), tt)
  sends_so s (R.Ticks now below room answer) q =
      every_join IsAskedSo (asking_room now (ready_if below (ready_at s now)) room) (asked now L.Ticks below ∷ [])
      (room_so now (ready_if below (ready_at s now)) room)
      (other L.Ticks (λ to content word is. cc is) (λ to content is. cc is), tt)
  sends_so s (R.Responds now a r word id) q = (in_con a.from (P.content_of a r) word q, tt)
  sends_so s (R.Ready now to answer) q =
      (other (L.Room to) (λ x content word is. cc is) (λ x content is. cc is), tt)
  sends_so s (R.Notifies now to token r word id) q = (in_con to (P.content_with token r) word q, tt)
  sends_so s (R.NotifiesPlain now to token r id) q = (in_non to (P.content_with token r) q, tt)
  sends_so s (R.Take answer) q = (other L.Take (λ to content word is. cc is) (λ to content is. cc is), tt)
  sends_so s (R.Forgets peer) q = tt

  pub entries_so : (old : State) (asks : List Asked) → Every IsAskedSo asks → Every IsEntrySo (entries old asks)
  entries_so old [] h = tt
  entries_so old (a ∷ asks) h = (h.0, entries_so old asks h.1)

  -- .. so of each CON that is begun
  pub record IsBegunSo (con : Open) : Type 0 where
    pub content : L.Content
    pub is_so : Q con.to content

  pub begun_so : (es : List L.Entry) (con : Open) → Every IsEntrySo es → Ever (λ b. begun b ≡ Some con) es
      → IsBegunSo con
  begun_so [] con all h = absurd h
  begun_so (e ∷ es) con all (inl h) =
      let b = begins_of e con h in
      record { content = b.content; is_so = all.0.confirms con.to b.content b.word b.call_is }
  begun_so (e ∷ es) con all (inr h) = begun_so es con all.1 h
