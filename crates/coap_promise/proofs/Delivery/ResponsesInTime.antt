-- When the calls of the server's exchanges, at one moment, ask their layer.
use Rattle.std.proofs.Common.{◌≡◌, ◌≤◌, ℕ, Bool, true, false, Option, Some, None, List, [], ◌∷◌, ◌++◌, sym, subst}
use Rattle.std.proofs.Common.{arith, append_assoc}
use Rattle.coap_types.specs.declared.endpoint.Endpoint.{Endpoint}
use Rattle.coap_types.specs.declared.message.Kind.{Kind}
use Rattle.coap_types.specs.declared.message.Kind.TheVariants.{Con}
use Rattle.coap_layer.specs.Trace as L
use Rattle.coap_exchange.specs.declared.answerer.Asked as request
use Rattle.coap_exchange.specs.declared.separate.Deferred.{Deferred}
use Rattle.coap_exchange.specs.AskerRequests.{asked}
use Rattle.coap_exchange.specs.AskerArrivals.{replying, id_in}
use Rattle.coap_exchange.specs.AnswererTrace as R
use Rattle.coap_exchange.specs.AnswererSteps.{reject_by, deferring, may_defer, asking_room, ready_if, ready_at}
use Rattle.coap_exchange.specs.AnswererSteps as answerer_steps
use Rattle.coap_exchange.specs.AnswererLaw as answerer
use Rattle.coap_exchange.specs.Adds.{asked_by_server}
use Rattle.coap_promise.proofs.Facts.Delivery.EntriesInTime.{Every, every_join, Wish, Ends, ends_over}
use Rattle.coap_promise.proofs.Facts.Delivery.ClientInTime.{replying_wish, timed_wish, receive_wish}

module _ (t : ℕ) (F : Endpoint → List ℕ → Type 0) where
  -- what is asked of the exchanges
  abbrev pub Asks : R.Call → Type 0
  Asks (R.Incoming now from bytes up answer) = (now ≤ t) × F from bytes
  Asks (R.Defers now a delay answer) = now ≤ t
  Asks (R.Ticks now below room answer) = now ≤ t
  Asks (R.Responds now a r word id) = now ≤ t
  Asks (R.Ready now to answer) = now ≤ t
  Asks (R.Notifies now to token r word id) = now ≤ t
  Asks (R.NotifiesPlain now to token r id) = now ≤ t
  Asks _ = Unit {0}

  own_by : (s : R.Own) (c : R.Call) → s.clock ≤ t → Asks c → (answerer_steps.after s c).clock ≤ t
  own_by s (R.Incoming now from bytes up answer) h a = let k = a.0 in omega (arith, h, k)
  own_by s (R.Answers a r below) h k = h
  own_by s (R.Take answer) h k = h
  own_by s (R.Forgets peer) h k = h
  own_by s _ h k = omega (arith, h, k)

  pub owns_by : (past later : List R.Call) → (answerer.own_of past).clock ≤ t → Every Asks later
      → (answerer.own_of (later ++ past)).clock ≤ t
  owns_by past [] h a = h
  owns_by past (c ∷ later) h a = own_by (answerer.own_of (later ++ past)) c (owns_by past later h a.1) a.0

  -- other calls of the layer than arrivals
  other_wish : (now : ℕ) (call : L.Call) (up : L.Answer) → now ≤ t
      → ((from : Endpoint) (bytes : List ℕ) → call ≡ L.Receive from bytes → ⊥) → Wish t F (asked now call up)
  other_wish now call up h f = record { now = h; fed = λ from bytes is. absurd (f from bytes is) }

  answering_other : (s : R.Own) (kind : Kind) (a : request.Asked) (r : R.Response) (from : Endpoint) (bytes : List ℕ)
      → answerer_steps.answering s kind a r ≡ L.Receive from bytes → ⊥
  answering_other s Con a r from bytes is = cc is
  answering_other s _ a r from bytes is = cc is

  deferring_wish : (b : Bool) (a : request.Asked) → Every (Wish t F) (deferring b a)
  deferring_wish true a = (other_wish 0 _ _ (omega arith) (λ from bytes is. cc is), tt)
  deferring_wish false a = tt

  room_wish : (now : ℕ) (o : Option Deferred) (room : Bool) → now ≤ t → Every (Wish t F) (asking_room now o room)
  room_wish now None room h = tt
  room_wish now (Some d) room h = (other_wish now _ _ h (λ from bytes is. cc is), tt)

  lower_wish : (s : R.Own) (c : R.Call) → s.clock ≤ t → Asks c → Every (Wish t F) (answerer_steps.lower s c)
  lower_wish s (R.Incoming now from bytes up answer) h a =
      every_join (Wish t F) (replying from (id_in up) (reject_by up)) (asked now (L.Receive from bytes) up ∷ [])
      (replying_wish t F from (id_in up) (reject_by up)) (receive_wish t F now from bytes up a.0 a.1, tt)
  lower_wish s (R.Answers a r below) h k = (other_wish s.clock _ below h (answering_other s a.kind a r), tt)
  lower_wish s (R.Defers now a delay answer) h k =
      every_join (Wish t F) (deferring (may_defer s.deferred) a) (asked now L.Pass L.Nothing ∷ [])
      (deferring_wish (may_defer s.deferred) a) (other_wish now L.Pass L.Nothing k (λ from bytes is. cc is), tt)
  lower_wish s (R.Ticks now below room answer) h k =
      every_join (Wish t F) (asking_room now (ready_if below (ready_at s now)) room) (asked now L.Ticks below ∷ [])
      (room_wish now (ready_if below (ready_at s now)) room k) (timed_wish t F now below k, tt)
  lower_wish s (R.Responds now a r word id) h k = (other_wish now _ (L.Sent id) k (λ from bytes is. cc is), tt)
  lower_wish s (R.Ready now to answer) h k = (other_wish now _ (L.Is answer) k (λ from bytes is. cc is), tt)
  lower_wish s (R.Notifies now to token r word id) h k = (other_wish now _ (L.Sent id) k (λ from bytes is. cc is), tt)
  lower_wish s (R.NotifiesPlain now to token r id) h k = (other_wish now _ (L.Sent id) k (λ from bytes is. cc is), tt)
  lower_wish s (R.Take answer) h k = (other_wish 0 L.Take (L.Gives answer) (omega arith) (λ from bytes is. cc is), tt)
  lower_wish s (R.Forgets peer) h k = tt

  pub wishes : (past later : List R.Call) → (answerer.own_of past).clock ≤ t → Every Asks later
      → Every (Wish t F) (asked_by_server past later)
  wishes past [] h a = tt
  wishes past (c ∷ later) h a =
      every_join (Wish t F) (answerer_steps.lower (answerer.own_of (later ++ past)) c) (asked_by_server past later)
      (lower_wish (answerer.own_of (later ++ past)) c (owns_by past later h a.1) a.0) (wishes past later h a.1)

  -- the oldest is an arrival or a tick
  abbrev pub Begins : R.Call → Type 0
  Begins (R.Incoming now from bytes up answer) = t ≤ now
  Begins (R.Ticks now below room answer) = t ≤ now
  Begins _ = ⊥

  first_ends : (s : R.Own) (c : R.Call) → Begins c → Ends t F (answerer_steps.lower s c ++ [])
  first_ends s (R.Incoming now from bytes up answer) k =
      subst (Ends t F) (sym (append_assoc (replying from (id_in up) (reject_by up))
      (asked now (L.Receive from bytes) up ∷ []) []))
      (ends_over t F (replying from (id_in up) (reject_by up)) (asked now (L.Receive from bytes) up ∷ []) (k, tt))
  first_ends s (R.Ticks now below room answer) k =
      subst (Ends t F) (sym (append_assoc (asking_room now (ready_if below (ready_at s now)) room)
      (asked now L.Ticks below ∷ []) [])) (ends_over t F (asking_room now (ready_if below (ready_at s now)) room)
      (asked now L.Ticks below ∷ []) (k, tt))
  first_ends s _ k = absurd k

  pub ends : (past later : List R.Call) (c : R.Call) → Begins c → Ends t F (asked_by_server past (later ++ c ∷ []))
  ends past [] c k = first_ends (answerer.own_of past) c k
  ends past (d ∷ later) c k = ends_over t F (answerer_steps.lower (answerer.own_of ((later ++ c ∷ []) ++ past)) d)
      (asked_by_server past (later ++ c ∷ [])) (ends past later c k)
