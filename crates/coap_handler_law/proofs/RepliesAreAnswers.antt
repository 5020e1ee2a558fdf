-- The reply that the other end takes was given by a call of the server.
use Rattle.std.proofs.Common.{◌≡◌, ◌⊎◌, inl, inr, ℕ, Bool, true, false, Option, Some, None, List, [], ◌∷◌, ◌++◌, refl}
use Rattle.std.proofs.Common.{subst}
use Rattle.coap_types.specs.Past.{Ever, Sometime, Always}
use Rattle.coap_types.specs.declared.endpoint.Endpoint.{Endpoint}
use Rattle.coap_types.specs.declared.message.Kind.{Kind}
use Rattle.coap_types.specs.declared.message.Kind.TheVariants.{Con, Non, Ack, Rst}
use Rattle.coap_codec.specs.Spelling.{message_bytes}
use Rattle.coap_layer.specs.Channel.{Hop, Near, Far, far_of, OnFarThen}
use Rattle.coap_layer.specs.Machine.State as L
use Rattle.coap_layer.specs.Machine.Steps.{Asked as Below, entries}
use Rattle.coap_layer.specs.Trace as T
use Rattle.coap_layer.specs.Trace.{Entry}
use Rattle.coap_layer.specs.declared.setup.Setup.{Setup}
use Rattle.coap_exchange.specs.declared.answerer.Asked.{Asked}
use Rattle.coap_exchange.specs.declared.separate.Deferred.{Deferred}
use Rattle.coap_exchange.specs.AnswererTrace.{Own, Call, Response, start, Incoming, Answers, Defers, Ticks, Responds}
use Rattle.coap_exchange.specs.AnswererTrace.{Ready}
use Rattle.coap_exchange.specs.AnswererTrace.{Notifies, NotifiesPlain, Take, Forgets}
use Rattle.coap_exchange.specs.AnswererLaw.{below_of, own_of, lower_of}
use Rattle.coap_exchange.specs.AnswererSends.{carrying}
use Rattle.coap_exchange.specs.AnswererSteps.{after, answering, asking_room, deferring, lower, may_defer, ready_at}
use Rattle.coap_exchange.specs.AnswererSteps.{ready_if, reject_by}
use Rattle.coap_exchange.specs.AskerArrivals.{id_in, replying}
use Rattle.coap_exchange.specs.AskerRequests.{asked}
use Rattle.coap_exchange.specs.EmptyMessages.{ack_bytes}
use Rattle.coap_exchange.proofs.Facts.Above.{asked_at}
use Rattle.coap_handler_law.specs.Promised.{IsReply}

-- this reply is asked of the layer
abbrev pub Replies : Endpoint → ℕ → List ℕ → Below → Type 0
Replies near id bytes a = a.call ≡ T.Reply near id bytes

-- at the far end
pub far_ever : (P : Entry → Type 0) (Q : List Entry → Entry → Type 0)
    → ((past : List Entry) (e : Entry) → Q past e → P e)
    → (all : List Hop) → Sometime (OnFarThen Q) all → Ever P (far_of all)
far_ever P Q f [] h = absurd h
far_ever P Q f (Near e ∷ all) (inl h) = absurd h
far_ever P Q f (Near e ∷ all) (inr h) = far_ever P Q f all h
far_ever P Q f (Far e ∷ all) (inl h) = inl (f (far_of all) e h)
far_ever P Q f (Far e ∷ all) (inr h) = inr (far_ever P Q f all h)

pub ever_asked : (near : Endpoint) (id : ℕ) (bytes : List ℕ) (old : L.State) (xs : List Below)
    → Ever (λ (e : Entry). e.call ≡ T.Reply near id bytes) (entries old xs) → Ever (Replies near id bytes) xs
ever_asked near id bytes old [] h = h
ever_asked near id bytes old (a ∷ xs) (inl h) = inl h
ever_asked near id bytes old (a ∷ xs) (inr h) = inr (ever_asked near id bytes old xs h)

module _ (near : Endpoint) (id : ℕ) (bytes : List ℕ) where
  of_answer : (s : Own) (k : Kind) (a : Asked) (r : Response) → answering s k a r ≡ T.Reply near id bytes
      → (k ≡ Con) × (a.from ≡ near) × (a.id.0 ≡ id) × (bytes ≡ message_bytes (carrying Ack a.id.0 a.token r))
  of_answer s Con a r e = (refl, cc, cc, cc)
  of_answer s Non a r e = absurd cc
  of_answer s Ack a r e = absurd cc
  of_answer s Rst a r e = absurd cc

  of_defer : (may : Bool) (now : ℕ) (a : Asked) → Ever (Replies near id bytes)
      (deferring may a ++ asked now T.Pass T.Nothing ∷ [])
      → (a.from ≡ near) × (a.id.0 ≡ id) × (bytes ≡ ack_bytes a.id.0)
  of_defer true now a (inl e) = (cc, cc, cc)
  of_defer true now a (inr (inl e)) = absurd cc
  of_defer true now a (inr (inr h)) = absurd h
  of_defer false now a (inl e) = absurd cc
  of_defer false now a (inr h) = absurd h

  of_reject : (from : Endpoint) (n now : ℕ) (came : List ℕ) (up : T.Answer) (o : Option (List ℕ))
      → Ever (Replies near id bytes) (replying from n o ++ asked now (T.Receive from came) up ∷ [])
      → (from ≡ near) × (o ≡ Some bytes)
  of_reject from n now came up (Some b) (inl e) = (cc, cc)
  of_reject from n now came up (Some b) (inr (inl e)) = absurd cc
  of_reject from n now came up (Some b) (inr (inr h)) = absurd h
  of_reject from n now came up None (inl e) = absurd cc
  of_reject from n now came up None (inr h) = absurd h

  of_tick : (now : ℕ) (o : Option Deferred) (room : Bool) (below : T.Answer)
      → Ever (Replies near id bytes) (asking_room now o room ++ asked now T.Ticks below ∷ []) → ⊥
  of_tick now (Some d) room below (inl e) = absurd cc
  of_tick now (Some d) room below (inr (inl e)) = absurd cc
  of_tick now (Some d) room below (inr (inr h)) = h
  of_tick now None room below (inl e) = absurd cc
  of_tick now None room below (inr h) = h

  -- what each call gives as a reply
  pub is_reply : (s : Own) (c : Call) → Ever (Replies near id bytes) (lower s c) → IsReply near id bytes c
  is_reply s (Incoming now from came up answer) h = of_reject from (id_in up) now came up (reject_by up) h
  is_reply s (Answers a r sent) (inl e) = of_answer s a.kind a r e
  is_reply s (Answers a r sent) (inr h) = absurd h
  is_reply s (Defers now a delay answer) h = of_defer (may_defer s.deferred) now a h
  is_reply s (Ticks now below room answer) h = of_tick now (ready_if below (ready_at s now)) room below h
  is_reply s (Responds now a r word n) (inl e) = absurd cc
  is_reply s (Responds now a r word n) (inr h) = h
  is_reply s (Ready now to answer) (inl e) = absurd cc
  is_reply s (Ready now to answer) (inr h) = h
  is_reply s (Notifies now to token r word n) (inl e) = absurd cc
  is_reply s (Notifies now to token r word n) (inr h) = h
  is_reply s (NotifiesPlain now to token r n) (inl e) = absurd cc
  is_reply s (NotifiesPlain now to token r n) (inr h) = h
  is_reply s (Take answer) (inl e) = absurd cc
  is_reply s (Take answer) (inr h) = h
  is_reply s (Forgets peer) h = h

  pub ever_reply : (t : List Call) → Sometime (λ past c. Ever (Replies near id bytes) (lower (own_of past) c)) t
      → Ever (IsReply near id bytes) t
  ever_reply [] h = h
  ever_reply (c ∷ t) (inl h) = inl (is_reply (own_of t) c h)
  ever_reply (c ∷ t) (inr h) = inr (ever_reply t h)

  pub given : (setup : Setup) (t : List Call) → Ever (λ (e : Entry). e.call ≡ T.Reply near id bytes) (below_of setup t)
      → Ever (IsReply near id bytes) t
  given setup t h = ever_reply t (asked_at start after lower (Replies near id bytes) t
      (ever_asked near id bytes (L.start setup) (lower_of t) h))
