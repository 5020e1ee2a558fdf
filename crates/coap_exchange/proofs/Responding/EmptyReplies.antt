-- What a server rejects, acknowledges with an Empty message, and answers in an acknowledgement.
use Rattle.std.proofs.Common.{◌≡◌, ◌⊎◌, inl, inr, ℕ, Bool, true, false, Option, Some, None, List, [], ◌∷◌, ◌++◌, refl}
use Rattle.std.proofs.Common.{ap, ◌∙◌, cond}
use Rattle.coap_types.specs.declared.endpoint.Endpoint.{Endpoint}
use Rattle.coap_types.specs.declared.message.Kind.{Kind}
use Rattle.coap_types.specs.declared.message.Kind.TheVariants.{Con, Non, Ack}
use Rattle.coap_codec.specs.Message.{Message}
use Rattle.coap_layer.specs.Trace as T
use Rattle.coap_layer.specs.Words.{is_kept}
use Rattle.coap_exchange.specs.declared.answerer.Asked.{Asked}
use Rattle.coap_exchange.specs.declared.separate.Deferred.{Deferred}
use Rattle.coap_exchange.specs.AnswererTrace.{Response, Own, Call, Incoming, Answers, Defers, Ticks}
use Rattle.coap_exchange.specs.AnswererSteps.{reject_by, answering, IsRight, may_defer, deferring, asking_room}
use Rattle.coap_exchange.specs.AnswererSteps.{ready_if, ready_at}
use Rattle.coap_exchange.specs.AnswererLaw.{own_of, AnswererLaw}
use Rattle.coap_exchange.specs.AnswererEmpties.{AnswersIn, RejectsIn, RepliesRightly, AreReplied}
use Rattle.coap_exchange.specs.AskerRequests.{asked}
use Rattle.coap_exchange.specs.AskerArrivals.{id_in, replying}
use Rattle.coap_exchange.specs.EmptyMessages.{reset_bytes, acknowledging, replies_in}

abbrev packets : Endpoint → Option (List ℕ) → List T.Packet
packets from None = []
packets from (Some bytes) = record { to = from; bytes = bytes } ∷ []

replies_by : (from : Endpoint) (bytes : List ℕ) (now id : ℕ) (up : T.Answer) (o : Option (List ℕ))
    → replies_in (replying from id o ++ asked now (T.Receive from bytes) up ∷ []) ≡ packets from o
replies_by from bytes now id up None = refl
replies_by from bytes now id up (Some b) = refl

rejected : (from : Endpoint) (m : Message) → ((m.kind ≡ Con) ⊎ (m.kind ≡ Non)
    → packets from (reject_by (T.Becomes (T.Response m))) ≡ record { to = from; bytes = reset_bytes m.id } ∷ [])
    × (m.kind ≡ Ack → packets from (reject_by (T.Becomes (T.Response m))) ≡ [])
rejected from m = (
  λ kind. elim kind [
    | inl e ↦ ap (λ k. packets from (cond (is_kept k) (Some (reset_bytes m.id)) None)) e
    | inr e ↦ ap
        (λ k. packets from (cond (is_kept k) (Some (reset_bytes m.id)) None)) e
  ],
  λ e. ap (λ k. packets from (cond (is_kept k) (Some (reset_bytes m.id)) None)) e,
)

rejects : (from : Endpoint) (bytes : List ℕ) (now : ℕ) (up : T.Answer)
    → RejectsIn from up (replies_in (replying from (id_in up) (reject_by up)
    ++ asked now (T.Receive from bytes) up ∷ []))
rejects from bytes now (T.Becomes (T.Response m)) =
    let is = replies_by from bytes now m.id (T.Becomes (T.Response m))
    (reject_by (T.Becomes (T.Response m))) in (
      λ kind. is ∙ (rejected from m).0 kind,
      λ e. is ∙ (rejected from m).1 e,
    )
rejects from bytes now _ = refl

none_asked : (now : ℕ) (below : T.Answer) (d : Option Deferred) (room : Bool)
    → replies_in (asking_room now d room ++ asked now T.Ticks below ∷ []) ≡ []
none_asked now below None room = refl
none_asked now below (Some d) room = refl

defers : (now : ℕ) (a : Asked) (b answer : Bool) → answer ≡ b
    → replies_in (deferring b a ++ asked now T.Pass T.Nothing ∷ []) ≡ cond answer (acknowledging a.from a.id.0) []
defers now a true false e = absurd (cc e)
defers now a false true e = absurd (cc e)
defers now a _ _ e = refl

-- a NON isn't replied to
no_reply : (s : Own) (kind : Kind) (a : Asked) (r : Response) (below : T.Answer) → (kind ≡ Con → ⊥)
    → replies_in (asked s.clock (answering s kind a r) below ∷ []) ≡ []
no_reply s Con a r below other = absurd (other refl)
no_reply s _ a r below other = refl

answers : (s : Own) (a : Asked) (r : Response) (below : T.Answer)
    → AnswersIn a r (replies_in (asked s.clock (answering s a.kind a r) below ∷ []))
answers s a r below = (
  λ con. ap (λ k. replies_in (asked s.clock (answering s k a r) below ∷ [])) con,
  λ other. no_reply s a.kind a r below other,
)

rightly : (t : List Call) (c : Call) → IsRight (own_of t) c → RepliesRightly t c
rightly t (Incoming now from bytes up answer) right = rejects from bytes now up
rightly t (Answers a r below) right = answers (own_of t) a r below
rightly t (Defers now a delay true) right = defers now a (may_defer (own_of t).deferred) true right.2
rightly t (Defers now a delay false) right = defers now a (may_defer (own_of t).deferred) false right.2
rightly t (Ticks now below room answer) right = none_asked now below (ready_if below (ready_at (own_of t) now)) room
rightly t _ right = refl

pub are_replied : (t : List Call) → AnswererLaw t → AreReplied t
are_replied [] law = tt
are_replied (c ∷ t) law = (rightly t c law.0, are_replied t law.1)
