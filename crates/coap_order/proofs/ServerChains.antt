-- What the server's side of the exchanges does depends on no datagram that waits.
use Rattle.std.proofs.Common.{◌≡◌, ℕ, Bool, true, false, Option, Some, None, List, [], ◌∷◌, ◌++◌, refl, ap, sym, ◌∙◌}
use Rattle.std.proofs.Common.{subst, append_assoc}
use Rattle.std.proofs.lemmas.List.{append-nil}
use Rattle.coap_types.specs.declared.endpoint.Endpoint.{Endpoint}
use Rattle.coap_types.specs.declared.message.Kind.{Kind}
use Rattle.coap_types.specs.declared.message.Kind.TheVariants.{Con, Non, Ack, Rst}
use Rattle.coap_layer.specs.Trace.{Packet}
use Rattle.coap_layer.specs.Machine.State as L
use Rattle.coap_layer.specs.Machine.Steps.{Steps}
use Rattle.coap_layer.proofs.Facts.StepsOfLayer.{steps_split}
use Rattle.coap_exchange.specs.Above.{Rows, asked_by, sum_of}
use Rattle.coap_exchange.specs.declared.answerer.Asked.{Asked as Request}
use Rattle.coap_exchange.specs.declared.separate.Deferred.{Deferred}
use Rattle.coap_exchange.specs.AnswererLaw as X
use Rattle.coap_exchange.specs.AnswererSteps.{IsRight, after, answering, asking_room, deferring, lower, may_defer}
use Rattle.coap_exchange.specs.AnswererSteps.{ready_at, ready_if, reject_by}
use Rattle.coap_exchange.specs.AnswererTrace.{Answers, Call, Defers, Forgets, Incoming, Notifies, NotifiesPlain, Own}
use Rattle.coap_exchange.specs.AnswererTrace.{Ready, Responds, Response, Take, Ticks}
use Rattle.coap_exchange.specs.AskerArrivals.{id_in, replying}
use Rattle.coap_exchange.specs.AskerRequests.{asked}
use Rattle.coap_layer.specs.Trace as T
use Rattle.coap_order.specs.Queue.{NoneTakes, outs, with_queue}
use Rattle.coap_order.proofs.Waiting.{IsNeat, neat_steps, none_both, queue_then, steps_with}

abbrev pub is_take : Call → Bool
is_take (Take answer) = true
is_take (Incoming now from bytes up answer) = false
is_take (Answers a r below) = false
is_take (Defers now a delay answer) = false
is_take (Ticks now below room answer) = false
is_take (Responds now a r word id) = false
is_take (Ready now to answer) = false
is_take (Notifies now to token r word id) = false
is_take (NotifiesPlain now to token r id) = false
is_take (Forgets peer) = false

abbrev pub NoTakes : List Call → Type 0
NoTakes [] = Unit {0}
NoTakes (c ∷ earlier) = (is_take c ≡ false) × NoTakes earlier

pub no_both : (later earlier : List Call) → NoTakes later → NoTakes earlier → NoTakes (later ++ earlier)
no_both [] earlier h k = k
no_both (c ∷ later) earlier h k = (h.0, no_both later earlier h.1 k)

-- none of them takes a datagram of the layer

pub none_replies : (from : Endpoint) (id : ℕ) (o : Option (List ℕ)) → NoneTakes (replying from id o)
none_replies from id None = tt
none_replies from id (Some bytes) = (refl, tt)

none_answers : (s : Own) (kind : Kind) (a : Request) (r : Response) (below : T.Answer)
    → NoneTakes (asked s.clock (answering s kind a r) below ∷ [])
none_answers s Con a r below = (refl, tt)
none_answers s Non a r below = (refl, tt)
none_answers s Ack a r below = (refl, tt)
none_answers s Rst a r below = (refl, tt)

none_defers : (b : Bool) (a : Request) → NoneTakes (deferring b a)
none_defers true a = (refl, tt)
none_defers false a = tt

none_asks : (now : ℕ) (o : Option Deferred) (room : Bool) → NoneTakes (asking_room now o room)
none_asks now None room = tt
none_asks now (Some d) room = (refl, tt)

pub none_taken : (s : Own) (c : Call) → is_take c ≡ false → NoneTakes (lower s c)
none_taken s (Incoming now from bytes up answer) e =
    none_both (replying from (id_in up) (reject_by up)) _ (none_replies from (id_in up) (reject_by up)) (refl, tt)
none_taken s (Answers a r below) e = none_answers s a.kind a r below
none_taken s (Defers now a delay answer) e =
    none_both (deferring (may_defer s.deferred) a) _ (none_defers (may_defer s.deferred) a) (refl, tt)
none_taken s (Ticks now below room answer) e =
    none_both (asking_room now (ready_if below (ready_at s now)) room) _
    (none_asks now (ready_if below (ready_at s now)) room) (refl, tt)
none_taken s (Responds now a r word id) e = (refl, tt)
none_taken s (Ready now to answer) e = (refl, tt)
none_taken s (Notifies now to token r word id) e = (refl, tt)
none_taken s (NotifiesPlain now to token r id) e = (refl, tt)
none_taken s (Take answer) e = absurd (cc e)
none_taken s (Forgets peer) e = tt

-- the same exchanges, over a layer in which these datagrams wait
abbrev pub waits : List Packet → X.State → X.State
waits q s = record s { layer = with_queue q s.layer }

step_waits : (q : List Packet) (old new : X.State) (c : Call) → is_take c ≡ false → X.Step old c new
    → X.Step (waits q old) c (waits (q ++ outs old.layer (lower old.own c)) new)
step_waits q old new c none h = record {
  right = h.right;
  own_is = h.own_is;
  under = steps_with q old.layer new.layer (lower old.own c) (none_taken old.own c none) h.under;
}

-- what calls put behind what waits, whatever that is
pub record Puts (old : X.State) (calls : List Call) (new : X.State) (o : List Packet) : Type 0 where
  pub behind : new.layer.queue ≡ old.layer.queue ++ o
  pub any : (q : List Packet) → X.Exchanged (waits q old) calls (waits (q ++ o) new)

pub puts : (old new : X.State) (calls : List Call) → NoTakes calls → X.Exchanged old calls new
    → (o : List Packet) × Puts old calls new o
puts old new [] none h = (
  [],
  record {
    behind = ap (λ (s : X.State). s.layer.queue) h ∙ sym (append-nil old.layer.queue);
    any = λ q. ap (λ (r : List Packet). waits r new) (append-nil q) ∙ ap (waits q) h;
  },
)
puts old new (c ∷ earlier) none h =
    let k = puts old h.0 earlier none.1 h.1 in
    let more : List Packet = outs h.0.layer (lower h.0.own c) in (
      k.0 ++ more,
      record {
        behind = queue_then h.0.layer new.layer (lower h.0.own c) (none_taken h.0.own c none.0) h.2.under
            ∙ ap (λ (r : List Packet). r ++ more) k.1.behind ∙ append_assoc old.layer.queue k.0 more;
        any = λ q. (
          waits (q ++ k.0) h.0,
          k.1.any q,
          subst (λ (r : List Packet). X.Step (waits (q ++ k.0) h.0) c (waits r new)) (append_assoc q k.0 more)
              (step_waits (q ++ k.0) h.0 new c none.0 h.2),
        );
      },
    )

-- nothing is kept that is no longer live
pub neat_chain : (old new : X.State) (calls : List Call) → IsNeat old.layer → X.Exchanged old calls new
    → IsNeat new.layer
neat_chain old new [] neat h = subst (λ (s : X.State). IsNeat s.layer) (sym h) neat
neat_chain old new (c ∷ earlier) neat h = neat_steps h.0.layer new.layer (lower h.0.own c)
    (neat_chain old h.0 earlier neat h.1) h.2.under

-- calls that have their rows, over a layer that answered what they ask
pub chain_of : (o : Own) (old new : L.State) (calls : List Call) → Rows o after IsRight calls
    → Steps old (asked_by o after lower calls) new
    → X.Exchanged (record { own = o; layer = old }) calls (record { own = sum_of o after calls; layer = new })
chain_of o old new [] rows h = ap (λ (l : L.State). record { own = o; layer = l }) h
chain_of o old new (c ∷ calls) rows h =
    let k = steps_split old new (lower (sum_of o after calls) c) (asked_by o after lower calls) h in (
      record { own = sum_of o after calls; layer = k.0 },
      chain_of o old k.0 calls rows.1 k.1,
      record { right = rows.0; own_is = refl; under = k.2 },
    )
