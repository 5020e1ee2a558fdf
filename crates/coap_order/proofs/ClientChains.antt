-- What the client's side of the exchanges does depends on no datagram that waits.
use Rattle.std.proofs.Common.{◌≡◌, ℕ, Bool, true, false, Option, Some, None, List, [], ◌∷◌, ◌++◌, refl, ap, sym, ◌∙◌}
use Rattle.std.proofs.Common.{subst, append_assoc}
use Rattle.std.proofs.lemmas.List.{append-nil}
use Rattle.coap_types.specs.declared.endpoint.Endpoint.{Endpoint}
use Rattle.coap_layer.specs.Trace.{Packet}
use Rattle.coap_layer.specs.Machine.State as L
use Rattle.coap_layer.specs.Machine.Steps.{Steps}
use Rattle.coap_exchange.specs.declared.asker.Exchange.{Exchange}
use Rattle.coap_exchange.specs.declared.matching.Opening.{Opening}
use Rattle.coap_exchange.specs.declared.matching.Opening.TheVariants.{Running, Sends, Spent}
use Rattle.coap_exchange.specs.AskerLaw as X
use Rattle.coap_exchange.specs.AskerSteps.{IsRight, after, lower}
use Rattle.coap_exchange.specs.Above.{Rows, asked_by, sum_of}
use Rattle.coap_layer.proofs.Facts.StepsOfLayer.{steps_split}
use Rattle.coap_exchange.specs.AskerTrace.{Ask, Call, Keep, Own, Receive, Release, Take, Ticks}
use Rattle.coap_exchange.specs.AskerArrivals.{acts, id_in, reply_by, settles, settling, verdict_on}
use Rattle.coap_exchange.specs.AskerRequests.{asked, beneath, content_of, opening_of, request_token}
use Rattle.coap_layer.specs.Trace as T
use Rattle.coap_order.specs.Queue.{NoneTakes, outs, with_queue}
use Rattle.coap_order.proofs.ServerChains.{none_replies}
use Rattle.coap_order.proofs.Waiting.{IsNeat, neat_steps, none_both, queue_then, steps_with}

abbrev pub is_take : Call → Bool
is_take (Take answer) = true
is_take (Ask now r word below answer) = false
is_take (Receive now from bytes up settled answer) = false
is_take (Ticks now below answer) = false
is_take (Keep token answer) = false
is_take (Release token answer) = false

abbrev pub NoTakes : List Call → Type 0
NoTakes [] = Unit {0}
NoTakes (c ∷ earlier) = (is_take c ≡ false) × NoTakes earlier

pub no_both : (later earlier : List Call) → NoTakes later → NoTakes earlier → NoTakes (later ++ earlier)
no_both [] earlier h k = k
no_both (c ∷ later) earlier h k = (h.0, no_both later earlier h.1 k)

-- none of them takes a datagram of the layer

none_settles : (b : Bool) (server : Endpoint) (running : Option Exchange) (settled : Bool)
    → NoneTakes (settling b server running settled)
none_settles true server (Some x) settled = (refl, tt)
none_settles true server None settled = tt
none_settles false server running settled = tt

none_asks : (o : Opening) (now : ℕ) (server : Endpoint) (content : T.Content) (word : ℕ) (below : T.Answer)
    → NoneTakes (asked now (beneath o server content word) below ∷ [])
none_asks Running now server content word below = (refl, tt)
none_asks Spent now server content word below = (refl, tt)
none_asks Sends now server content word below = (refl, tt)

pub none_taken : (s : Own) (c : Call) → is_take c ≡ false → NoneTakes (lower s c)
none_taken s (Ask now r word below answer) e = none_asks (opening_of s r) now s.server
    (content_of (request_token s r) r) word below
none_taken s (Receive now from bytes up settled answer) e =
    none_both (acts s from up settled (verdict_on s from up)) _
    (none_both (settling (settles (verdict_on s from up)) s.server s.running settled) _
    (none_settles (settles (verdict_on s from up)) s.server s.running settled)
    (none_replies from (id_in up) (reply_by (verdict_on s from up) (id_in up)))) (refl, tt)
none_taken s (Ticks now below answer) e = (refl, tt)
none_taken s (Keep token answer) e = tt
none_taken s (Release token answer) e = tt
none_taken s (Take answer) e = absurd (cc e)

-- the same exchanges, over a layer in which these datagrams wait
abbrev pub waits : List Packet → X.State → X.State
waits q s = record s { layer = with_queue q s.layer }

step_waits : (q : List Packet) (old new : X.State) (c : Call) → is_take c ≡ false → X.Step old c new
    → X.Step (waits q old) c (waits (q ++ outs old.layer (lower old.own c)) new)
step_waits q old new c none h = record {
  right = h.right;
  own_is = h.own_is;
  under = steps_with q old.layer new.layer (lower old.own c) (none_taken old.own c none) h.under;
}

-- what calls put behind what waits, whatever that is
pub record Puts (old : X.State) (calls : List Call) (new : X.State) (o : List Packet) : Type 0 where
  pub behind : new.layer.queue ≡ old.layer.queue ++ o
  pub any : (q : List Packet) → X.Exchanged (waits q old) calls (waits (q ++ o) new)

pub puts : (old new : X.State) (calls : List Call) → NoTakes calls → X.Exchanged old calls new
    → (o : List Packet) × Puts old calls new o
puts old new [] none h = (
  [],
  record {
    behind = ap (λ (s : X.State). s.layer.queue) h ∙ sym (append-nil old.layer.queue);
    any = λ q. ap (λ (r : List Packet). waits r new) (append-nil q) ∙ ap (waits q) h;
  },
)
puts old new (c ∷ earlier) none h =
    let k = puts old h.0 earlier none.1 h.1 in
    let more : List Packet = outs h.0.layer (lower h.0.own c) in (
      k.0 ++ more,
      record {
        behind = queue_then h.0.layer new.layer (lower h.0.own c) (none_taken h.0.own c none.0) h.2.under
            ∙ ap (λ (r : List Packet). r ++ more) k.1.behind ∙ append_assoc old.layer.queue k.0 more;
        any = λ q. (
          waits (q ++ k.0) h.0,
          k.1.any q,
          subst (λ (r : List Packet). X.Step (waits (q ++ k.0) h.0) c (waits r new)) (append_assoc q k.0 more)
              (step_waits (q ++ k.0) h.0 new c none.0 h.2),
        );
      },
    )

-- nothing is kept that is no longer live
pub neat_chain : (old new : X.State) (calls : List Call) → IsNeat old.layer → X.Exchanged old calls new
    → IsNeat new.layer
neat_chain old new [] neat h = subst (λ (s : X.State). IsNeat s.layer) (sym h) neat
neat_chain old new (c ∷ earlier) neat h = neat_steps h.0.layer new.layer (lower h.0.own c)
    (neat_chain old h.0 earlier neat h.1) h.2.under

-- calls that have their rows, over a layer that answered what they ask
pub chain_of : (o : Own) (old new : L.State) (calls : List Call) → Rows o after IsRight calls
    → Steps old (asked_by o after lower calls) new
    → X.Exchanged (record { own = o; layer = old }) calls (record { own = sum_of o after calls; layer = new })
chain_of o old new [] rows h = ap (λ (l : L.State). record { own = o; layer = l }) h
chain_of o old new (c ∷ calls) rows h =
    let k = steps_split old new (lower (sum_of o after calls) c) (asked_by o after lower calls) h in (
      record { own = sum_of o after calls; layer = k.0 },
      chain_of o old k.0 calls rows.1 k.1,
      record { right = rows.0; own_is = refl; under = k.2 },
    )
