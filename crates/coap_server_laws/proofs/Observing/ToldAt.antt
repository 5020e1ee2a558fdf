-- What is told is told at the moment of the call.
use Rattle.std.proofs.Common.{◌≡◌, ℕ, Bool, true, false, Option, Some, None, List, ◌∷◌, ap, sym}
use Rattle.coap_types.specs.declared.endpoint.Endpoint.{Endpoint}
use Rattle.coap_resource.specs.Content.{Content, Held}
use Rattle.coap_resource.specs.Limits.{Limits}
use Rattle.coap_resource.specs.Serves.{Question}
use Rattle.coap_exchange.specs.declared.answerer.Asked.{Asked}
use Rattle.coap_exchange.specs.declared.answerer.Due.TheVariants as due
use Rattle.coap_server.specs.Trace.{Own, Serves, Notifies, Call}
use Rattle.coap_server.specs.Trace.{Feeds, Ticks}
use Rattle.coap_server.specs.Observers.{registers}
use Rattle.coap_server.specs.Handling.{incoming, ticking, heard}
use Rattle.coap_server.specs.Law.{own_of}
use Rattle.coap_server.specs.Follows.Tells.{InCon, InReply, Telling, Way, telling, telling_of, tells, tells_if}
use Rattle.coap_server.specs.Follows.Tells.{way_of}
use Rattle.coap_server.specs.Plain.{by_plain}

by_held : (to : Endpoint) (token : List ℕ) (path : List (List ℕ)) (way : Way) (at : ℕ) (first : Bool) (o : Option Held)
    (x : Telling) → tells to token path way at first o ≡ Some x → x.at ≡ at
by_held to token path way at first None x h = absurd (cc h)
by_held to token path way at first (Some held) x h =
    let same : telling_of to token path way at first held ≡ x = cc h in sym (ap (λ (z : Telling). z.at) same)

by_answer : (b : Bool) (at : ℕ) (store : Content) (a : Asked) (q : Question) (way : Way) (x : Telling)
    → tells_if b at store a q way ≡ Some x → x.at ≡ at
by_answer true at store a q way x h = by_held a.from a.token q.path way at true (store.holds q.path) x h
by_answer false at store a q way x h = absurd (cc h)

module _ (limits : Limits) (szx : ℕ) (older : List Call) where
  abbrev own : Own
  own = own_of limits szx older

  pub told_at : (c : Call) (x : Telling) → telling own c ≡ Some x → x.at ≡ (own_of limits szx (c ∷ older)).clock
  told_at (Feeds now from bytes w up (Some p) (Serves q reply left) below) x h =
      let s : Own = heard own now (incoming own now from bytes up (Some p)) in
      by_answer (registers p.0 q reply s.observers) s.clock s.store p.0 q InReply x h
  told_at (Ticks now w below room (due.Ready a) passed (Serves q reply left) id answer) x h =
      let s : Own = heard own now (ticking own now below room (due.Ready a)) in
      by_answer (registers a q reply s.observers) s.clock s.store a q (InCon id) x h
  told_at (Ticks now w below room due.Idle passed (Notifies o reply) id answer) x h =
      let s : Own = heard own now (ticking own now below room due.Idle) in
      by_held o.to o.token o.path (way_of (by_plain s o) id) s.clock false (s.store.holds o.path) x h
  told_at _ x e = absurd (cc e)
