-- What a server tells in no CON of its own is the answer to a registration.
use Rattle.std.proofs.Common.{◌≡◌, ℕ, Bool, true, false, Option, Some, None, ap, sym, ◌∙◌}
use Rattle.coap_observe.specs.Observers.{Observer}
use Rattle.coap_resource.specs.Content.{Held}
use Rattle.coap_resource.specs.Serves.{Question, Reply}
use Rattle.coap_exchange.specs.declared.answerer.Asked.{Asked}
use Rattle.coap_exchange.specs.declared.answerer.Due.TheVariants as due
use Rattle.coap_server.specs.Follows.Tells.{InCon, InReply, Telling, Way, answer_tells, telling, telling_of, tells}
use Rattle.coap_server.specs.Follows.Tells.{tells_if, way_of}
use Rattle.coap_server.specs.Handling.{incoming, ticking, heard}
use Rattle.coap_server.specs.Observers.{registers}
use Rattle.coap_server.specs.Plain.{by_plain}
use Rattle.coap_server.specs.Trace.{Own, Serves, Notifies, Call, Feeds, Ticks}

answers_by : (s : Own) (a : Asked) (q : Question) (way : Way) (b : Bool) (x : Telling)
    → tells_if b s.clock s.store a q way ≡ Some x → x.registers ≡ true
answers_by s a q way false x h = absurd (cc h)
answers_by s a q way true x h = by (s.store.holds q.path) h
  where
    by : (o : Option Held) → tells a.from a.token q.path way s.clock true o ≡ Some x → x.registers ≡ true
    by None e = absurd (cc e)
    by (Some held) e =
        let same : telling_of a.from a.token q.path way s.clock true held ≡ x = cc e in
        sym (ap (λ (z : Telling). z.registers) same)

answers : (s : Own) (a : Asked) (q : Question) (reply : Reply) (way : Way) (x : Telling)
    → answer_tells s a q reply way ≡ Some x → x.registers ≡ true
answers s a q reply way x h = answers_by s a q way (registers a q reply s.observers) x h

notice_way : (s : Own) (o : Observer) (way : Way) (held : Option Held) (x : Telling)
    → tells o.to o.token o.path way s.clock false held ≡ Some x → x.way ≡ way
notice_way s o way None x h = absurd (cc h)
notice_way s o way (Some held) x h =
    let same : telling_of o.to o.token o.path way s.clock false held ≡ x = cc h in
    sym (ap (λ (z : Telling). z.way) same)

no_reply : (b : Bool) (id : ℕ) → way_of b id ≡ InReply → ⊥
no_reply true id h = absurd (cc h)
no_reply false id h = absurd (cc h)

pub reply_registers : (s : Own) (c : Call) (x : Telling) → telling s c ≡ Some x → x.way ≡ InReply → x.registers ≡ true
reply_registers s (Feeds now from bytes word up (Some p) (Serves q reply left) below) x h none =
    answers (heard s now (incoming s now from bytes up (Some p))) p.0 q reply InReply x h
reply_registers s (Ticks now word below room (due.Ready a) passed (Serves q reply left) id answer) x h none =
    answers (heard s now (ticking s now below room (due.Ready a))) a q reply (InCon id) x h
reply_registers s (Ticks now word below room due.Idle passed (Notifies o reply) id answer) x h none =
    let t = heard s now (ticking s now below room due.Idle) in
    let way = way_of (by_plain t o) id in
    absurd (no_reply (by_plain t o) id (sym (notice_way t o way (t.store.holds o.path) x h) ∙ none))
reply_registers s _ x h none = absurd (cc h)
