use Rattle.std.proofs.Common.{◌≡◌, ◌∙◌, Err, None, Some, subst, sym}
use Rattle.coap_resource.specs.Entries.{content_of}
use Rattle.coap_resource.specs.declared.refusal.StoreRefusal.{StoreRefusal}
use Rattle.coap_resource.specs.declared.refusal.StoreRefusal.TheVariants.{Memory}
use Rattle.coap_common.specs.declared.usual.TheConstants.{TEXT_PLAIN as text_plain}
use Rattle.coap_server.specs.Led.{Step}
use Rattle.coap_server.specs.Object.Shown.{state_of}
use Rattle.coap_server.specs.Trace.{Gets, Sets}
use Rattle.coap_serving.proofs.missing_paths.hold_missing.Goals as goal

pub returns-in-Ok-clause-holds : goal.returns-in-Ok-clause-holds
returns-in-Ok-clause-holds g c = (
  None,
  subst (λ e. Step (state_of content_of e) (Gets c.args.path.now None) (state_of content_of e)) c.end.ensures
      (c.is_held.ensures.none c.if-is_held.false),
  (c.in-Ok.field-0, _, c.in-Ok.ensures.answered (λ e. cc e)),
)

pub returns-in_ok-why-in-Err-clause-refused : goal.returns-in_ok-why-in-Err-clause-refused
returns-in_ok-why-in-Err-clause-refused g c =
    let same = c.in_ok-why-in-Err.ensures.same in
    let old = state_of content_of c.args.journaled.now.end in
    let new = state_of content_of c.set.new.self.end in (
      subst (λ e. Step (state_of content_of e) (Gets c.args.path.now None) (state_of content_of e)) c.end.ensures
          (c.is_held.ensures.none c.if-is_held.false),
      new.own.store,
      subst (λ (w : StoreRefusal). Step old
          (Sets c.args.at.0 c.args.path.now (Some text_plain) c.args.body.now (Err w) new.own.store) new) (sym same)
          (c.in-Err.ensures.answered (λ e.
          let is : c.in-Err.refusal ≡ Memory = cc e in c.in_ok-why-in-Err.ensures.other (same ∙ is))),
    )
