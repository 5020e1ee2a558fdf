use Rattle.std.proofs.Common.{◌≡◌, IfOk, Bool, Err, Ok, Result, inr, rules, subst, sym, true}
use Rattle.coap_resource.specs.Entries.{content_of}
use Rattle.coap_server.specs.Object.Shown.{state_of}
use Rattle.coap_kept.specs.Kept.{IsRenewedIf}
use Rattle.coap_kept.specs.Revival.{IsRevived}
use Rattle.coap_kept.proofs.GoingOn.{if_ok}
use Rattle.coap_kept.proofs.keeping.replayed_or_renewed.Goals as goal

-- what holds of an answer, both of it
both_of : {X E : Type 0} (P Q : X → Type 0) (r : Result X E) → IfOk r P → IfOk r Q → IfOk r (λ x. P x × Q x)
both_of P Q (Ok x) p q = (p, q)
both_of P Q (Err e) p q = tt

pub returns-clause-made : goal.returns-clause-made
returns-clause-made g c =
    let keeping = c.args.keeping.now in
    let old = c.in_ok-old.old in
    let there = c.args.journal.now.bytes.items in
    let bytes = c.renew-new.new.journal.bytes.items in
    let revived = subst (λ v. IsRevived v keeping.wishes old.beginning old.replayed (state_of content_of old.server))
    (search rules) c.in_ok-old.ensures.revived in
    let renews : keeping.renews ≡ true = search rules in
    if_ok c.renew-new.result (λ m both. record {
      beginning = m.revived.beginning;
      revived = both.0.revived;
      renewed = subst (λ (b : Bool). IsRenewedIf b keeping m.silent there bytes m.revived.beginning
          m.revived.replayed (state_of content_of m.revived.server)) (sym renews)
          (old.beginning, old.replayed, _, revived, both.0, both.1);
    }) (both_of _ _ c.renew-new.result c.renew-new.ensures.from c.renew-new.ensures.long)

pub returns-clause-timed : goal.returns-clause-timed
returns-clause-timed g c = if_ok c.renew-new.result (λ m passes. inr passes) c.renew-new.ensures.timed
