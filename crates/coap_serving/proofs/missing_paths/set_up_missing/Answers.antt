use Rattle.std.proofs.Common.{inl, inr, subst, List, ℕ}
use Rattle.coap_arguments.specs.declared.orders.Hold.{Hold}
use Rattle.coap_resource.specs.Entries.{content_of}
use Rattle.coap_server.specs.Object.Shown.{state_of}
use Rattle.coap_serving.specs.Kept.{HoldsMissing, RefusesAmong, RefusesMissing}
use Rattle.coap_common.proofs.Facts.{none_is, some_is}
use Rattle.coap_serving.proofs.SettingUpCalls.{where_some}
use Rattle.coap_serving.proofs.missing_paths.set_up_missing.Goals as goal

pub returns-in-Some-clause-refused : goal.returns-in-Some-clause-refused
returns-in-Some-clause-refused g c =
    let at = c.args.at.0 in
    let old = state_of content_of c.args.journaled.now.end in
    let new = state_of content_of c.hold_missing.new.journaled.end in (
      c.in-Ok.path,
      c.in-Ok.ensures.ok.0,
      inl (subst (λ (body : List ℕ). RefusesMissing at c.in-Ok.path body c.in-Some.refusal old new)
          c.as_bytes.ensures.value (some_is _ _ c.in-Some.refusal c.in_ok-refusal.ensures.refused c.in-Some.is)),
    )

pub returns-clause-refused : goal.returns-clause-refused
returns-clause-refused g c =
    let at = c.args.at.0 in
    let old = state_of content_of c.args.journaled.now.end in
    let between = state_of content_of c.hold_missing.new.journaled.end in
    let new = state_of content_of c.hold_each.new.journaled.end in
    where_some c.hold_each.result _ _
    (λ why h. (
      c.in-Ok.path,
      c.in-Ok.ensures.ok.0,
      inr (
        between,
        subst (λ (body : List ℕ). HoldsMissing at c.in-Ok.path body old between) c.as_bytes.ensures.value
            (none_is _ _ c.in_ok-refusal.ensures.holds c.in_default-2.is),
        subst (λ (hs : List Hold). RefusesAmong at hs why between new) c.as_slice.ensures.value h,
      ),
    ))
    c.hold_each.ensures.refused
