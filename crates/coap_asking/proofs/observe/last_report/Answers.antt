use Rattle.std.proofs.Common.{◌∙◌, ◌+◌, ◌-◌, ◌^◌, ℕ, None, Some, ap, min, refl, sym, arith}
use Rattle.coap_client.specs.Object.Shown.{shown_report}
use Rattle.coap_asking.proofs.ObservedCalls.{observed_on, observed_value}
use Rattle.coap_asking.proofs.WatchedCalls.{valued}
use Rattle.coap_asking.proofs.observe.last_report.Goals as goal

pub returns-in_default-clause-more : goal.returns-in_default-clause-more
returns-in_default-clause-more g c = λ options begin s h.
    observed_on options begin c.args.id.0 c.args.values.now s _ _ h c.in_default.ensures.none

pub returns-then-branch-clause-more : goal.returns-then-branch-clause-more
returns-then-branch-clause-more g c = λ options begin s h.
    observed_value options begin c.args.id.0 c.args.values.now c.saturating_add.result (shown_report c.in-Some.report) s
    _ _ h
    c.in-Some.ensures.some (sym c.in_ok-print_value.ensures.value ∙ c.if-branch.true)
    (omega (arith, c.saturating_add.ensures))

pub returns-in_default-clause-counted : goal.returns-in_default-clause-counted
returns-in_default-clause-counted g c = (None, c.in_default.ensures.none, tt, refl, refl)

pub returns-then-branch-clause-counted : goal.returns-then-branch-clause-counted
returns-then-branch-clause-counted g c =
    let report = shown_report c.in-Some.report in
    let is = sym c.in_ok-print_value.ensures.value ∙ c.if-branch.true in (
      Some report,
      c.in-Some.ensures.some,
      is,
      c.saturating_add.ensures
          ∙ ap (λ (k : ℕ). min (c.args.values.now + k) (2 ^ 64 - 1)) (sym (valued report is)),
      c.in_ok-print_value.ensures.written,
    )
