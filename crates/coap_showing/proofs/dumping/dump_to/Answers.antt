use Rattle.std.proofs.Common.{◌≡◌, ◌∙◌, ◌++◌, ℕ, List, IfSome, ap, arith, inl, refl, subst}
use Rattle.std.specs.Io.BufRead.{strip_last, take_through}
use Rattle.coap_showing.specs.Dumps.{IsLineStatus}
use Rattle.coap_showing.proofs.DumpedLines.{at_end, begun, goes_on, of_line, one_of, some_read}
use Rattle.coap_showing.proofs.dumping.dump_to.Goals as goal

pub loop-number-init : goal.loop-number-init
loop-number-init g c = record { kinds = inl refl; worst = begun (g.I.Read.remaining c.args.input.now) }

pub loop-number-preserved : goal.loop-number-preserved
loop-number-preserved g c =
    let bytes = c.read_until.new.buf.items in
    let status = c.in_ok-status.status in
    let line = c.without_end.ensures ∙ ap (λ (b : List ℕ). strip_last 13 (strip_last 10 b)) c.as_slice.ensures.value in
    let one = subst (λ (l : List ℕ). IsLineStatus l status) line c.in_ok-status.ensures in
    record {
      kinds = one_of _ _ _ c.loop-number.invariant.kinds (of_line _ status one) c.worse-worst.ensures.one_of;
      worst = goes_on (g.I.Read.remaining c.args.input.now) _ _ _ status bytes
          (some_read bytes c.in-Ok.field-0 (omega (arith, c.in-Ok.ensures.ok, c.new-line.ensures.len))
          (λ none. absurd (omega (arith, none, c.in-Ok.field-0-test))))
          (subst (λ (old : List ℕ). IfSome (g.I.Read.remaining c.loop-number.input)
          (λ xs. bytes ≡ old ++ take_through 10 xs)) c.new-line.ensures.items c.in-Ok.ensures.bytes)
          c.in-Ok.ensures.rest one c.loop-number.invariant.worst _ c.worse-worst.ensures.most;
    }

pub returns-in-Ok-eq0-clause-worst : goal.returns-in-Ok-eq0-clause-worst
returns-in-Ok-eq0-clause-worst g c =
    at_end _ _ _ (c.in-Ok-eq0.ensures.end (omega (arith, c.in-Ok-eq0.field-0-test))) c.loop-number.invariant.worst
