-- The call of a run that times out is not answered smoothly.
use Rattle.std.proofs.Common.{arith}
use Rattle.coap_record.specs.Record.{entries_of}
use Rattle.coap_smooth.specs.SmoothAnswers.{EndByAnswers}
use Rattle.coap_smooth.specs.Young.{AreYoung}
use Rattle.coap_smooth.specs.SmoothRuns.{Unanswered}
use Rattle.coap_promise.specs.LegalRuns.{config}
use Rattle.coap_promise.proofs.Facts.Witness.TimesOut.Client as client
use Rattle.coap_promise.proofs.Facts.Witness.TimesOut.{timed_out, turns}

old : AreYoung config turns → ⊥
old h = let young = h.1.0 0 client.open_since in absurd (omega (arith, young))

without : EndByAnswers config (entries_of turns) → ⊥
without h = let answered = h.1.1.1.1.0 in absurd (cc answered)

pub unanswered : Unanswered
unfolding timed_out
unanswered = record {
  times_out = timed_out;
  old = old;
  without = without;
  unanswered = λ h. old h.young;
}
