-- What a fetch for a notification makes of the parts that it takes (RFC 7959, section 2.6).
use Rattle.std.specs.Prelude.{ℕ, ◌==◌, Option, Some, None, ◌++◌, if◌then◌else◌}
use Rattle.coap_codec.specs.Message.{Message}
use Rattle.coap_block.specs.declared.fetch_step.FetchRefusal.TheVariants as refusal
use Rattle.coap_block.specs.declared.fetch_verdict.Verdict.{Verdict}
use Rattle.coap_block.specs.declared.fetch_verdict.Verdict.TheVariants as verdict
use Rattle.coap_block.specs.FetchStep.{FetchState}
use Rattle.coap_block.specs.FetchStep as F
use Rattle.coap_client.specs.Trace.{Value, Reported}
use Rattle.coap_client.specs.Own.{Fetching, Notified, Own}
use Rattle.coap_client.specs.Observations.{with_rest}
use Rattle.coap_client.specs.Responses.{content, tag_in, format_in, part}
use Rattle.coap_client.specs.Effects.{Effect, runs, ends, of}

-- What the part means that a fetch took: the whole representation, which is reported; or what is still to be fetched;
-- or neither, where the part is refused or has another ETag. Nothing is reported of that, and no fetch begins anew.

abbrev pub value : ℕ → ℕ → FetchState → Message → Verdict → Option Reported
value number sequence f m verdict.Done = of number (Value sequence (tag_in m) (format_in m) (f.gathered ++ m.payload))
value number sequence f m _ = None

abbrev pub rest : ℕ → FetchState → Message → Verdict → Option Notified
rest sequence f m (verdict.Ask num szx) = Some
    (record { sequence = sequence; fetch = F.after f (tag_in m) m.payload (verdict.Ask num szx) })
rest sequence f m _ = None

-- The answer to a fetch: the next block is asked for, or the fetch is over.

abbrev pub fetch_over : ℕ → Option Reported → Own → Effect
fetch_over number report s = ends report (record s { observations = with_rest number None s.observations })

abbrev pub fetch_by : ℕ → Notified → Own → Message → Verdict → Effect
fetch_by number n s m (verdict.Ask num szx) =
    runs (Fetching number) (record s {
      observations =
          with_rest number (rest n.sequence n.fetch m (verdict.Ask num szx)) s.observations;
    })
fetch_by number n s m v = fetch_over number (value number n.sequence n.fetch m v) s

abbrev pub fetch_answered : ℕ → Option Notified → Own → Message → Effect
fetch_answered number None s m = ends None s
fetch_answered number (Some n) s m = fetch_by number n s m
    (if m.code == content then part n.fetch m else verdict.Refuse refusal.BadBlock)
