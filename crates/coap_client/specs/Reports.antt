-- What a client reports of a response to a call, and of its absence (RFC 7252, sections 5.8, 5.9 and 5.2.2).
use Rattle.std.specs.Prelude.{ℕ, ◌==◌, ◌||◌, Bool, if◌then◌else◌}
use Rattle.coap_types.specs.declared.request.Method.{Method}
use Rattle.coap_types.specs.declared.request.Method.TheVariants.{Post, Put}
use Rattle.coap_block.specs.declared.fetch_step.FetchRefusal.{FetchRefusal}
use Rattle.coap_block.specs.declared.fetch_step.FetchRefusal.TheVariants as refusal
use Rattle.coap_exchange.specs.declared.asker.Event.{Event}
use Rattle.coap_exchange.specs.declared.asker.Event.TheVariants as event
use Rattle.coap_client.specs.Trace.{Report, Done, Failed, Timeout, Reset, NoResponse, Changed}
use Rattle.coap_client.specs.Trace.{BadBlock}
use Rattle.coap_client.specs.Trace.{NoTag, TooLarge}
use Rattle.coap_client.specs.Responses.{created, deleted, changed}

-- success of a POST, a PUT and a DELETE
abbrev pub is_success : Method → ℕ → Bool
is_success Post code = (code == created) || (code == changed)
is_success Put code = (code == created) || (code == changed)
is_success method code = code == deleted

abbrev pub done : Method → ℕ → Report
done method code = if is_success method code then Done code else Failed code

-- why the parts are no body
abbrev pub refused : FetchRefusal → Report
refused refusal.Changed = Changed
refused refusal.BadBlock = BadBlock
refused refusal.NoTag = NoTag
refused refusal.TooLarge = TooLarge

-- what the exchange came to, at a tick
abbrev pub lapse : Event → Report
lapse event.Timeout = Timeout
lapse event.Reset = Reset
lapse _ = NoResponse
