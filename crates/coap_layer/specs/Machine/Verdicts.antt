-- What becomes of a message by the verdict on it (RFC 7252, sections 4.2, 4.3 and 4.5).
use Rattle.coap_codec.specs.Message.{Message}
use Rattle.coap_layer.specs.declared.arrival.Verdict.{Verdict}
use Rattle.coap_layer.specs.declared.arrival.Verdict.TheVariants as verdict
use Rattle.coap_layer.specs.Trace.{Disposition, Dropped, Replayed, Rejected, Request, Response, Acked, Reset}
use Rattle.coap_layer.specs.Trace.{Unmatched}

abbrev pub answer_by : Verdict → Message → Disposition
answer_by verdict.Reject m = Rejected
answer_by verdict.Drop m = Dropped
answer_by verdict.TakeAck m = Acked m.id
answer_by verdict.TakeReset m = Reset m.id
answer_by verdict.PassReset m = Unmatched m.id
answer_by verdict.Replay m = Replayed
answer_by (verdict.HandUpRequest kept) m = Request m kept
answer_by verdict.HandUpResponse m = Response m
