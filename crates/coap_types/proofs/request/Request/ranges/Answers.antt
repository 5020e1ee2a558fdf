use Rattle.std.proofs.Common.{subst}
use Rattle.coap_types.specs.Bytes.{AreBytes}
use Rattle.coap_types.proofs.request.Request.ranges.Goals as goal

pub returns : goal.returns
returns g c = record {
  path = record { bounds = c.segments-path.ensures.bounds; bytes = c.segments-path.ensures.bytes };
  format = c.show_16_bits.ensures;
  body = subst AreBytes c.as_slice.ensures c.show_bytes.ensures;
  etags = record { few = c.as_slice-etags.ensures.few; each = c.as_slice-etags.ensures.each };
  if_match = record { few = c.as_slice-if_match.ensures.few; each = c.as_slice-if_match.ensures.each };
  accept = c.show_16_bits-2.ensures;
}
