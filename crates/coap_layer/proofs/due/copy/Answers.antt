use Rattle.std.proofs.Common.{◌≡◌, ◌*◌, nat_le, nat_lt, ◌&&◌, arith, subst}
use Rattle.std.specs.List.{list_any}
use Rattle.coap_types.specs.declared.transmission.TheConstants.{MAX_RETRANSMIT as max_retransmit}
use Rattle.coap_layer.specs.BackOff.{factors}
use Rattle.coap_layer.specs.Words.{Open}
use Rattle.coap_layer.proofs.Copies.FirstMoments.{copy_first}
use Rattle.coap_layer.proofs.due.copy.Goals as goal

pub returns-in-Some : goal.returns-in-Some
returns-in-Some g c =
    let con : Open = record {
      to = c.args.c.now.to;
      id = c.args.c.now.id.0;
      bytes = c.args.c.now.bytes.items;
      timeout = c.args.c.now.timeout;
      first = c.args.c.now.first.0;
      last = c.args.last.0;
    } in
    copy_first con c.args.from.0 c.in-Some.wait c.after.result
    (λ gone. subst (λ s. list_any (λ k. nat_lt s (con.timeout * k) && nat_le (con.timeout * k) gone)
    (factors max_retransmit) ≡ nat_le c.in-Some.wait gone) c.since-sent.ensures (c.in-Some.ensures gone))
    (omega (arith, c.if-elapsed-wait.true, c.since-elapsed.ensures)) c.if-wait-le-LAST_RETRANSMISSION_MS.true
    c.after.ensures
