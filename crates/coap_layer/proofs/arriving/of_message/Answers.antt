use Rattle.std.proofs.Common.{◌≡◌}
use Rattle.coap_layer.proofs.Calls.JudgedByTable.{judged}
use Rattle.coap_layer.proofs.arriving.of_message.Goals as goal

pub returns : goal.returns
returns g c s bound arrived opened free =
    let id : c.id.result.0 ≡ c.args.message.now.id = c.id.ensures in
    let code = c.code.ensures in
    let known = c.known_of-known.ensures s bound arrived opened free in
    judged s c.args.at.0 c.args.from c.args.message.now c.kind-kind.result c.id.result c.classify.result
    c.known_of-known.result.outstanding c.known_of-known.result.remembered c.known_of-known.result.full
    c.known_of-known.result.free
    c.kind-kind.ensures id (cc (c.classify.ensures c.args.message.now, c.of.ensures, code))
    known.outstanding known.remembered known.full known.free
