use Rattle.std.proofs.Common.{arith, rules}
use Rattle.coap_pcap.proofs.Steps.{ipv6_behind}
use Rattle.coap_pcap.proofs.ip.ipv6_body.Goals as goal

pub returns-clause-body : goal.returns-clause-body
returns-clause-body c =
    rw (ipv6_behind c.args.bytes.now c.behind_header-body.result.now c.version.result c.half_at-len.result (omega arith)
    c.version.ensures (search (rules, c.if-version-ne6.false)) c.half_at-len.ensures c.behind_header-body.ensures)
    c.behind_extensions.ensures
