use Rattle.coap_commands.proofs.PairCalls.{pair_began, pair_ends}
use Rattle.coap_commands.proofs.pair.pair_over.Goals as goal

pub returns-clause-ends : goal.returns-clause-ends
returns-clause-ends g c =
    pair_ends _ _ _ c.address-address.result c.largest_szx.result c.args.limit c.args.word c.args.remembered
    c.args.path.now
    c.args.body.now c.fresh_client-client.result c.put_and_get-ended.result c.address-address.ensures
    c.largest_szx.ensures
    c.fresh_client-client.ensures c.put_and_get-ended.ensures

pub returns-clause-pairs : goal.returns-clause-pairs
returns-clause-pairs g c =
    pair_began _ _ _ c.address-address.result c.largest_szx.result c.args.limit c.args.word c.args.remembered
    c.args.path.now
    c.args.body.now c.fresh_client-client.result c.put_and_get-ended.result c.address-address.ensures
    c.largest_szx.ensures
    c.fresh_client-client.ensures c.put_and_get-ended.ensures
