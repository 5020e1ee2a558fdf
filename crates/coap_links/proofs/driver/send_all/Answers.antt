use Rattle.std.proofs.Common.{rules, ap, sym, ◌∙◌, ◌+◌, [], ◌∷◌, ◌++◌}
use Rattle.std.proofs.lemmas.List.{append_assoc}
use Rattle.coap_layer.specs.Trace.{Packet}
use Rattle.coap_links.proofs.SendChain.{SendsAll-snoc, few_along, length-snoc}
use Rattle.coap_links.proofs.driver.send_all.Goals as goal

pub loop-datagram-preserved : goal.loop-datagram-preserved
loop-datagram-preserved g c =
    let so_far = c.loop-datagram.invariant.1 in
    let p : Packet = c.in-Some.datagram in (
      c.loop-datagram.invariant.0 ++ p ∷ [],
      record {
        chain = SendsAll-snoc g.E.End.gives g.L.Link.sends _ _ _ _ _ p _ _ so_far.chain (search rules) (search rules);
        parts = search (rules, append_assoc);
        count = ap (λ n. n + 1) so_far.count ∙ sym (length-snoc c.loop-datagram.invariant.0 p);
        broken = search rules;
        few = λ _. few_along c.loop-datagram.sent c.loop-datagram.invariant.0 _ _ so_far.count so_far.parts so_far.few
            (search rules);
      },
    )
