use Rattle.std.proofs.Common.{refl, sym, ◌∙◌, ap, [], ◌∷◌, ◌++◌, append_assoc}
use Rattle.coap_layer.specs.Trace.{Packet}
use Rattle.coap_journaled.specs.Journal.{shown}
use Rattle.coap_journaled.specs.Runs.{end_gives}
use Rattle.coap_kept.proofs.Dropped.{counted_on, drops_snoc, few_first, left_on, none_first}
use Rattle.coap_kept.proofs.draining.drain.Goals as goal

pub loop-datagram-init : goal.loop-datagram-init
loop-datagram-init g c = (
  [],
  record { drops = refl; parts = refl; few = none_first; counted = λ none. none; left = refl },
)

pub loop-datagram-preserved : goal.loop-datagram-preserved
loop-datagram-preserved g c =
    let ps = c.loop-datagram.invariant.0 in
    let so_far = c.loop-datagram.invariant.1 in
    let p : Packet = c.in-Some.datagram in
    let gave = c.in-Some.ensures.some in
    let begun = shown g.E.End.state c.args.journaled.now in
    let before = shown g.E.End.state c.loop-datagram.journaled in
    let after = shown g.E.End.state c.next_out.new.self in
    let few = few_first ps _ _ so_far.parts so_far.few c.next_out.ensures.few in (
      ps ++ p ∷ [],
      record {
        drops = drops_snoc (end_gives g.E.End.waiting g.E.End.gives) begun before ps p after so_far.drops gave.1.0
            gave.1.1;
        parts = so_far.parts ∙ (ap (λ ws. ps ++ ws) gave.0 ∙ sym (append_assoc ps (p ∷ []) _));
        few = λ _. few;
        counted = λ none. counted_on _ _ ps p _ _ (so_far.parts ∙ ap (λ ws. ps ++ ws) gave.0) few
            (so_far.counted none) (ap (λ j. j.taken) gave.1.0.left);
        left = left_on begun before after so_far.left gave.1.0;
      },
    )
