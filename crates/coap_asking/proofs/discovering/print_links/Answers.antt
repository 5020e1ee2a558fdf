use Rattle.std.proofs.Common.{refl}
use Rattle.coap_link_format.specs.declared.links.Link.{Link}
use Rattle.coap_asking.proofs.LinkTexts.{bad_printed, bad_reads, both_none, links_on, where_none}
use Rattle.coap_common.proofs.Facts.{nothing_written}
use Rattle.coap_asking.proofs.discovering.print_links.Goals as goal

pub loop-link-init : goal.loop-link-init
loop-link-init g c = where_none c.args.json (nothing_written (g.W.Write.contents c.args.out.now))

pub loop-link-preserved : goal.loop-link-preserved
loop-link-preserved g c =
    both_none c.args.json
    (links_on (λ (k : Link). k.text.now) c.deref-link-items.result.now c.loop-link.link-index _ _ refl
    c.loop-link-test.true _ _ _)
    c.loop-link.invariant c.in_ok-write_link-in-Ok.ensures.words

pub returns-in-Err-clause-reads : goal.returns-in-Err-clause-reads
returns-in-Err-clause-reads g c =
    bad_reads c.args.text.now _ _ c.links_of.result c.in-Err.refusal c.in-Err.is c.links_of.ensures.bad
    c.tell_bad.result c.tell_bad.ensures

pub returns-in-Err-clause-printed : goal.returns-in-Err-clause-printed
returns-in-Err-clause-printed g c =
    where_none c.args.json
    (bad_printed c.args.text.now _ _ c.links_of.result c.in-Err.refusal c.in-Err.is c.links_of.ensures.bad
    c.tell_bad.result c.tell_bad.ensures)
