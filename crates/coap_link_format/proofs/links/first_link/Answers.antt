use Rattle.std.proofs.Common.{◌≡◌, false, true, sym, ◌∙◌}
use Rattle.coap_link_format.specs.Places.{is_end}
use Rattle.coap_link_format.proofs.Lists.{open_place, other_byte, whole_link}
use Rattle.coap_link_format.proofs.links.first_link.Goals as goal

pub returns-then-not-is_end-clause-bad : goal.returns-then-not-is_end-clause-bad
returns-then-not-is_end-clause-bad c =
    open_place c.args.text.now c.split_at.result.0.now c.split_at.result.1.now c.walk-len.result
    c.walk-len.ensures.walked
    c.split_at.ensures.front c.split_at.ensures.back c.split_at.ensures.by_index.0
    (let h : is_end c.walk-len.result.1 ≡ false = cc in h)

pub returns-in-Some-clause-ok : goal.returns-in-Some-clause-ok
returns-in-Some-clause-ok c =
    whole_link c.args.text.now c.split_at.result.0.now c.split_at.result.1.now c.walk-len.result
    c.walk-len.ensures.walked
    c.split_at.ensures.front c.split_at.ensures.back c.split_at.ensures.by_index.0
    (let h : is_end c.walk-len.result.1 ≡ true = cc in h) _ c.in-Some.ensures.some

pub returns-in-None-clause-bad : goal.returns-in-None-clause-bad
returns-in-None-clause-bad c =
    other_byte c.args.text.now c.split_at.result.0.now c.split_at.result.1.now c.walk-len.result
    c.walk-len.ensures.walked
    c.split_at.ensures.front c.split_at.ensures.back c.split_at.ensures.by_index.0 c.in-None.ensures.none
