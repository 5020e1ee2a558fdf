use Rattle.std.proofs.Common.{◌≤◌, ◌-◌, length, ap, ◌∙◌, arith}
use Rattle.coap_names.proofs.Lists.{put_new}
use Rattle.coap_names.proofs.tables.put_first.Goals as goal

pub returns-in-Ok-clause-ok : goal.returns-in-Ok-clause-ok
returns-in-Ok-clause-ok g c =
    let fits : length c.args.idle.now.entries ≤ c.args.idle.now.cap - 1 =
    omega (arith, c.len-held.ensures.fits, c.len-held.ensures.len, c.requires.cap) in
    ap (λ l. l.entries) c.in-Ok.ensures.entries
    ∙ put_new g.K.PartialEq.eq c.args.idle.now c.args.key c.args.place c.requires.unknown fits
