use Rattle.std.proofs.Common.{◌∙◌, Option, Some, ap, rules, sym, subst}
use Rattle.knifesilver.specs.Journals.{IsReplayed}
use Rattle.knifesilver.specs.declared.held.Held.{Held}
use Rattle.knifesilver.specs.declared.held.Held.TheVariants.{Server}
use Rattle.knifesilver.proofs.AsReplayed.{as_replayed}
use Rattle.knifesilver.proofs.NotReplayed.{not_replayed}
use Rattle.knifesilver.proofs.server.replaying.ks_server_replay.Goals as goal

pub returns-in-Ok-new-clause-made : goal.returns-in-Ok-new-clause-made
returns-in-Ok-new-clause-made c = λ _.
    let file = c.args.file.now in
    let opened = c.in-Ok.opened in
    let told = c.replayed.new.told in
    let replayed = c.in-Ok-replayed.ensures in
    let done = replayed.done in
    subst (λ (h : Option Held). IsReplayed file told h)
    (sym (c.put.ensures ∙ ap (λ (h : Held). Some h) c.in-Ok-new.ensures.ok))
    (as_replayed file told (Some (Server c.in-Ok-replayed.server)) opened.beginning opened.first opened.place
    opened.further.now opened.end opened.torn c.in-Ok.ensures.opened done.0 done.1 done.2 done.3 done.4 done.5 done.6
    done.7 replayed.end.0 replayed.end.1 replayed.notes)

pub returns-in-Err-replayed-clause-unreadable : goal.returns-in-Err-replayed-clause-unreadable
returns-in-Err-replayed-clause-unreadable c = λ is.
    let o = c.in-Ok.opened in
    not_replayed c.args.file.now o.beginning o.first o.place o.further.now o.end o.torn c.in-Ok.ensures.opened
    (c.in-Err-replayed.ensures.unread (search rules))
