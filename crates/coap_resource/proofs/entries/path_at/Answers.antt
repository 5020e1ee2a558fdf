use Rattle.std.proofs.Common.{◌∙◌, sym, ap, slice_get, option_copied}
use Rattle.std.proofs.lemmas.Iterator.{YieldsList-from_slice}
use Rattle.std.proofs.lemmas.Iterator.Consumers.{nth_from_yields_List}
use Rattle.coap_resource.proofs.EntryLemmas.{none_there, path_there}
use Rattle.coap_resource.proofs.entries.path_at.Goals as goal

pub returns-in-None : goal.returns-in-None
returns-in-None g c =
    let at = nth_from_yields_List c.nth.result c.nth.new.self c.args.place c.nth.ensures.ran
    (YieldsList-from_slice c.args.entries.now cc) in
    none_there c.args.entries.now c.args.place (ap (λ r. option_copied r) (sym c.in-None.is) ∙ at)

pub returns-in-Some : goal.returns-in-Some
returns-in-Some g c =
    let at = nth_from_yields_List c.nth.result c.nth.new.self c.args.place c.nth.ensures.ran
    (YieldsList-from_slice c.args.entries.now cc) in
    path_there c.args.entries.now c.args.place c.in-Some.entry.now (ap (λ r. option_copied r) (sym c.in-Some.is) ∙ at)
