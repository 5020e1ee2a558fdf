use Rattle.std.proofs.Common.{◌∙◌, ap, slice_get, List, ℕ}
use Rattle.std.proofs.lemmas.Iterator.Consumers.{nth_from_yields_List}
use Rattle.std.proofs.lemmas.Iterator.Consumers.{YieldsList-from_rest}
use Rattle.coap_resource.proofs.MapLemmas.{mapped_paths}
use Rattle.coap_resource.proofs.map_entries.path_at.Goals as goal

pub returns : goal.returns
returns g c =
    nth_from_yields_List c.nth.result c.nth.new.self c.args.place c.nth.ensures.ran
    (YieldsList-from_rest c.keys.result cc)
    ∙ ap (λ (paths : List (List (List ℕ))). slice_get paths c.args.place)
    (c.keys.ensures.rest ∙ mapped_paths c.args.map.now.entries)
