use Rattle.coap_many.specs.Clients.{world_of}
use Rattle.coap_many.specs.Clocks.{seen_at}
use Rattle.coap_many.specs.Place.{place}
use Rattle.coap_many.specs.View.{view}
use Rattle.coap_fair_many.proofs.OneClock.{one_clock}
use Rattle.coap_fair_many.proofs.laws.fair_many_law.Goals as goal

pub returns : goal.returns
returns c clocks config events turns run legal one ms k client fair =
    let v = c.view_law.ensures.runs clocks config events turns run legal k client in
    let two = seen_at clocks k.at (place config k.at turns) in
    let seen = view config k.at turns in
    c.fair_law.ensures ms (world_of config k) _ seen v.seen.made
    (one_clock two (λ n. one k client (place config k.at turns n)) (world_of config k) seen v.legal) fair
