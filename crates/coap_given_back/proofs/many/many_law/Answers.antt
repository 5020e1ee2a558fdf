use Rattle.coap_given_back.proofs.AtAnyTime.{at_any_time}
use Rattle.coap_given_back.proofs.GivenBack.InRuns.{given_back, facts}
use Rattle.coap_given_back.proofs.GivenBack.InTime.{in_time}
use Rattle.coap_many.specs.Clients.{world_of}
use Rattle.coap_many.specs.Clocks.{seen_at}
use Rattle.coap_many.specs.Place.{place}
use Rattle.coap_many.specs.View.{view}
use Rattle.coap_given_back.proofs.many.many_law.Goals as goal

pub returns : goal.returns
returns c clocks config events turns run legal late k client =
    let v = c.view_law.ensures.runs clocks config events turns run legal k client in
    let two = seen_at clocks k.at (place config k.at turns) in
    let world = world_of config k in
    let seen = view config k.at turns in
    given_back two world late (λ t law. in_time world.addresses.server world.client_sizes world.client_setup
    (λ u lawful. c.client_law.ensures.answered world.addresses.server world.client_sizes world.client_setup u
    lawful) t late law) seen (facts two world late _ seen v.seen.made (at_any_time two world seen v.legal))
