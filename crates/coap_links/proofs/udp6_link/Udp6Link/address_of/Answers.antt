use Rattle.std.proofs.Common.{rules, ◌≡◌, true, subst}
use Rattle.coap_links.specs.Addressing.{IsReachedAt, Told}
use Rattle.coap_links.specs.Sockets.{is_of_this_network}
use Rattle.coap_links.proofs.udp6_link.Udp6Link.address_of.Goals as goal

pub returns-then-is_name-clause-reached : goal.returns-then-is_name-clause-reached
returns-then-is_name-clause-reached g c =
    let told = Told g.T.Timekeeper.tells c.args.self.now.time c.now-now.new.self.time in
    let named : true ≡ is_of_this_network c.args.to.ip = search rules in
    subst (λ b. IsReachedAt g.L.Lender.is_lent told b c.args.to c.address_for.result) named (
      c.now-now.result.0,
      c.sent.result,
      c.now-now.ensures.told,
      c.sent.ensures,
      c.address_for.ensures,
    )
