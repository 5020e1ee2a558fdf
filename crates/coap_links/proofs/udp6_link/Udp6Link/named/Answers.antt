use Rattle.std.proofs.Common.{subst, sym}
use Rattle.coap_links.specs.Addressing.{IsNamed, Told}
use Rattle.coap_links.proofs.udp6_link.Udp6Link.named.Goals as goal

pub returns-in-Six-clause-named : goal.returns-in-Six-clause-named
returns-in-Six-clause-named g c =
    let told = Told g.T.Timekeeper.tells c.args.self.now.time c.now-now.new.self.time in
    subst (λ s. IsNamed g.L.Lender.is_lent told s c.name_of.result) (sym c.in-Six.is) (
      c.now-now.result.0,
      c.now-now.ensures.told,
      c.name_of.ensures.named,
      c.name_of.ensures.name,
    )
