use Rattle.std.proofs.Common.{Some, ◌∙◌, ap, refl, sym, subst}
use Rattle.coap_types.specs.declared.endpoint.Endpoint.{Endpoint}
use Rattle.knifesilver.specs.Fresh.{IsFreshClient}
use Rattle.knifesilver.specs.declared.held.Held.TheVariants.{Client as ClientHeld}
use Rattle.knifesilver.proofs.client.made.ks_client_new.Goals as goal

pub returns-in-Ok-new-clause-made : goal.returns-in-Ok-new-clause-made
returns-in-Ok-new-clause-made c = λ _.
    let server = c.args.server.now in
    let of : Endpoint = record { ip = server.ip; port = server.port } in (
      refl,
      subst (IsFreshClient of c.args.config.now c.args.seed.now.word)
          (sym (c.put.ensures ∙ ap Some c.in-Ok-new.ensures.ok))
          (subst (λ of. IsFreshClient of c.args.config.now c.args.seed.now.word (Some (ClientHeld c.in-Ok.client)))
          c.endpoint.ensures c.in-Ok.ensures.made),
    )
