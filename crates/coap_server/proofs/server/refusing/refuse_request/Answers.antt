use Rattle.std.proofs.Common.{Option, refl, subst, sym}
use Rattle.std.specs.Option.{option_map}
use Rattle.coap_types.specs.declared.message.Code.{Code}
use Rattle.coap_layer.specs.Trace as L
use Rattle.coap_exchange.specs.AnswererLaw as X
use Rattle.coap_server.specs.Refusing.{refusing}
use Rattle.coap_server.proofs.server.refusing.refuse_request.Goals as goal

pub returns-in-None-clause-asks : goal.returns-in-None-clause-asks
returns-in-None-clause-asks g c =
    let x = c.args.parts.now.exchanges.state in (
      L.Nothing,
      subst (λ (r : Option Code). X.Exchanged x
          (refusing c.args.asked.now (option_map (λ (k : Code). k.0) r) L.Nothing) x) (sym c.in-None.is) refl,
    )
