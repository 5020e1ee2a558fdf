use Rattle.std.proofs.Common.{inl, inr}
use Rattle.coap_arguments.proofs.ask_orders.ask_at_port.Goals as goal

-- PORT is neither a number in range nor a URI
pub returns-in_default : goal.returns-in_default
returns-in_default c =
    let port = c.args.port.now in (
      port,
      c.requires.port,
      λ n is. inr
          (elim is [
            | inl number ↦ c.in_default.ensures n number
            | inr uri ↦ absurd (c.requires.words port uri.0 (c.requires.port, uri.1))
          ]),
    )
