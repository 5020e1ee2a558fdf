use Rattle.std.proofs.Common.{◌<◌, ℕ, List, length, subst}
use Rattle.std.specs.Prelude.{◌^◌}
use Rattle.coap_codec.specs.Options.{Options}
use Rattle.coap_client.proofs.Facts.Calls.AskableRequests.{uncounted}
use Rattle.coap_client.proofs.client.request_options.exceed.Goals as goal

pub returns-in-None : goal.returns-in-None
returns-in-None c = uncounted c.args.options.now c.requires
    (subst (λ os. (bytes : List ℕ) → Options 0 bytes os → length bytes < 2 ^ 64 → ⊥) c.as_slice.ensures
    c.in-None.ensures.none)
