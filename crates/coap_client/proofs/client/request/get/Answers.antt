use Rattle.std.proofs.Common.{[], sym, subst, ◌∙◌}
use Rattle.std.specs.Option.{option_map}
use Rattle.coap_exchange.specs.Machine.AskerShown.{IsAskable}
use Rattle.coap_client.proofs.Facts.Calls.AskableRequests.{get_askable}
use Rattle.coap_client.proofs.client.request.get.Goals as goal

pub ask-requires : goal.ask-requires
ask-requires g c =
    subst (λ os. IsAskable (record {
      code = 1;
      token = option_map (λ t. t.now) c.args.token;
      options = os;
      payload =
          [];
    })) (sym (c.as_slice.ensures ∙ c.get_options-options.ensures))
    (get_askable (option_map (λ t. t.now) c.args.token) _ _ _ c.requires.observe c.requires.path c.requires.block)
