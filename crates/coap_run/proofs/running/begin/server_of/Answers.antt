use Rattle.std.proofs.Common.{◌∙◌, ap, sym}
use Rattle.coap_record.specs.Events.{Config}
use Rattle.coap_run.proofs.Recording.Beginning.{none_changed}
use Rattle.coap_run.proofs.running.begin.server_of.Goals as goal

pub returns-in-Ok : goal.returns-in-Ok
returns-in-Ok g c =
    let k = c.args.config.now in
    record {
      led = c.in-Ok.ensures;
      version = c.get-version.ensures.base ∙ (ap (λ (x : Config). x.limits.base) c.config.view_is
          ∙ sym (none_changed k.limits k.server_szx k.plains k.delays));
    }
