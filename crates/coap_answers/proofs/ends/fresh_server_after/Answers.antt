use Rattle.std.proofs.Common.{ℕ, [], subst}
use Rattle.coap_resource.specs.Entries.{content_of}
use Rattle.coap_server.specs.Object.Shown.{state_of}
use Rattle.coap_server.specs.Led.{Led}
use Rattle.coap_answers.specs.Ends.{server_limits_after}
use Rattle.coap_answers.proofs.ends.fresh_server_after.Goals as goal

pub returns : goal.returns
returns g c =
    let limits = server_limits_after c.args.limit c.args.base in
    subst (λ (szx : ℕ). Led limits szx c.args.setup [] (state_of content_of c.with_setup.result))
    c.largest_szx.ensures
    (c.with_setup.ensures.led limits c.in-Some.ensures.empty)
