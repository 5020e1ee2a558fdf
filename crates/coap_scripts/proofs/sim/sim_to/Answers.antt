use Rattle.std.proofs.Common.{IfOk, IfSome, [], subst, ℕ}
use Rattle.coap_record.specs.Events.{usual_addresses}
use Rattle.coap_scripts.specs.Sims.{IsSimOf}
use Rattle.coap_scripts.proofs.sim.sim_to.Goals as goal

pub returns-clause-said : goal.returns-clause-said
returns-clause-said g c =
    let old = g.W.Write.contents c.args.out.now in
    let new = g.W.Write.contents c.sim_with.new.out in
    subst (λ (remembered : ℕ). IfOk c.sim_with.result (λ status. IfSome (g.R.Read.remaining c.args.script.now)
    (λ text. IsSimOf old new usual_addresses remembered [] text status))) c.default.ensures
    c.sim_with.ensures.said
