use Rattle.std.proofs.Common.{◌≡◌, ◌∙◌, ap}
use Rattle.coap_block.specs.Sizes.{Sizes}
use Rattle.coap_block.specs.AssemblyState.{AssemblyState, without_peer}
use Rattle.coap_block.specs.AssemblyKept.{partials_of, state_of}
use Rattle.coap_block.proofs.Fields.PartialsOfPeers.{few_elsewhere, state_elsewhere}
use Rattle.coap_block.proofs.assembly.Assembly.forget.Goals as goal

pub returns-clause-state : goal.returns-clause-state
returns-clause-state g c =
    let sizes : Sizes = record { szx = c.self.inside.szx; limit = c.self.inside.limit } in
    state_elsewhere sizes c.self.inside.clock.0 c.args.from c.self.inside.partials.items _ c.take_all_from.ensures
    ∙ ap (λ v. without_peer c.args.from v.state) c.self.view_is

pub returns-clause-led : goal.returns-clause-led
returns-clause-led g c = λ t led. returns-clause-state g c
    ∙ ap (λ (s : AssemblyState). without_peer c.args.from s) led

pub invariant_of-self : goal.invariant_of-self
invariant_of-self g c = (
  tt,
  few_elsewhere c.self.inside.clock.0 c.args.from c.self.inside.partials.items _ c.take_all_from.ensures
      c.self.invariant.1,
  tt,
)
