use Rattle.std.proofs.Common.{◌≡◌, ◌/◌, Some, slice_set, rules}
use Rattle.std.proofs.lemmas.List.{map-set}
use Rattle.coap_layer.specs.declared.message_id.TheConstants.{GROUP_SIZE as group_size}
use Rattle.coap_layer.specs.Machine.IdState.{use_of, uses_of}
use Rattle.coap_layer.proofs.message_id.IdSource.give.Goals as goal

pub returns-clause-new : goal.returns-clause-new
returns-clause-new c =
    let i = c.self.inside in
    let set : uses_of (slice_set i.last_used (i.upcoming / group_size) (Some c.args.at))
    ≡ slice_set (uses_of i.last_used) (i.upcoming / group_size) (Some c.args.at.0) =
    map-set use_of i.last_used (i.upcoming / group_size) (Some c.args.at) in
    search (rules, set, c.self.view_is)
