use Rattle.coap_resource.specs.Entries.{content_of, paths_of}
use Rattle.knifesilver.proofs.Listed.{holds}
use Rattle.knifesilver.proofs.server.paths.path_at.Goals as goal

pub returns-in_default-get-clause-told : goal.returns-in_default-get-clause-told
returns-in_default-get-clause-told c =
    let store = c.args.server.now.server.store in
    λ _. absurd (holds (content_of store) (paths_of store.entries) c.args.place c.in-Some.path.now c.in-Some.ensures.all
    c.in-Some.ensures.at c.in_default-get.ensures.step.right)
