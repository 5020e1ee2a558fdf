use Rattle.std.proofs.Common.{◌≡◌, ◌++◌, ◌∷◌, [], OnOk, subst, ap, ◌<◌, length, ◌∙◌, arith}
use Rattle.std.proofs.lemmas.List.{length-take-le}
use Rattle.coap_types.specs.declared.tag.TheConstants.{MAX_TAGS as max_tags}
use Rattle.coap_run.proofs.Recording.Copying.{is_added, one_copied}
use Rattle.coap_run.proofs.running.copies.copied_tags.Goals as goal

pub tags-preserved : goal.tags-preserved
tags-preserved c =
    let long = ap length c.tags.invariant.are ∙ length-take-le c.tags.i c.args.tags.now c.tags.invariant.within in
    let room : length c.tags.copy < max_tags = omega (arith, long, c.tags-test.true, c.requires) in
    record {
      within = omega (arith, c.tags-test.true);
      are = one_copied c.args.tags.now c.tags.copy c.push-fits.new.self c.tags.i c.index-tags-i.result c.tags-test.true
          c.index-tags-i.is c.tags.invariant.are
          (is_added c.push-fits.result max_tags c.tags.copy c.push-fits.new.self c.index-tags-i.result
          (subst (λ t. OnOk c.push-fits.result (c.push-fits.new.self ≡ c.tags.copy ++ t ∷ [])) c.copy.ensures
          c.push-fits.ensures.added)
          c.push-fits.ensures.full room);
    }
