use Rattle.std.proofs.Common.{rules, arith, lit<, refl, ◌≡◌, ◌∙◌, ap, length, drop}
use Rattle.std.proofs.lemmas.List.{length-take}
use Rattle.coap_types.specs.Piece.{size_of}
use Rattle.coap_resource.proofs.serving.content.Goals as goal

pub returns-clause-fits : goal.returns-clause-fits
returns-clause-fits g c =
    let part : length c.args.part ≡ _ = ap length c.requires.part
    ∙ length-take (size_of c.args.wanted.szx) (drop c.args.wanted.offset c.args.held.now.body) in
    record {
      role = refl;
      code = lit< tt;
      tag = search rules;
      format = search rules;
      block2 = search rules;
      part = omega (arith, part, c.size-size.ensures.size, c.size-size.ensures.most);
    }
