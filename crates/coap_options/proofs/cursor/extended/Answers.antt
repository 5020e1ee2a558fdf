use Rattle.std.proofs.Common.{[], ◌∷◌, refl, arith}
use Rattle.coap_options.proofs.InFront.{one_ahead, two_ahead}
use Rattle.coap_options.proofs.cursor.extended.Goals as goal

pub returns-in-len1-up-clause-some : goal.returns-in-len1-up-clause-some
returns-in-len1-up-clause-some c =
    let small = c.type_inv.bytes 0 in (
      c.from.result ∷ [],
      (omega (arith, small, c.from.ensures), refl, c.in-13.is),
      one_ahead c.args.bytes.now c.from.result c.in-len1-up.len_at_least c.from.ensures,
    )

pub returns-in-len2-up-clause-some : goal.returns-in-len2-up-clause-some
returns-in-len2-up-clause-some c =
    let one = c.type_inv.bytes 0 in
    let two = c.type_inv.bytes 1 in (
      c.from-in-len2-up.result ∷ c.from-in-len2-up-2.result ∷ [],
      (
        omega (arith, one, c.from-in-len2-up.ensures),
        omega (arith, two, c.from-in-len2-up-2.ensures),
        refl,
        c.in-14.is,
      ),
      two_ahead c.args.bytes.now c.from-in-len2-up.result c.from-in-len2-up-2.result c.in-len2-up.len_at_least
          c.from-in-len2-up.ensures c.from-in-len2-up-2.ensures,
    )
