use Rattle.std.proofs.Common.{◌∙◌, ap, sym, inl, inr, arith}
use Rattle.clap.specs.Words.{first_of, found_of, rows_of}
use Rattle.coap_arguments.proofs.repeating.seconds_of.Goals as goal

pub returns-in-None : goal.returns-in-None
returns-in-None c = (
  c.in-Some.text.now,
  ap (λ name. first_of name (rows_of (found_of c.args.given.now))) (sym c.name.ensures) ∙ c.in-Some.ensures,
  λ n is. elim is [
    | inl digits ↦
        (let least = c.requires.least in
        let most = c.requires.most in
        elim (c.in-None.ensures n digits) [
          | inl low ↦ inl (omega (arith, least, low))
          | inr high ↦ inr (omega (arith, most, high))
        ])
    | inr word ↦ absurd (c.requires.digits _ n word)
  ],
)
