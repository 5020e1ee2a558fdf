use Rattle.std.proofs.Common.{◌∙◌, ap, sym, inl, inr, arith}
use Rattle.clap.specs.Words.{first_of, found_of, rows_of}
use Rattle.coap_arguments.proofs.asking.format_of.Goals as goal

pub returns-in-None : goal.returns-in-None
returns-in-None c = (
  c.in-Some.text.now,
  ap (λ name. first_of name (rows_of (found_of c.args.given.now))) (sym c.name.ensures) ∙ c.in-Some.ensures,
  λ n is. inr
      (let most = c.requires.most in
      let over = c.in-None.ensures n (elim is [
        | inl number ↦ inl number
        | inr name ↦ inr ((c.requires.names _ n).0 name)
      ]) in
      omega (arith, most, over)),
)
