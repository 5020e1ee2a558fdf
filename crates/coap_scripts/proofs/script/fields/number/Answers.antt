use Rattle.std.proofs.Common.{refl}
use Rattle.std.proofs.lemmas.Fmt.{IsAscii-from_digits}
use Rattle.std.proofs.lemmas.Str.{IsUtf8-from_ascii}
use Rattle.coap_scripts.proofs.script.fields.number.Goals as goal

pub returns-in_default-clause-refused : goal.returns-in_default-clause-refused
returns-in_default-clause-refused c = (
  refl,
  λ n says. c.in_default.ensures.cases.0
      (IsUtf8-from_ascii _ (IsAscii-from_digits _ says.0.1)),
)
