-- What a server says in words (docs/PROGRAM.md).
use Rattle.std.specs.Prelude.{ℕ, List, codes, decimal}
use Rattle.std.specs.Prelude.{◌++◌}
use Rattle.coap_serving.specs.declared.setting_up.NotSetUp.{NotSetUp}
use Rattle.coap_serving.specs.declared.setting_up.NotSetUp.TheVariants as notSetUp
use Rattle.coap_answers.specs.Printed.{refused_text}

-- what a server says that has served so many datagrams, whose store refuses what it is to hold, and whose script has a
-- line that it doesn't take
abbrev pub served_text : ℕ → List ℕ
served_text count = codes "served " ++ (decimal count ++ codes "\n")

abbrev pub bad_line_text : ℕ → List ℕ
bad_line_text number = codes "bad line " ++ (decimal number ++ codes "\n")

-- why it isn't set up
abbrev pub not_set_up_text : NotSetUp → List ℕ
not_set_up_text (notSetUp.Refused why) = refused_text why
not_set_up_text (notSetUp.Line bad) = bad_line_text bad.0
