use Rattle.std.proofs.Common.{◌≡◌, ◌∙◌, sym, List, ℕ, Option, Some, None, option_map}
use Rattle.std.specs.Borrow.{Bor}
use Rattle.std.specs.Option.{MatchOption}
use Rattle.clap.specs.Words.{found_of}
use Rattle.clap.proofs.WalkLemmas.{first_value-rows}
use Rattle.coap_arguments.proofs.words.optional.Goals as goal

told : (r : Option (Bor (List ℕ))) (f : Option (List ℕ)) → option_map (λ s. s.now) r ≡ f
    → MatchOption r (f ≡ None) (λ t. f ≡ Some t.now)
told None f e = sym e
told (Some t) f e = sym e

pub returns : goal.returns
returns c = told c.get_str.result _ (c.get_str.ensures ∙ first_value-rows (found_of c.args.given.now) c.args.name.now)
