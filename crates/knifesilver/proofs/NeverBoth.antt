-- No answer both refuses and answers.
use Rattle.std.proofs.Common.{ℤ, pos, negsuc}
use Rattle.knifesilver.specs.Answers.{IsAnswered, IsRefused}

pub never_both : {A : Type 0} (answer : ℤ) → IsRefused answer → IsAnswered answer → A
never_both (pos _) refused _ = absurd refused
never_both (negsuc _) _ answered = absurd answered
