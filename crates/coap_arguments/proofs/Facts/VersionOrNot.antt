-- clap takes no words that ask for the version: what they enter is nothing.
use Rattle.std.proofs.Common.{◌≡◌, ◌∙◌, ap, sym, refl, List, [], ◌∷◌, codes}
use Rattle.clap.proofs.OnLiterals.{clap_on_literals}
use Rattle.clap.specs.Words.{Text, fault_of}
use Rattle.clap.specs.declared.error.kind.ErrorKind.TheVariants as kind
use Rattle.coap_arguments.specs.CommandLine.{coap_app}
use Rattle.coap_arguments.specs.Words.{IsVersion}

unknown : (name : Text) → fault_of coap_app (name ∷ codes "--version" ∷ []) ≡ kind.UnknownArgument ∷ []
unfolding clap_on_literals
unknown name = refl

pub version_or_taken : (words : List Text) → IsVersion words → fault_of coap_app words ≡ [] → ⊥
version_or_taken words (name, is) taken =
    let bad : kind.UnknownArgument ∷ [] ≡ [] = sym (unknown name)
    ∙ ap (λ (ws : List Text). fault_of coap_app ws) (sym is) ∙ taken in
    cc
