use Rattle.std.proofs.Common.{◌≡◌, ◌∙◌, sym, ap, option_map}
use Rattle.clap.specs.Words.{found_of, rows_of, first_of}
use Rattle.clap.proofs.CallerLemmas.{some_of_text}
use Rattle.clap.proofs.WalkLemmas.{first_value-rows}
use Rattle.coap_arguments.proofs.words.value.Goals as goal

pub unwrap-requires : goal.unwrap-requires
unwrap-requires c =
    let seen : option_map (λ s. s.now) c.get_str.result
    ≡ first_of c.args.name.now (rows_of (found_of c.args.given.now)) = c.get_str.ensures
    ∙ first_value-rows (found_of c.args.given.now) c.args.name.now in
    some_of_text (λ s. s.now) c.get_str.result _ seen c.requires

pub returns : goal.returns
returns c =
    let seen : option_map (λ s. s.now) c.get_str.result
    ≡ first_of c.args.name.now (rows_of (found_of c.args.given.now)) = c.get_str.ensures
    ∙ first_value-rows (found_of c.args.given.now) c.args.name.now in
    sym seen ∙ ap (option_map (λ s. s.now)) c.unwrap.ensures
