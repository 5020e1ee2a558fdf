use Rattle.std.proofs.Common.{◌∙◌, ℕ, List, subst, sym}
use Rattle.coap_serving.specs.KeptWords.{AreWishesBy, IsDrawnBy, IsKeepingBy}
use Rattle.coap_serving.specs.declared.journal_words.Says.{Says}
use Rattle.coap_serving.proofs.KeptCalls.{if_ok}
use Rattle.coap_serving.proofs.keeping.keep_over.Goals as goal
use Rattle.coap_journal.specs.declared.beginning.Beginning.{Beginning}
use Rattle.coap_kept.proofs.Facts.{given_out}

pub returns-in-Ok : goal.returns-in-Ok
returns-in-Ok g c =
    let options = c.args.options.now in
    let says = c.says_of-says.result in
    let keeping = c.keeping_of-keeping.result in
    let inputs = c.as_slice.ensures.value ∙ c.in_ok-setup.ensures in
    let of = c.keeping_of-keeping.ensures in
    let kept = c.in-Ok.ensures.kept in
    if_ok c.go_on_kept.result
    (λ s gone. (
      keeping,
      subst (λ (says : Says). IsKeepingBy options c.args.journal.file.now says keeping) c.says_of-says.ensures record {
        name = of.name;
        wishes = subst (λ (inputs : List ℕ). AreWishesBy options says inputs keeping.wishes) inputs of.wishes;
        drawn = subst (λ (b : Beginning). IsDrawnBy options says b) (sym of.drawn) c.in_ok-drawn.ensures.words;
        setup = of.setup ∙ inputs;
        renews = of.renews;
      },
      c.in-Ok.kept.silent,
      c.in-Ok.kept.first.0,
      kept.begins.bytes,
      _,
      _,
      kept.begins.alive,
      (kept.dropped, given_out _ _ _ kept.drops, kept.none_waits),
      gone,
    ))
    c.go_on_kept.ensures

pub returns-in-Err : goal.returns-in-Err
returns-in-Err g c = if_ok c.tell_why.result (λ s no. absurd no) c.tell_why.ensures
