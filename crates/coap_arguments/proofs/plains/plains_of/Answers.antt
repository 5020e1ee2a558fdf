use Rattle.std.proofs.Common.{◌≡◌, ◌≤◌, refl, length, arith, rules, codes, Bool, Result, Ok, true}
use Rattle.std.specs.declared.alloc.AllocError.{AllocError}
use Rattle.clap.specs.Words.{found_of, rows_of}
use Rattle.coap_arguments.specs.declared.orders.TheConstants.{MAX_PLAINS as max_plains}
use Rattle.coap_arguments.proofs.NamingPaths.{ended, none_named, one_more, path_wrong, too_many}
use Rattle.coap_arguments.proofs.GivenTexts.{given_texts}
use Rattle.coap_arguments.proofs.plains.plains_of.Goals as goal

pub returns-in_default : goal.returns-in_default
returns-in_default c =
    let none : length c.new-plains.result.items ≤ max_plains = grind (arith, c.new-plains.ensures) in
    let texts = given_texts c.args.given.now (codes "plain") _ _ _ c.get_strs.ensures refl c.in_default.is in
    (none_named _ _ texts c.new-plains.ensures.items, none)

pub returns-in_err-path : goal.returns-in_err-path
returns-in_err-path c =
    let texts = given_texts c.args.given.now (codes "plain") _ _ _ c.get_strs.ensures refl c.in-Some.is in
    path_wrong (λ s. s.now) c.in-Some.texts.now c.loop-text.text-index _ (omega arith)
    (rows_of (found_of c.args.given.now)) _ _ c.in_err-path.field-0.0 texts
    c.from_residual.ensures.1 c.in_err-path.ensures.refused

pub returns-then-not-branch : goal.returns-then-not-branch
returns-then-not-branch c =
    let texts = given_texts c.args.given.now (codes "plain") _ _ _ c.get_strs.ensures refl c.in-Some.is in
    let full = c.in_ok-add_path.ensures.full (search rules) in
    too_many (λ s. s.now) c.in-Some.texts.now c.loop-text.text-index _ (omega arith)
    (rows_of (found_of c.args.given.now)) _ c.in_ok-path.path texts
    c.loop-text.invariant.0 c.in_ok-path.ensures.ok.0 c.in_ok-path.ensures.ok.1 full

pub loop-text-preserved : goal.loop-text-preserved
loop-text-preserved c =
    let added : ◌≡◌ {A = Result Bool AllocError} (Ok c.in_ok-add_path.field-0) (Ok true) = search rules in (
      one_more (λ s. s.now) c.in-Some.texts.now c.loop-text.text-index _ (omega arith) _ _ c.in_ok-path.path
          c.loop-text.invariant.0 c.in_ok-path.ensures.ok.0 c.in_ok-path.ensures.ok.1
          (c.in_ok-add_path.ensures.added added),
      c.in_ok-add_path.ensures.few added,
    )

pub returns : goal.returns
returns c =
    let texts = given_texts c.args.given.now (codes "plain") _ _ _ c.get_strs.ensures refl c.in-Some.is in
    let at_end : c.loop-text.text-index ≡ length c.in-Some.texts.now = omega arith in (
      ended (λ s. s.now) c.in-Some.texts.now c.loop-text.text-index _ _ at_end texts c.loop-text.invariant.0,
      c.loop-text.invariant.1,
    )
