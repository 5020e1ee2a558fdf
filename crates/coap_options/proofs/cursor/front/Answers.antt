use Rattle.std.proofs.Common.{◌<◌, ◌⊎◌, ◌+◌, length, sym, subst, arith}
use Rattle.std.specs.Prelude.{IfNone}
use Rattle.std.proofs.lemmas.Option.{IfSome_then}
use Rattle.coap_types.specs.CoapOption.{option_of}
use Rattle.coap_options.specs.Standing.{HasNone}
use Rattle.coap_options.proofs.InFront.{if_none_then, in_front, no_delta, no_len, no_value}
use Rattle.coap_options.proofs.cursor.front.Goals as goal

pub returns-in_err-delta-in-len1-up-clause-none : goal.returns-in_err-delta-in-len1-up-clause-none
returns-in_err-delta-in-len1-up-clause-none c =
    subst (λ r. IfNone r (HasNone c.args.last c.args.bytes.now)) (sym c.from_residual.ensures)
    (no_delta c.args.last c.args.bytes.now c.in-len1-up.len_at_least c.in_err-delta-in-len1-up.ensures.none)

pub returns-in_err-len-in-len1-up-clause-none : goal.returns-in_err-len-in-len1-up-clause-none
returns-in_err-len-in-len1-up-clause-none c =
    subst (λ r. IfNone r (HasNone c.args.last c.args.bytes.now)) (sym c.from_residual-in_err-len-in-len1-up.ensures)
    (no_len c.args.last c.in_ok-delta-in-len1-up.delta c.args.bytes.now c.in_ok-delta-in-len1-up.rest.now
    c.in-len1-up.len_at_least c.in_ok-delta-in-len1-up.ensures.some c.in_err-len-in-len1-up.ensures.none)

pub returns-in_ok-len-in-len1-up-clause-some : goal.returns-in_ok-len-in-len1-up-clause-some
returns-in_ok-len-in-len1-up-clause-some c =
    IfSome_then c.valued.result c.valued.ensures.some (λ x are.
    in_front c.args.last c.in_ok-delta-in-len1-up.delta c.in_ok-len-in-len1-up.len c.args.bytes.now
    c.in_ok-delta-in-len1-up.rest.now c.in_ok-len-in-len1-up.rest.now x.1.now (option_of x.0)
    c.in-len1-up.len_at_least c.in_ok-delta-in-len1-up.ensures.some c.in_ok-len-in-len1-up.ensures.some
    (omega (arith, are.1, c.from.ensures)) (omega (arith, are.0, are.1)) are.2 are.3)

pub returns-in_ok-len-in-len1-up-clause-none : goal.returns-in_ok-len-in-len1-up-clause-none
returns-in_ok-len-in-len1-up-clause-none c =
    if_none_then c.valued.result c.valued.ensures.none (λ cut.
    no_value c.args.last c.in_ok-delta-in-len1-up.delta c.in_ok-len-in-len1-up.len c.args.bytes.now
    c.in_ok-delta-in-len1-up.rest.now c.in_ok-len-in-len1-up.rest.now c.in-len1-up.len_at_least
    c.in_ok-delta-in-len1-up.ensures.some c.in_ok-len-in-len1-up.ensures.some
    (subst (λ n. (65535 < n + c.in_ok-delta-in-len1-up.delta)
    ⊎ (length c.in_ok-len-in-len1-up.rest.now < c.in_ok-len-in-len1-up.len)) c.from.ensures cut))
