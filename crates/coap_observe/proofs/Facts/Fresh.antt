-- A NON that comes behind a later version is not taken.
use Rattle.std.proofs.Common.{arith}
use Rattle.coap_observe.specs.Fresh.{FreshIsNear, NoneIsStale}
use Rattle.coap_observe.proofs.Facts.Versions.{newer_is_later}

pub none_is_stale : NoneIsStale
none_is_stale version other sent comes since taken c near low newer =
    let a = c.behind in
    let b = c.taken_from in
    let o = c.order in
    let t = c.till in
    let less = near (omega (arith, a, b, o, t)) in
    let later = newer_is_later other version taken comes (less, omega (arith, low))
    (omega (arith, a, b, t)) newer in
    absurd (omega (arith, low, later))

pub fresh_is_near : FreshIsNear
fresh_is_near version made sent other since window changes from till wide few rate close =
    let most = rate (omega (arith, till, wide, close)) in
    omega (arith, most, few)
