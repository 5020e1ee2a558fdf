-- What waits is a CON to a path that has a delay, and the exchanges have a place.
use Rattle.std.proofs.Common.{◌≡◌, ℕ, Some, List, refl, sym, subst}
use Rattle.coap_types.specs.declared.message.Kind.{Kind}
use Rattle.coap_types.specs.declared.message.Kind.TheVariants.{Con}
use Rattle.coap_server.specs.Trace.{Delay}
use Rattle.coap_server.specs.Deferring.{delay_for, delay_of}

-- the delay of a request is that of its path, where it is a CON
pub delay_is : (k : Kind) (path : List (List ℕ)) (ds : List Delay) (d : ℕ) → delay_for k path ds ≡ Some d
    → (k ≡ Con) × (delay_of path ds ≡ Some d)
delay_is Con path ds d h = (refl, h)
delay_is _ path ds d h = absurd (cc h)

pub has_delay : (k : Kind) (path : List (List ℕ)) (ds : List Delay) (d : ℕ) → k ≡ Con → delay_of path ds ≡ Some d
    → delay_for k path ds ≡ Some d
has_delay k path ds d con h = subst (λ z. delay_for z path ds ≡ Some d) (sym con) h
