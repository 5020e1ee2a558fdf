-- No text ends with a room that is too small: only the room says that.
use Rattle.std.proofs.Common.{◌≡◌, subst, ℕ, List}
use Rattle.coap_page.specs.Runs.{IsTold}
use Rattle.coap_page.specs.Shows.{IsShown}
use Rattle.coap_page.specs.declared.ended.Ended.{Ended}
use Rattle.coap_page.specs.declared.ended.Ended.TheVariants as ended

-- nothing that comes of a script does
pub told_never_small : (script plains : List ℕ) (ends : Ended) (text : List ℕ) → IsTold script plains ends text
    → ends ≡ ended.Small → ⊥
told_never_small script plains ends text h is = subst (λ (e : Ended). IsTold script plains e text) is h

-- nor what a datagram says
pub shown_never_small : (datagram : List ℕ) (ends : Ended) (text : List ℕ) → IsShown datagram ends text
    → ends ≡ ended.Small → ⊥
shown_never_small datagram ends text h is = subst (λ (e : Ended). IsShown datagram e text) is h
