-- A client was led to what it is, after each of its calls (RFC 7252, section 5).
use Rattle.std.proofs.Common.{◌≡◌, ◌≢◌, Result, Ok, Err, IfOk, OnErr, refl, ap, sym, subst, ◌∙◌}
use Rattle.coap_exchange.specs.AskerLaw as X
use Rattle.coap_client.specs.declared.refusals.CallRefusal.{CallRefusal}
use Rattle.coap_client.specs.declared.refusals.CallRefusal.TheVariants as refusals
use Rattle.coap_client.specs.Own.{Own}
use Rattle.coap_client.specs.Trace.{Call}
use Rattle.coap_client.specs.Led.{State, Step}
use Rattle.coap_client.specs.Object.Happens.{WasLed, left}

-- what was changed in nothing is as it was led to
pub same_led : (old new : State) → WasLed old → new ≡ old → WasLed new
same_led old new led same = subst WasLed (sym same) led

-- a call was refused memory, or not
pub closes_call : {X : Type 0} {P : Type 0} (r : Result X CallRefusal) → (r ≢ Err refusals.Memory → P)
    → (r ≡ Err refusals.Memory → P) → P
closes_call (Err refusals.Memory) other memory = memory refl
closes_call _ other memory = other (λ e. cc e)

-- what is seen of a client is what it is
pub seen_step : (inside outside : State) (c : Call) (new : State) → inside ≡ outside → Step inside c new
    → Step outside c new
seen_step inside outside c new e step = subst (λ s. Step s c new) e step

pub seen_still : (inside outside : State) (c : Call) → inside ≡ outside → Step inside c inside → Step outside c outside
seen_still inside outside c e step = subst (λ s. Step s c s) e step

-- by the answer of a call
pub if_ok : {X Y : Type 0} {P Q : X → Type 0} (r : Result X Y) → ((x : X) → P x → Q x) → IfOk r P → IfOk r Q
if_ok (Ok x) f p = f x p
if_ok (Err e) f p = tt

pub on_err : {X Y P Q : Type 0} (r : Result X Y) → (P → Q) → OnErr r P → OnErr r Q
on_err (Ok x) f p = tt
on_err (Err e) f p = f p

pub both_err : {X Y : Type 0} (P Q : Type 0) (r : Result X Y) → OnErr r P → OnErr r Q → OnErr r (P × Q)
both_err P Q (Ok x) p q = tt
both_err P Q (Err e) p q = (p, q)

pub same_left : (s t : Own) (x y : X.State) → t ≡ s → y ≡ x → left t y ≡ left s x
same_left s t x y own layer = ap (λ o. left o y) own ∙ ap (left s) layer

pub closes_if : {X Y W : Type 0} (r : Result X Y) → IfOk r (λ x. W) → OnErr r W → W
closes_if (Ok x) ok err = ok
closes_if (Err e) ok err = err
