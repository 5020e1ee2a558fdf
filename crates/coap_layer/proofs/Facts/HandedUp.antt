-- What the layer hands up is what the datagram spells.
use Rattle.std.proofs.Common.{◌≡◌, ℕ, Bool, true, false, Option, Some, None, List, refl, ap, sym, subst, ◌∙◌, cond}
use Rattle.coap_types.specs.Roles.{role_of}
use Rattle.coap_types.specs.declared.endpoint.Endpoint.{Endpoint}
use Rattle.coap_types.specs.declared.message.Kind.{Kind}
use Rattle.coap_types.specs.declared.message.Kind.TheVariants.{Con, Non, Ack, Rst}
use Rattle.coap_types.specs.declared.role.Role.{Role}
use Rattle.coap_types.specs.declared.role.Role.TheVariants as role
use Rattle.coap_codec.specs.Message.{Message, Spells}
use Rattle.coap_layer.specs.Arrivals.{Arrival, Unreadable, Faulted, Whole, Shows, arrival_at}
use Rattle.coap_layer.specs.Machine.State as L
use Rattle.coap_layer.specs.Machine.State.{answer_to}
use Rattle.coap_layer.specs.Machine.Table.{up_of, again_or}
use Rattle.coap_layer.specs.Machine.Calls.{message_in}
use Rattle.coap_layer.specs.Trace as T
use Rattle.coap_layer.specs.Words.{is_con}
use Rattle.coap_layer.proofs.Facts.Arrivals.{shows_at}

-- the message that is handed up is this one, if any
abbrev Only : Message → Option Message → Type 0
Only n None = Unit {0}
Only n (Some m) = (n ≡ m)

again_only : (n : Message) (a : T.Disposition) → Only n (message_in (T.Becomes a)) → (r f : Bool)
    → Only n (message_in (T.Becomes (again_or r f a)))
again_only n a h true f = tt
again_only n a h false true = tt
again_only n a h false false = h

up_only : (kind : Kind) (c : Role) (n : Message) (o r f i : Bool)
    → Only n (message_in (T.Becomes (up_of kind c n o r f i)))
up_only Con role.Empty n o r f i = tt
up_only Con role.Reserved n o r f i = tt
up_only Con role.Request n o r f i = again_only n (T.Request n true) refl r f
up_only Con role.Response n o r f i = again_only n (T.Response n) refl r f
up_only Non role.Empty n o r f i = tt
up_only Non role.Reserved n o r f i = tt
up_only Non role.Request n o r f i = again_only n (T.Request n i) refl r f
up_only Non role.Response n o r f i = again_only n (T.Response n) refl r f
up_only Ack role.Empty n true r f i = tt
up_only Ack role.Response n true r f i = refl
up_only Rst role.Empty n true r f i = tt
up_only Ack role.Empty n false r f i = tt
up_only Ack role.Response n false r f i = tt
up_only Rst role.Empty n false r f i = tt
up_only Ack role.Request n o r f i = tt
up_only Ack role.Reserved n o r f i = tt
up_only Rst role.Request n o r f i = tt
up_only Rst role.Response n o r f i = tt
up_only Rst role.Reserved n o r f i = tt

fault_none : (b : Bool) → message_in (T.Becomes (cond b T.Rejected T.Dropped)) ≡ None
fault_none true = refl
fault_none false = refl

spelled_by : (s : L.State) (at : ℕ) (from : Endpoint) (bytes : List ℕ) (m : Message) (what : Arrival) → Shows bytes what
    → message_in (T.Becomes (answer_to s at from what)) ≡ Some m → Spells bytes m
spelled_by s at from bytes m Unreadable shows h = absurd (cc h)
spelled_by s at from bytes m (Faulted kind id) shows h = let k = fault_none (is_con kind) in absurd (cc (h, k))
spelled_by s at from bytes m (Whole n) shows h =
    let same : n ≡ m = subst (Only n) h (up_only n.kind (role_of n.code) n _ _ _ _) in subst (Spells bytes) same shows

-- what was handed up is spelled
pub spelled : (old new : L.State) (now : ℕ) (from : Endpoint) (bytes : List ℕ) (up : T.Answer) (m : Message)
    → L.Step old now (T.Receive from bytes) up new → message_in up ≡ Some m → Spells bytes m
spelled old new now from bytes up m step h =
    spelled_by old (L.moment old now (T.Receive from bytes)) from bytes m (arrival_at bytes) (shows_at bytes)
    (sym (ap message_in step.right) ∙ h)
