-- A request that is remembered is a CON, or a NON for which a Message ID is free (RFC 7252, sections 4.2 and 4.3).
use Rattle.std.proofs.Common.{◌≡◌, ◌⊎◌, inl, inr, ℕ, Bool, true, false, refl, sym, cond}
use Rattle.coap_types.specs.Roles.{role_of}
use Rattle.coap_types.specs.declared.endpoint.Endpoint.{Endpoint}
use Rattle.coap_types.specs.declared.message.Kind.{Kind}
use Rattle.coap_types.specs.declared.message.Kind.TheVariants.{Con, Non, Ack, Rst}
use Rattle.coap_types.specs.declared.role.Role.{Role}
use Rattle.coap_types.specs.declared.role.Role.TheVariants as role
use Rattle.coap_codec.specs.Message.{Message}
use Rattle.coap_layer.specs.Arrivals.{Arrival, Unreadable, Faulted, Whole}
use Rattle.coap_layer.specs.Machine.State as S
use Rattle.coap_layer.specs.Machine.State.{is_busy, is_free, sending, next_after, uses_after}
use Rattle.coap_layer.specs.Machine.Table.{up_of, again_or}
use Rattle.coap_layer.specs.Trace as L
use Rattle.coap_layer.specs.Trace.{with_head}
use Rattle.coap_layer.specs.Words.{is_con}

abbrev pub Kept : Bool → L.Disposition → Type 0
Kept free (L.Request m true) = (m.kind ≡ Con) ⊎ ((m.kind ≡ Non) × (free ≡ true))
Kept free _ = Unit {0}

-- .. where an answer tells of a datagram
abbrev pub KeptIn : Bool → L.Answer → Type 0
KeptIn free (L.Becomes u) = Kept free u
KeptIn free _ = Unit {0}

again_kept : (free : Bool) (a : L.Disposition) → Kept free a → (r f : Bool) → Kept free (again_or r f a)
again_kept free a h true f = tt
again_kept free a h false true = tt
again_kept free a h false false = h

non_kept : (m : Message) (i : Bool) → Non ≡ m.kind → Kept i (L.Request m i)
non_kept m true is = inr (sym is, refl)
non_kept m false is = tt

up_kept : (kind : Kind) (c : Role) (m : Message) (o r f i : Bool) → kind ≡ m.kind → Kept i (up_of kind c m o r f i)
up_kept Con role.Empty m o r f i is = tt
up_kept Con role.Reserved m o r f i is = tt
up_kept Con role.Request m o r f i is = again_kept i (L.Request m true) (inl (sym is)) r f
up_kept Con role.Response m o r f i is = again_kept i (L.Response m) tt r f
up_kept Non role.Empty m o r f i is = tt
up_kept Non role.Reserved m o r f i is = tt
up_kept Non role.Request m o r f i is = again_kept i (L.Request m i) (non_kept m i is) r f
up_kept Non role.Response m o r f i is = again_kept i (L.Response m) tt r f
up_kept Ack role.Empty m true r f i is = tt
up_kept Ack role.Response m true r f i is = tt
up_kept Rst role.Empty m true r f i is = tt
up_kept Ack role.Empty m false r f i is = tt
up_kept Ack role.Response m false r f i is = tt
up_kept Rst role.Empty m false r f i is = tt
up_kept Ack role.Request m o r f i is = tt
up_kept Ack role.Reserved m o r f i is = tt
up_kept Rst role.Request m o r f i is = tt
up_kept Rst role.Response m o r f i is = tt
up_kept Rst role.Reserved m o r f i is = tt

fault_kept : (free b : Bool) → Kept free (cond b L.Rejected L.Dropped)
fault_kept free true = tt
fault_kept free false = tt

pub kept_to : (s : S.State) (at : ℕ) (from : Endpoint) (what : Arrival)
    → Kept (is_free at s.upcoming s.last_used) (S.answer_to s at from what)
kept_to s at from Unreadable = tt
kept_to s at from (Faulted kind id) = fault_kept (is_free at s.upcoming s.last_used) (is_con kind)
kept_to s at from (Whole m) = up_kept m.kind (role_of m.code) m _ _ _ (is_free at s.upcoming s.last_used) refl
