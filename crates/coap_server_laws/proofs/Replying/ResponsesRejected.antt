-- What a message layer hands up as a response is one; and calls that reply nothing change nothing of how each reply is
-- given.
use Rattle.std.proofs.Common.{◌≡◌, ℕ, Bool, true, false, List, [], ◌∷◌, ◌++◌, refl, ap, sym, subst, ◌∙◌, cond}
use Rattle.coap_types.specs.Past.{Always}
use Rattle.coap_types.specs.Roles.{role_of}
use Rattle.coap_types.specs.declared.endpoint.Endpoint.{Endpoint}
use Rattle.coap_types.specs.declared.message.Kind.{Kind}
use Rattle.coap_types.specs.declared.message.Kind.TheVariants.{Con, Non, Ack, Rst}
use Rattle.coap_types.specs.declared.role.Role.{Role}
use Rattle.coap_types.specs.declared.role.Role.TheVariants as role
use Rattle.coap_codec.specs.Message.{Message}
use Rattle.coap_layer.specs.Arrivals.{Arrival, Unreadable, Faulted, Whole, arrival_at}
use Rattle.coap_layer.specs.Channel.{RepliesSo}
use Rattle.coap_layer.specs.Machine.State as L
use Rattle.coap_layer.specs.Machine.State.{answer_to}
use Rattle.coap_layer.specs.Machine.Steps.{Asked, entries}
use Rattle.coap_layer.specs.Machine.Table.{up_of, again_or}
use Rattle.coap_layer.specs.Trace as T
use Rattle.coap_layer.specs.Trace.{Entry}
use Rattle.coap_layer.specs.Words.{is_con}
use Rattle.coap_exchange.proofs.Facts.AskerReplies.{NoReplies}
use Rattle.coap_server_laws.specs.Follows.Rejects.{RejectsSo}

-- a message of this class that is handed up as a response is one
abbrev AsClass : Role → Message → T.Disposition → Type 0
AsClass c n (T.Response m) = (n ≡ m) × (c ≡ role.Response)
AsClass c n _ = Unit {0}

again_class : (c : Role) (n : Message) (a : T.Disposition) → AsClass c n a → (r f : Bool)
    → AsClass c n (again_or r f a)
again_class c n a h true f = tt
again_class c n a h false true = tt
again_class c n a h false false = h

up_class : (kind : Kind) (c : Role) (n : Message) (o r f i : Bool) → AsClass c n (up_of kind c n o r f i)
up_class Con role.Empty n o r f i = tt
up_class Con role.Reserved n o r f i = tt
up_class Con role.Request n o r f i = again_class role.Request n (T.Request n true) tt r f
up_class Con role.Response n o r f i = again_class role.Response n (T.Response n) (refl, refl) r f
up_class Non role.Empty n o r f i = tt
up_class Non role.Reserved n o r f i = tt
up_class Non role.Request n o r f i = again_class role.Request n (T.Request n i) tt r f
up_class Non role.Response n o r f i = again_class role.Response n (T.Response n) (refl, refl) r f
up_class Ack role.Empty n true r f i = tt
up_class Ack role.Response n true r f i = (refl, refl)
up_class Rst role.Empty n true r f i = tt
up_class Ack role.Empty n false r f i = tt
up_class Ack role.Response n false r f i = tt
up_class Rst role.Empty n false r f i = tt
up_class Ack role.Request n o r f i = tt
up_class Ack role.Reserved n o r f i = tt
up_class Rst role.Request n o r f i = tt
up_class Rst role.Response n o r f i = tt
up_class Rst role.Reserved n o r f i = tt

rejected_not : (b : Bool) (m : Message) → cond b T.Rejected T.Dropped ≡ T.Response m → ⊥
rejected_not true m h = cc h
rejected_not false m h = cc h

class_by : (s : L.State) (at : ℕ) (from : Endpoint) (m : Message) (what : Arrival)
    → answer_to s at from what ≡ T.Response m → role_of m.code ≡ role.Response
class_by s at from m Unreadable h = absurd (cc h)
class_by s at from m (Faulted kind id) h = absurd (rejected_not (is_con kind) m h)
class_by s at from m (Whole n) h =
    let k = subst (AsClass (role_of n.code) n) h (up_class n.kind (role_of n.code) n _ _ _ _) in
    ap (λ (x : Message). role_of x.code) (sym k.0) ∙ k.1

-- what is handed up as a response
pub response_class : (old new : L.State) (now : ℕ) (from : Endpoint) (bytes : List ℕ) (up : T.Answer) (m : Message)
    → L.Step old now (T.Receive from bytes) up new → up ≡ T.Becomes (T.Response m) → role_of m.code ≡ role.Response
response_class old new now from bytes up m step h =
    let is : T.Becomes (answer_to old (L.moment old now (T.Receive from bytes)) from (arrival_at bytes))
    ≡ T.Becomes (T.Response m) = sym step.right ∙ h in
    class_by old (L.moment old now (T.Receive from bytes)) from m (arrival_at bytes) (cc is)

module _ (begin : L.State) where
  -- each reply is given so
  abbrev pub So : List Asked → Type 0
  So asked = Always RejectsSo (entries begin asked)

  pub over : (xs rest : List Asked) → NoReplies xs → So rest → So (xs ++ rest)
  over [] rest none so = so
  over (a ∷ xs) rest none so = ((λ to id bytes h. absurd (cc (none.0, h))), over xs rest none.1 so)

pub replies_so : (t : List Entry) → Always RejectsSo t → Always RepliesSo t
replies_so [] h = tt
replies_so (e ∷ past) h = ((λ to id bytes k. (h.0 to id bytes k).at_once), replies_so past h.1)
