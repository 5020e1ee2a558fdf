-- What the message layer makes a request, a response or a Reset of is one.
use Rattle.std.proofs.Common.{◌≡◌, inl, inr, ℕ, max, Bool, true, false, List, refl, sym, subst, cond}
use Rattle.coap_types.specs.Roles.{role_of}
use Rattle.coap_types.specs.declared.endpoint.Endpoint.{Endpoint}
use Rattle.coap_types.specs.declared.message.Kind.{Kind}
use Rattle.coap_types.specs.declared.message.Kind.TheVariants.{Con, Non, Ack, Rst}
use Rattle.coap_types.specs.declared.role.Role.{Role}
use Rattle.coap_types.specs.declared.role.Role.TheVariants as role
use Rattle.coap_codec.specs.Message.{Message, Spells}
use Rattle.coap_layer.specs.Arrivals.{Arrival, Unreadable, Faulted, Whole, Shows, arrival_at}
use Rattle.coap_layer.specs.Machine.State as L
use Rattle.coap_layer.specs.Machine.State.{answer_to, is_free, is_outstanding}
use Rattle.coap_layer.specs.Machine.Table.{up_of, again_or}
use Rattle.coap_layer.specs.Trace as T
use Rattle.coap_layer.specs.Words.{is_con}
use Rattle.coap_layer.proofs.Facts.Arrivals.{shows_at}
use Rattle.coap_exchange.specs.Machine.Arrived.{Became, Arrived}

module _ (outstanding : ℕ → Bool) (free : Bool) (bytes : List ℕ) where
  abbrev As : T.Disposition → Type 0
  As = Became outstanding free bytes

  again : (d : T.Disposition) → As d → (remembered full : Bool) → As (again_or remembered full d)
  again d h false false = h
  again d h _ _ = tt

  fault : (b : Bool) → As (cond b T.Rejected T.Dropped)
  fault true = tt
  fault false = tt

  module _ (m : Message) (spelled : Spells bytes m) where
    by_table : (kind : Kind) (c : Role) (o r f : Bool) → m.kind ≡ kind → role_of m.code ≡ c → outstanding m.id ≡ o
        → As (up_of kind c m o r f free)
    by_table Con role.Request o r f is class there = again (T.Request m true) (spelled, inl (is, refl)) r f
    by_table Con role.Response o r f is class there = again (T.Response m) (spelled, class) r f
    by_table Non role.Request o r f is class there = again (T.Request m free) (spelled, inr (is, refl)) r f
    by_table Non role.Response o r f is class there = again (T.Response m) (spelled, class) r f
    by_table Ack role.Empty true r f is class there = tt
    by_table Ack role.Response true r f is class there = (spelled, class)
    by_table Rst role.Empty true r f is class there = record {
      message = m;
      spelled = spelled;
      kind = is;
      class = class;
      id_is = refl;
      awaited = there;
    }
    by_table _ _ o r f is class there = tt

came : (s : L.State) (at : ℕ) (from : Endpoint) (bytes : List ℕ) (what : Arrival) → Shows bytes what
    → Arrived s at from bytes (answer_to s at from what)
came s at from bytes Unreadable shows = tt
came s at from bytes (Faulted kind id) shows =
    fault (λ i. is_outstanding from i s.open_cons) (is_free at s.upcoming s.last_used) bytes (is_con kind)
came s at from bytes (Whole m) shows =
    by_table (λ i. is_outstanding from i s.open_cons) (is_free at s.upcoming s.last_used) bytes m shows m.kind
    (role_of m.code) _ _ _ refl refl refl

became : (a b : T.Disposition) → T.Becomes a ≡ T.Becomes b → a ≡ b
became a b h = cc h

pub arrived : (old new : L.State) (now : ℕ) (from : Endpoint) (bytes : List ℕ) (d : T.Disposition)
    → L.Step old now (T.Receive from bytes) (T.Becomes d) new → Arrived old (max old.clock now) from bytes d
arrived old new now from bytes d step =
    subst (Arrived old (max old.clock now) from bytes) (became _ d (sym step.right))
    (came old (max old.clock now) from bytes (arrival_at bytes) (shows_at bytes))
