-- What a path holds changes by a local change of it, or by the request to it that is applied there.
use Rattle.std.proofs.Common.{◌≡◌, ◌⊎◌, inl, inr, Bool, true, false, Option, Some, None, List, [], ◌∷◌, ℕ, refl, ap}
use Rattle.std.proofs.Common.{sym, subst, ◌∙◌, cond, ◌==◌}
use Rattle.coap_types.specs.Past.{Always}
use Rattle.coap_types.specs.Path.{same_path}
use Rattle.coap_types.proofs.Facts.Paths.{same_path-decides}
use Rattle.coap_resource.specs.Content.{Content}
use Rattle.coap_server.specs.Trace.{Own, Call, Sets, Removes}
use Rattle.coap_server.specs.Law.{own_of}
use Rattle.coap_server.specs.Follows.Holds.{Change, change, change_of, changed_by, held_then, ServesRight}
use Rattle.coap_server.specs.Follows.Serves.{Serving, serving}
use Rattle.coap_server.proofs.Facts.Holds.{all_served}
use Rattle.coap_record.specs.Events.{Config}
use Rattle.coap_promise.specs.Holds.{ChangesLocally, AppliesTo, Changes, IsOwned, ChangesOwned}
use Rattle.coap_record.specs.Record.{Entry, OfClient, OfServer, server_trace}
use Rattle.coap_promise.specs.Words.{last_at}
use Rattle.coap_promise.proofs.Facts.Requests.HoldsChanges.{Rows, rows_back, last_is}

-- a change that is made of a path is of that path
path_of : (path : List (List ℕ)) (old left : Content) (y : Change) → change_of path old left ≡ Some y → y.path ≡ path
path_of path old left y h = by (left.tally.version == old.tally.version) h
  where
    by : (b : Bool) → cond b None (Some (record { path = path; version = left.tally.version; held = left.holds path }))
        ≡ Some y → y.path ≡ path
    by true h = absurd (cc h)
    by false h = let same : ◌≡◌ {A = Change} (record
        { path = path; version = left.tally.version; held = left.holds path }) y =
        cc h in sym (ap (λ (z : Change). z.path) same)

module _ (config : Config) (past : List Entry) where
  abbrev own : Own
  own = own_of config.limits config.server_szx (server_trace config past)

  abbrev Right : Call → Type 0
  Right c = ServesRight config.limits config.server_szx (server_trace config past) c

  abbrev Owner : List (List ℕ) → Call → Type 0
  Owner path c = ChangesLocally path (OfServer c) ⊎ AppliesTo config path past (OfServer c)

  by_serving : (c : Call) → Right c → (o : Option Serving) → serving own c ≡ o → (y : Change) → change own c ≡ Some y
      → changed_by o ≡ Some y → Owner y.path c
  by_serving c right None is y h k = absurd (cc k)
  by_serving c right (Some x) is y h k = inr (record {
    request = x;
    here = is;
    applied = right.changes_by x y is h;
    path_is = sym (path_of x.question.path x.old x.left y k);
  })

  owner : (c : Call) → Right c → (y : Change) → change own c ≡ Some y → Owner y.path c
  owner (Sets now path format body answer left) right y h = inl (sym (path_of path own.store left y h))
  owner (Removes now path answer left) right y h = inl (sym (path_of path own.store left y h))
  owner c right y h = by_serving c right _ refl y h h

  owned_by : (c : Call) → Right c → (path : List (List ℕ)) (o : Option Change) → change own c ≡ o
      → (held_then path o (last_at config path past) ≡ last_at config path past) ⊎ Owner path c
  owned_by c right path None is = inl refl
  owned_by c right path (Some y) is = by (same_path y.path path) refl
    where
      by : (b : Bool) → same_path y.path path ≡ b
          → (cond b y.held (last_at config path past) ≡ last_at config path past) ⊎ Owner path c
      by true same = inr (subst (λ p. Owner p c) ((same_path-decides y.path path).0 same) (owner c right y is))
      by false apart = inl refl

owned_here : (config : Config) (past : List Entry) (e : Entry) → Rows config (e ∷ past) → (path : List (List ℕ))
    → IsOwned config path past e
owned_here config past (OfClient c) rows path = inl refl
owned_here config past (OfServer c) rows path =
    let right = (all_served config.limits config.server_szx (server_trace config (OfServer c ∷ past)) rows).0 in
    elim (owned_by config past c right path (change (own config past) c) refl) [
      | inl stays ↦ inl (last_is config (OfServer c ∷ past) rows path ∙ (stays ∙ sym (last_is config past rows.1 path)))
      | inr whose ↦ inr whose
    ]

stays : (config : Config) (all : List Entry) → Rows config all → (path : List (List ℕ))
    → Always (IsOwned config path) all
stays config [] rows path = tt
stays config (e ∷ past) rows path = (
  owned_here config past e rows path,
  stays config past (rows_back config e past rows) path,
)

whose_here : (config : Config) (past : List Entry) (e : Entry) → Rows config (e ∷ past) → (x : Change)
    → Changes config x past e → ChangesLocally x.path e ⊎ AppliesTo config x.path past e
whose_here config past (OfClient c) rows x h = absurd h
whose_here config past (OfServer c) rows x h =
    owner config past c (all_served config.limits config.server_szx (server_trace config (OfServer c ∷ past)) rows).0 x
    h

whose : (config : Config) (all : List Entry) → Rows config all
    → Always (λ past e. (x : Change) → Changes config x past e
    → ChangesLocally x.path e ⊎ AppliesTo config x.path past e) all
whose config [] rows = tt
whose config (e ∷ past) rows = (whose_here config past e rows, whose config past (rows_back config e past rows))

pub owned : (config : Config) (all : List Entry) → Rows config all → ChangesOwned config all
owned config all rows = record { whose = whose config all rows; stays = stays config all rows }
