-- What each call does to a table of names.
use Rattle.std.specs.Prelude.{◌≡◌, ℕ, ◌+◌, ◌-◌, ◌<◌, ◌≤◌, ◌⊎◌, Bool, true, false, Option, Some, None, List, ◌∷◌}
use Rattle.std.specs.Prelude.{cond, length, take}
use Rattle.std.specs.List.{IsDistinct}
use Rattle.std.specs.Map.{lookup, remove_entry, keys_of}
use Rattle.lru.specs.LruCache.{last_entry}
use Rattle.coap_types.specs.declared.endpoint.Endpoint.{Endpoint}
use Rattle.coap_types.specs.declared.transmission.TheConstants.{EXCHANGE_LIFETIME_MS as exchange_lifetime}
use Rattle.coap_types.specs.SameEndpoint.{same_endpoint}
use Rattle.coap_names.specs.declared.names.Idle.{Idle}
use Rattle.coap_names.specs.Numbered.{numbered, names_in}
use Rattle.coap_names.specs.Trace.{Call, NameOf, Sent, Hold, Release, Retire, Answer, Named, Full, Spent, Did}
use Rattle.coap_names.specs.Tables.{State, touched, idle_at, keyed}

module _ {K : Type 0} (eq : K → K → Bool) where
  -- no key stands twice in a table
  pub record Distinct (s : State K) : Type 0 where
    pub idle : IsDistinct eq (keys_of s.idle)
    pub held : IsDistinct eq (keys_of s.held)
    pub keys : IsDistinct same_endpoint (keys_of s.keys)

  -- a key that has a name that is not held: it keeps it, and is the one of the last datagram
  pub record Touches (old : State K) (at : ℕ) (key : K) (answer : Answer) (new : State K) : Type 0 where
    pub place : Idle
    pub found : lookup (eq key) old.idle ≡ Some place
    pub answer_is : answer ≡ Named place.name
    pub new_is : new ≡ record old { clock = at; idle = touched (eq key) place.name at old.idle }

  -- a key whose name is held: it keeps it
  pub record Keeps (old : State K) (at : ℕ) (key : K) (answer : Answer) (new : State K) : Type 0 where
    pub name : Endpoint
    pub idle : lookup (eq key) old.idle ≡ None
    pub found : lookup (eq key) old.held ≡ Some name
    pub answer_is : answer ≡ Named name
    pub new_is : new ≡ record old { clock = at }

  -- a key that has no name
  pub record IsNew (old : State K) (key : K) : Type 0 where
    pub idle : lookup (eq key) old.idle ≡ None
    pub held : lookup (eq key) old.held ≡ None

  abbrev pub HasPlace : State K → Type 0
  HasPlace old = length old.idle + length old.held < old.setup.most

  -- the next name is the key's, and of the names that are not held these are left
  pub record Gives (old : State K) (at : ℕ) (key : K) (left : List (K × Idle)) (keys : Endpoint → Option K)
      (answer : Answer) (new : State K) : Type 0 where
    pub within : old.given < names_in old.setup.numbering
    pub answer_is : answer ≡ Named (numbered old.given)
    pub setup : new.setup ≡ old.setup
    pub clock : new.clock ≡ at
    pub given : new.given ≡ old.given + 1
    pub idle : new.idle ≡ (key, idle_at (numbered old.given) at) ∷ left
    pub held : new.held ≡ old.held
    pub keyed : (n : Endpoint) → keyed new n ≡ cond (same_endpoint (numbered old.given) n) (Some key) (keys n)

  -- a key that has no name, and there is a place: it gets one
  pub record Adds (old : State K) (at : ℕ) (key : K) (answer : Answer) (new : State K) : Type 0 where
    pub is_new : IsNew old key
    pub place : HasPlace old
    pub gives : Gives old at key old.idle (keyed old) answer new

  -- .. there is none, but the last of those that are not held may be forgotten: it gets its place
  pub record Evicts (old : State K) (at : ℕ) (key : K) (answer : Answer) (new : State K) : Type 0 where
    pub is_new : IsNew old key
    pub full : old.setup.most ≤ length old.idle + length old.held
    pub gone : K × Idle
    pub last : last_entry old.idle ≡ Some gone
    pub over : exchange_lifetime < at - gone.1.at.0
    pub gives : Gives old at key (take (length old.idle - 1) old.idle)
        (λ n. cond (same_endpoint gone.1.name n) None (keyed old n)) answer new

  -- .. it may not be
  pub record IsFull (old : State K) (at : ℕ) (key : K) (answer : Answer) (new : State K) : Type 0 where
    pub is_new : IsNew old key
    pub full : old.setup.most ≤ length old.idle + length old.held
    pub live : (last : K × Idle) → last_entry old.idle ≡ Some last → at - last.1.at.0 ≤ exchange_lifetime
    pub answer_is : answer ≡ Full
    pub new_is : new ≡ record old { clock = at }

  -- all names are used up
  pub record IsSpent (old : State K) (at : ℕ) (key : K) (answer : Answer) (new : State K) : Type 0 where
    pub is_new : IsNew old key
    pub spent : names_in old.setup.numbering ≤ old.given
    pub answer_is : answer ≡ Spent
    pub new_is : new ≡ record old { clock = at }

  -- the name is no key's
  pub record IsNoName (old : State K) (at : ℕ) (name : Endpoint) (answer : Answer) (new : State K) : Type 0 where
    pub nobody : keyed old name ≡ None
    pub answer_is : answer ≡ Did false
    pub new_is : new ≡ record old { clock = at }

  -- the name is this key's, and is not held, or is
  pub record IsIdle (old : State K) (name : Endpoint) (key : K) : Type 0 where
    pub keyed : keyed old name ≡ Some key
    pub place : Idle
    pub found : lookup (eq key) old.idle ≡ Some place

  pub record IsHeld (old : State K) (name : Endpoint) (key : K) : Type 0 where
    pub keyed : keyed old name ≡ Some key
    pub idle : lookup (eq key) old.idle ≡ None

  -- all stays as it is, but for the clock
  pub record Stays (old : State K) (at : ℕ) (done : Bool) (answer : Answer) (new : State K) : Type 0 where
    pub answer_is : answer ≡ Did done
    pub new_is : new ≡ record old { clock = at }

  -- a datagram goes to a key whose name is not held: that counts as one from it
  pub record Sends (old : State K) (at : ℕ) (name : Endpoint) (key : K) (answer : Answer) (new : State K)
      : Type 0 where
    pub keyed : keyed old name ≡ Some key
    pub told : Endpoint
    pub touches : Touches old at key (Named told) new
    pub answer_is : answer ≡ Did true

  -- a name that was not held is held
  pub record Holds (old : State K) (at : ℕ) (name : Endpoint) (key : K) (answer : Answer) (new : State K)
      : Type 0 where
    pub is_idle : IsIdle old name key
    pub answer_is : answer ≡ Did true
    pub setup : new.setup ≡ old.setup
    pub clock : new.clock ≡ at
    pub given : new.given ≡ old.given
    pub idle : new.idle ≡ remove_entry (eq key) old.idle
    pub held : (q : K) → lookup (eq q) new.held ≡ cond (eq key q) (Some name) (lookup (eq q) old.held)
    pub fewer : length new.idle + 1 ≡ length old.idle
    pub longer : length new.held ≤ length old.held + 1
    pub keys : new.keys ≡ old.keys

  -- a name that was held is held no more: that counts as a datagram, too
  pub record Releases (old : State K) (at : ℕ) (name : Endpoint) (key : K) (answer : Answer) (new : State K)
      : Type 0 where
    pub is_held : IsHeld old name key
    pub answer_is : answer ≡ Did true
    pub setup : new.setup ≡ old.setup
    pub clock : new.clock ≡ at
    pub given : new.given ≡ old.given
    pub idle : new.idle ≡ (key, idle_at name at) ∷ old.idle
    pub held : (q : K) → lookup (eq q) new.held ≡ cond (eq key q) None (lookup (eq q) old.held)
    pub fewer : (n : Endpoint) → lookup (eq key) old.held ≡ Some n → length new.held + 1 ≡ length old.held
    pub keys : new.keys ≡ old.keys

  -- the key has no name any more
  pub record Retires (old : State K) (at : ℕ) (name : Endpoint) (key : K) (answer : Answer) (new : State K)
      : Type 0 where
    pub keyed : keyed old name ≡ Some key
    pub answer_is : answer ≡ Did true
    pub setup : new.setup ≡ old.setup
    pub clock : new.clock ≡ at
    pub given : new.given ≡ old.given
    pub idle : new.idle ≡ remove_entry (eq key) old.idle
    pub held : (q : K) → lookup (eq q) new.held ≡ cond (eq key q) None (lookup (eq q) old.held)
    pub longer : length new.held ≤ length old.held
    pub keys : (n : Endpoint) → lookup (same_endpoint n) new.keys
        ≡ cond (same_endpoint name n) None (lookup (same_endpoint n) old.keys)

  -- a datagram came from a key that has no name
  abbrev pub Comes : State K → ℕ → K → Answer → State K → Type 0
  Comes old at key answer new =
      Adds old at key answer new ⊎ (Evicts old at key answer new
      ⊎ (IsFull old at key answer new ⊎ IsSpent old at key answer new))

  abbrev pub Does : State K → ℕ → Call K → Answer → State K → Type 0
  Does old at (NameOf key) answer new =
      Touches old at key answer new ⊎ (Keeps old at key answer new ⊎ Comes old at key answer new)
  Does old at (Sent name) answer new =
      IsNoName old at name answer new ⊎ (((key : K) × Sends old at name key answer new)
      ⊎ (((key : K) × IsHeld old name key) × Stays old at true answer new))
  Does old at (Hold name) answer new =
      IsNoName old at name answer new ⊎ (((key : K) × Holds old at name key answer new)
      ⊎ (((key : K) × IsHeld old name key) × Stays old at true answer new))
  Does old at (Release name) answer new =
      IsNoName old at name answer new ⊎ (((key : K) × Releases old at name key answer new)
      ⊎ (((key : K) × IsIdle old name key) × Stays old at false answer new))
  Does old at (Retire name) answer new =
      IsNoName old at name answer new ⊎ ((key : K) × Retires old at name key answer new)

  -- one call, at a moment that is not before the last one
  pub record Step (old : State K) (at : ℕ) (call : Call K) (answer : Answer) (new : State K) : Type 0 where
    pub distinct : Distinct old
    pub later : old.clock ≤ at
    pub does : Does old at call answer new
