-- What holds of every history of a table of names.
use Rattle.std.specs.Prelude.{◌≡◌, ◌≢◌, ℕ, ◌+◌, ◌≤◌, ◌⊎◌, Bool, true, Some, None, List, length}
use Rattle.std.specs.Map.{lookup}
use Rattle.coap_types.specs.Past.{Ever, Always, Since}
use Rattle.coap_types.specs.declared.endpoint.Endpoint.{Endpoint}
use Rattle.coap_types.specs.declared.transmission.TheConstants.{EXCHANGE_LIFETIME_MS as exchange_lifetime}
use Rattle.coap_names.specs.declared.names.Idle.{Idle}
use Rattle.coap_names.specs.declared.numbering.Numbering.{Numbering}
use Rattle.coap_names.specs.Numbered.{IsOf}
use Rattle.coap_names.specs.Trace.{NameOf, Sent, Hold, Release, Retire, Named, Full, Did, Entry}
use Rattle.coap_names.specs.Tables.{State, keyed, named}
use Rattle.coap_names.specs.Led.{Runs}
use Rattle.coap_names.specs.Steps.{Step}

module _ {K : Type 0} where
  -- a datagram came from this key, and was given this name
  pub record NamedTo (n : Endpoint) (k : K) (e : Entry K) : Type 0 where
    pub call_is : e.call ≡ NameOf k
    pub answer_is : e.answer ≡ Named n

  -- .. from whichever key
  abbrev pub IsOfName : Endpoint → Entry K → Type 0
  IsOfName n e = (k : K) × NamedTo n k e

  -- a datagram went to the key of this name
  pub record WentTo (n : Endpoint) (e : Entry K) : Type 0 where
    pub call_is : e.call ≡ Sent n
    pub answer_is : e.answer ≡ Did true

  -- a datagram came from the key of this name, or went to it
  abbrev pub HasDatagram : Endpoint → Entry K → Type 0
  HasDatagram n e = IsOfName n e ⊎ WentTo n e

  -- .. so late that it counts at this moment
  pub record IsRecent (now : ℕ) (n : Endpoint) (e : Entry K) : Type 0 where
    pub datagram : HasDatagram n e
    pub within : now ≤ e.at + exchange_lifetime

  pub record IsHold (n : Endpoint) (e : Entry K) : Type 0 where
    pub call_is : e.call ≡ Hold n
    pub answer_is : e.answer ≡ Did true

  -- a name that was held is released
  pub record Released (n : Endpoint) (e : Entry K) : Type 0 where
    pub call_is : e.call ≡ Release n
    pub answer_is : e.answer ≡ Did true

  -- a name is held, and was not released or retired since
  abbrev pub StaysHeld : Endpoint → List (Entry K) → Type 0
  StaysHeld n t = Since (IsHold n) (λ e. (e.call ≢ Release n) × (e.call ≢ Retire n)) t

  -- each name that was ever given is one of this numbering
  abbrev pub NamesAreOf : Numbering → List (Entry K) → Type 0
  NamesAreOf numbering t = (n : Endpoint) → Ever (IsOfName n) t → IsOf numbering n

module _ {K : Type 0} (eq : K → K → Bool) where
  -- a name that was ever given to two keys was given to equal ones
  abbrev pub HasOneOwner : List (Entry K) → Type 0
  HasOneOwner t =
      Always (λ past e. (n : Endpoint) (k other : K) → NamedTo n k e → Ever (NamedTo n other) past
      → eq k other ≡ true) t

  -- the key of a name and the name of a key are each other's
  pub record AreInverse (s : State K) : Type 0 where
    pub forth : (k : K) (n : Endpoint) → named eq s k ≡ Some n
        → (owner : K) × (keyed s n ≡ Some owner) × (eq k owner ≡ true)
    pub back : (n : Endpoint) (owner : K) → keyed s n ≡ Some owner → named eq s owner ≡ Some n

  -- a name that was given and is no key's any more stays no key's, and no datagram comes from it or goes to it
  pub record IsOver (n : Endpoint) (later : List (Entry K)) (s : State K) : Type 0 where
    pub nobody : keyed s n ≡ None
    pub never : Ever (HasDatagram n) later → ⊥

  abbrev pub NeverAgain : List (Entry K) → State K → Type 0
  NeverAgain t s =
      (n : Endpoint) (later : List (Entry K)) (then : State K) → Ever (IsOfName n) t → keyed s n ≡ None
      → Runs eq s later then → IsOver n later then

  -- the name is this key's
  pub record HasName (s : State K) (n : Endpoint) (k : K) : Type 0 where
    pub owner : K
    pub keyed : keyed s n ≡ Some owner
    pub equal : eq k owner ≡ true
    pub named : named eq s k ≡ Some n

  -- a key has the name that it was given, where a datagram came from it or went to it 247 s ago or less, and the name
  -- was not retired since
  abbrev pub KeepsNames : List (Entry K) → State K → Type 0
  KeepsNames t s =
      (n : Endpoint) (k : K) → Ever (NamedTo n k) t → Since (IsRecent s.clock n) (λ e. e.call ≢ Retire n) t
      → HasName s n k

  -- .. and so the next datagram from it is given the same
  abbrev pub GivesTheSame : List (Entry K) → Type 0
  GivesTheSame t =
      Always (λ past e. (n m : Endpoint) (k other : K) → NamedTo m other e → eq other k ≡ true → Ever (NamedTo n k) past
      → Since (IsRecent e.at n) (λ b. b.call ≢ Retire n) past → m ≡ n) t

  -- .. and a name that is held is a key's until it is released or retired
  abbrev pub KeepsHeld : List (Entry K) → State K → Type 0
  KeepsHeld t s = (n : Endpoint) → StaysHeld n t → (k : K) × HasName s n k

  -- at this moment each place is taken: by a name that is held, or by one whose last datagram, or release, came 247 s
  -- ago or less
  pub record AllTaken (most : ℕ) (t : List (Entry K)) (s : State K) (at : ℕ) : Type 0 where
    pub all : length s.idle + length s.held ≡ most
    pub held : (k : K) (n : Endpoint) → lookup (eq k) s.held ≡ Some n → StaysHeld n t
    pub heard : (k : K) (p : Idle) → lookup (eq k) s.idle ≡ Some p
        → (at ≤ p.at.0 + exchange_lifetime)
        × Ever (λ e. (e.at ≡ p.at.0) × (HasDatagram p.name e ⊎ Released p.name e)) t

  abbrev pub FullOnlyWhenTaken : ℕ → List (Entry K) → State K → Type 0
  FullOnlyWhenTaken most t s =
      (at : ℕ) (k : K) (new : State K) → Step eq s at (NameOf k) Full new → AllTaken most t s at
