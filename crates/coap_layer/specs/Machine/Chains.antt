-- What is kept in the order in which it came, and found by chains. No public clause cites this module.
use Rattle.std.specs.Prelude.{◌≡◌, ◌≤◌, ◌<◌, ◌+◌, ◌-◌, ◌^◌, ◌%◌, ◌⊎◌, ℕ, Bool, true, Option, Some, List}
use Rattle.std.specs.Prelude.{drop, length, map}
use Rattle.std.specs.Prelude.{slice_get}
use Rattle.std.specs.List.{fold}
use Rattle.coap_layer.specs.declared.dedup.log.Linked.{Linked}

-- what is kept, and how many more fit
pub record Logged (K V : Type 0) : Type 0 where
  pub entries : List (K × V)
  pub spare : ℕ

-- the place of a number, where the first one on the pages has that number
abbrev pub place_of : (first number : ℕ) → ℕ
place_of first number = (number + (2 ^ 32 - first)) % 2 ^ 32

-- .. and the number at a place
abbrev pub number_at : (first place : ℕ) → ℕ
number_at first place = (first + place) % 2 ^ 32

-- the hash of a key, 32 bits of it, where a hasher begins so
abbrev pub hash_by : {H K : Type 0} → (finish : H → ℕ) (write : H → List ℕ → H) (begin : H)
    (input : K → List (List ℕ)) → K → ℕ
hash_by finish write begin input key = finish (fold write begin (input key)) % 2 ^ 32

module _ {K V : Type 0} where
  abbrev pub entry_of : Linked K V → K × V
  entry_of l = (l.key, l.value)

  abbrev pub entries_of : ℕ → List (Linked K V) → List (K × V)
  entries_of passed ls = map entry_of (drop passed ls)

  -- links lead back from one place to another
  pub data Leads (first : ℕ) (ls : List (Linked K V)) (to : ℕ) : ℕ → Type 0 where
    there : (from : ℕ) → from ≡ to → Leads first ls to from
    back : (from : ℕ) (l : Linked K V) → slice_get ls from ≡ Some l → place_of first l.link < from
        → Leads first ls to (place_of first l.link) → Leads first ls to from

  -- the one at a place is on the chain of its head
  abbrev pub IsOnChain : (hash : K → ℕ) (heads : List ℕ) (first : ℕ) (ls : List (Linked K V)) → ℕ → Linked K V → Type 0
  IsOnChain hash heads first ls place l =
      (number : ℕ) × (slice_get heads (hash l.key % length heads) ≡ Some number)
      × (place_of first number < length ls)
      × Leads first ls place (place_of first number)

  -- each that isn't forgotten is on a chain of the few heads, or of the many, where all of these are there
  abbrev pub AreOnChains : (hash : K → ℕ) (few many : List ℕ) (most first passed : ℕ) (ls : List (Linked K V)) → Type 0
  AreOnChains hash few many most first passed ls =
      (place : ℕ) (l : Linked K V) → passed ≤ place → slice_get ls place ≡ Some l
      → IsOnChain hash few first ls place l ⊎ ((length many ≡ most) × IsOnChain hash many first ls place l)

  module _ (eq : K → K → Bool) (key : K) (first passed : ℕ) (ls : List (Linked K V)) where
    -- no place that links lead to has that key
    abbrev pub LeadsNowhere : (bound from : ℕ) → Type 0
    LeadsNowhere bound from =
        (place : ℕ) (l : Linked K V) → passed ≤ place → slice_get ls place ≡ Some l → eq key l.key ≡ true
        → from < bound → Leads first ls place from → ⊥

    -- .. from what stands at a head, if something does
    abbrev pub NoneFrom : Option ℕ → Type 0
    NoneFrom head = (number : ℕ) → head ≡ Some number → LeadsNowhere (length ls) (place_of first number)

    -- such a place that links lead to from the first one, they lead to from the second
    abbrev pub LeadsOn : (bound from less to : ℕ) → Type 0
    LeadsOn bound from less to =
        (place : ℕ) (l : Linked K V) → passed ≤ place → slice_get ls place ≡ Some l → eq key l.key ≡ true
        → from < bound → Leads first ls place from → (to < less) × Leads first ls place to

    -- .. and none on a chain of these heads
    abbrev pub NoneOnChain : (hash : K → ℕ) (heads : List ℕ) → Type 0
    NoneOnChain hash heads =
        (place : ℕ) (l : Linked K V) → passed ≤ place → slice_get ls place ≡ Some l → eq key l.key ≡ true
        → IsOnChain hash heads first ls place l → ⊥
