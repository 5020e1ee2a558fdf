-- When the rest of a representation is wanted, and what starts at a tick then: that fetch, before all that waits, and
-- of several the one of the lowest number (RFC 7252, section 4.7; RFC 7959, section 2.6).
use Rattle.std.specs.Prelude.{◌≡◌, ◌≤◌, ℕ, true, Option, Some, None, List, ◌∷◌}
use Rattle.coap_types.specs.Past.{Always}
use Rattle.coap_block.specs.Sizes.{Sizes}
use Rattle.coap_block.specs.declared.fetch_verdict.Verdict.TheVariants as verdict
use Rattle.coap_block.specs.FetchStep as F
use Rattle.coap_exchange.specs.declared.asker.Turn.{Turn}
use Rattle.coap_exchange.specs.declared.asker.Turn.TheVariants as turn
use Rattle.coap_client.specs.Trace.{Call, Ticks}
use Rattle.coap_client.specs.Own.{Fetching, Notified, Own}
use Rattle.coap_client.specs.Observations.{rest_of, fetch_of}
use Rattle.coap_client.specs.Responses.{part}
use Rattle.coap_client.specs.Law.{own_of}
use Rattle.coap_client_laws.specs.Follows.Newer.{Newly, notifies}
use Rattle.coap_client_laws.specs.Follows.Taken.{asked_for, starts}

-- the rest of the observation's representation is wanted: a notification brought the first block
abbrev pub IsWanted : ℕ → Own → Type 0
IsWanted number s = (rest : Notified) × (rest_of number s.observations ≡ Some rest)

-- what the exchanges do at a tick
abbrev pub turn_in : Call → Option Turn
turn_in (Ticks now word below turn sent token kept answer) = Some turn
turn_in c = None

-- the fetch for this observation is asked for, and for none of a lower number one is wanted
pub record StartsLowest (s : Own) (c : Call) (number : ℕ) : Type 0 where
  pub asked : asked_for s c ≡ Some (Fetching number)
  pub wanted : IsWanted number s
  pub lowest : (other : ℕ) → IsWanted other s → number ≤ other

module _ (sizes : Sizes) where
  pub record FetchesFirst (past : List Call) (c : Call) : Type 0 where
    -- Where a fetch is wanted, none of what waits starts.
    pub none_starts : (number : ℕ) → IsWanted number (own_of sizes past) → starts (own_of sizes past) c ≡ true → ⊥
    -- Where one is wanted, nothing runs and nothing of the exchanges is due, a tick starts that of the lowest number;
    pub one_starts : (number : ℕ) → IsWanted number (own_of sizes past) → (own_of sizes past).running ≡ None
        → turn_in c ≡ Some turn.Idle → (first : ℕ) × StartsLowest (own_of sizes past) c first
    -- and it starts no other.
    pub no_other : (d : Turn) (number : ℕ) → turn_in c ≡ Some d
        → asked_for (own_of sizes past) c ≡ Some (Fetching number)
        → StartsLowest (own_of sizes past) c number

  abbrev pub AllFetchFirst : List Call → Type 0
  AllFetchFirst t = Always FetchesFirst t

  -- Where a notification is taken whose part is the first of several, the fetch for its observation is wanted from then
  -- on, and asks for the next block.
  pub record Wants (n : Newly) (num size : ℕ) (past : List Call) (c : Call) : Type 0 where
    pub wanted : IsWanted n.number (own_of sizes (c ∷ past))
    pub asks : fetch_of n.number (own_of sizes (c ∷ past)).observations ≡ Some (record { num = num; szx = size })

  abbrev pub AllWant : List Call → Type 0
  AllWant t = Always (λ past c. (n : Newly) (num size : ℕ) → notifies (own_of sizes past) c ≡ Some n
      → part (F.start sizes 0) n.message ≡ verdict.Ask num size → Wants n num size past c) t
