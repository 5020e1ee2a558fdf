-- The values of an observation are of notifications in the order in which these came (RFC 7641, section 3.4).
use Rattle.std.specs.Prelude.{◌≡◌, ℕ, Option, Some, None, List, ◌∷◌, if◌then◌else◌}
use Rattle.coap_types.specs.Past.{Sometime, Always}
use Rattle.coap_block.specs.Sizes.{Sizes}
use Rattle.coap_client.specs.Trace.{is_value, Reported, Call}
use Rattle.coap_client.specs.Steps.{reports}
use Rattle.coap_client.specs.Law.{own_of}
use Rattle.coap_client_laws.specs.Follows.Newer.{Newly, notifies}
use Rattle.coap_client_laws.specs.Follows.Notified.{notes, newest}

-- the observation of which a value is reported
abbrev pub value_reported : Option Reported → Option ℕ
value_reported None = None
value_reported (Some r) = if is_value r.report then Some r.number else None

module _ (sizes : Sizes) where
  abbrev pub ShowsValue : ℕ → List Call → Call → Type 0
  ShowsValue number past c = value_reported (reports (own_of sizes past) c) ≡ Some number

  -- a value is reported, of this notification
  pub record Shows (number : ℕ) (n : Newly) (past : List Call) (c : Call) : Type 0 where
    pub value : ShowsValue number past c
    pub is_newest : newest sizes number (c ∷ past) ≡ Some n

  -- the one comes as a notification, and the other one came before
  pub record ComesAfter (earlier later : Newly) (past : List Call) (c : Call) : Type 0 where
    pub comes : notifies (own_of sizes past) c ≡ Some later
    pub noted : notes c ≡ Some later.message
    pub before : Sometime (λ p b. notifies (own_of sizes p) b ≡ Some earlier) past

  -- Of two values the notification of the later one came after that of the earlier one.
  abbrev pub ValuesRise : List Call → Type 0
  ValuesRise trace =
      Always (λ past c. (number : ℕ) (earlier later : Newly) → Shows number later past c
      → Sometime (Shows number earlier) past → Sometime (ComesAfter earlier later) (c ∷ past)) trace
