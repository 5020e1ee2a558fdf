-- Which notifications of an observation a client takes: the answer to its registration first, and then each newer one
-- (RFC 7641, sections 3.2 to 3.4).
use Rattle.std.specs.Prelude.{◌≡◌, ◌⊎◌, ℕ, ◌==◌, Bool, true, false, Option, Some, None, List, [], ◌∷◌}
use Rattle.coap_types.specs.Past.{Always}
use Rattle.coap_codec.specs.Message.{Message}
use Rattle.coap_block.specs.Sizes.{Sizes}
use Rattle.coap_exchange.specs.declared.asker.Event.TheVariants as event
use Rattle.coap_observe.specs.Newer.{Newer}
use Rattle.coap_client.specs.Trace.{Call, Feeds}
use Rattle.coap_client.specs.Own.{Registering}
use Rattle.coap_client.specs.Responses.{is_notification, sequence_in}
use Rattle.coap_client.specs.Law.{own_of}
use Rattle.coap_client.specs.Sendings.{Sending, hears}
use Rattle.coap_client_laws.specs.Follows.Begins.{WasSent}
use Rattle.coap_client_laws.specs.Follows.Newer.{Newly, notifies}

-- the response that a call takes as a notification, under a token that is kept
abbrev pub notes : Call → Option Message
notes (Feeds now from bytes word up settled (Some (event.Notice m)) sent token kept) = Some m
notes c = None

-- it is one of this observation
abbrev pub is_newly_of : ℕ → Option Newly → Bool
is_newly_of number None = false
is_newly_of number (Some n) = n.number == number

abbrev pub newest_if : Option Newly → Bool → Option Newly → Option Newly
newest_if n true last = n
newest_if n false last = last

module _ (sizes : Sizes) where
  -- the notification that was taken last of an observation
  abbrev pub newest : ℕ → List Call → Option Newly
  newest number [] = None
  newest number (c ∷ past) = let n = notifies (own_of sizes past) c in newest_if n (is_newly_of number n)
      (newest number past)

  -- the observation's registration was sent, under this token
  pub record WasRegistered (number : ℕ) (token : List ℕ) (past : List Call) : Type 0 where
    pub path : List (List ℕ)
    pub sending : Sending
    pub sent : WasSent sizes sending past
    pub registers : sending.operation ≡ Registering number path
    pub token_is : sending.token ≡ token

  -- The first is heard as the answer to the registration ..
  pub record IsFirst (n : Newly) (past : List Call) (c : Call) : Type 0 where
    pub heard : hears c ≡ Some n.message
    pub none : newest n.number past ≡ None

  -- .. and each later one comes as a notification, and is newer than the one before.
  pub record IsLater (n : Newly) (past : List Call) (c : Call) : Type 0 where
    pub noted : notes c ≡ Some n.message
    pub before : Newly
    pub last : newest n.number past ≡ Some before
    pub newer : Newer before.mark.number before.mark.at n.mark.number n.mark.at

  -- All are 2.05 with Observe, under the registration's token.
  pub record IsTaken (n : Newly) (past : List Call) (c : Call) : Type 0 where
    pub notification : is_notification n.message ≡ true
    pub sequence : n.mark.number ≡ sequence_in n.message
    pub registered : WasRegistered n.number n.message.token past
    pub comes : IsFirst n past c ⊎ IsLater n past c

  abbrev pub AreTaken : List Call → Type 0
  AreTaken trace = Always (λ past c. (n : Newly) → notifies (own_of sizes past) c ≡ Some n → IsTaken n past c) trace
