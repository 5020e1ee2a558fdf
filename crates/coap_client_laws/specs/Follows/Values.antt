-- Which parts a value is made of that a client reports of an observation (RFC 7641, section 3.2; RFC 7959, section
-- 2.6).
use Rattle.std.specs.Prelude.{◌≡◌, ◌⊎◌, ℕ, false, Option, Some, List, [], ◌∷◌}
use Rattle.coap_types.specs.Past.{Always}
use Rattle.coap_types.specs.declared.block.Block.{Block}
use Rattle.coap_codec.specs.Message.{Message}
use Rattle.coap_block.specs.Sizes.{Sizes}
use Rattle.coap_block.specs.Gathered.{payloads_of}
use Rattle.coap_block.specs.Whole.{Part, Each, Whole}
use Rattle.coap_client.specs.Trace.{Value, Call}
use Rattle.coap_client.specs.Own.{Fetching}
use Rattle.coap_client.specs.Responses.{content, tag_in, format_in, sequence_in}
use Rattle.coap_client.specs.Effects.{of}
use Rattle.coap_client.specs.Steps.{reports}
use Rattle.coap_client.specs.Law.{own_of}
use Rattle.coap_client.specs.Sendings.{Sending, sends, hears}
use Rattle.coap_client_laws.specs.Follows.Begins.{WasSent}
use Rattle.coap_client_laws.specs.Follows.Bodies.{ComesAs, ComesLast}
use Rattle.coap_client_laws.specs.Follows.Newer.{Newly, notifies}
use Rattle.coap_client_laws.specs.Follows.Notified.{is_newly_of, newest}

module _ (sizes : Sizes) where
  -- the request was sent since the newest notification of the observation came
  abbrev pub SentSince : ℕ → Sending → List Call → Type 0
  SentSince number x [] = ⊥
  SentSince number x (c ∷ past) = (is_newly_of number (notifies (own_of sizes past) c) ≡ false)
      × ((sends (own_of sizes past) c ≡ Some x) ⊎ SentSince number x past)

  -- the message is heard as the answer to a fetch for the observation that was sent since then, under its token
  pub record HeardToFetch (number : ℕ) (m : Message) (past : List Call) (c : Call) : Type 0 where
    pub heard : hears c ≡ Some m
    pub sending : Sending
    pub sent : WasSent sizes sending past
    pub since : SentSince number sending past
    pub fetches : sending.operation ≡ Fetching number
    pub token : sending.token ≡ m.token

  pub record TakesRest (number : ℕ) (p : Part) (past : List Call) (c : Call) : Type 0 where
    pub message : Message
    pub heard : HeardToFetch number message past c
    pub part : ComesAs p message

  -- the part was fetched since the newest notification of the observation came
  abbrev pub TookRest : ℕ → Part → List Call → Type 0
  TookRest number p [] = ⊥
  TookRest number p (c ∷ past) = (is_newly_of number (notifies (own_of sizes past) c) ≡ false)
      × (TakesRest number p past c ⊎ TookRest number p past)

  -- The value is in one notification, which has just come ..
  pub record IsAlone (first : Newly) (parts : List Part) (last : Message) (past : List Call) (c : Call) : Type 0 where
    pub now : notifies (own_of sizes past) c ≡ Some first
    pub is : last ≡ first.message
    pub none : parts ≡ []

  -- .. or it begins with one, and what was fetched since then is the rest.
  pub record IsFetchedFor (number : ℕ) (first : Newly) (parts : List Part) (last : Message) (past : List Call)
      (c : Call) : Type 0 where
    pub heard : HeardToFetch number last past c
    pub part : Part
    pub begins : ComesAs part first.message
    pub rest : List Part
    pub split : parts ≡ part ∷ rest
    pub took : Each (λ p. TookRest number p past) rest

  -- It is whole by the newest notification, whose sequence number it has, and what was fetched for that; the last part
  -- gives its ETag and its format.
  pub record IsObserved (number sequence : ℕ) (tag : Option (List ℕ)) (format : Option ℕ) (body : List ℕ)
      (past : List Call) (c : Call) : Type 0 where
    pub first : Newly
    pub is_newest : newest sizes number (c ∷ past) ≡ Some first
    pub sequence_is : sequence ≡ sequence_in first.message
    pub last : Message
    pub code : last.code ≡ content
    pub parts : List Part
    pub comes : IsAlone first parts last past c ⊎ IsFetchedFor number first parts last past c
    pub block : Option Block
    pub comes_last : ComesLast parts last block
    pub whole : Whole (payloads_of parts block (tag_in last) last.payload) body
    pub tag_is : tag ≡ tag_in last
    pub format_is : format ≡ format_in last

  abbrev pub ValuesAreWhole : List Call → Type 0
  ValuesAreWhole trace =
      Always (λ past c. (number sequence : ℕ) (tag : Option (List ℕ)) (format : Option ℕ) (body : List ℕ)
      → reports (own_of sizes past) c ≡ of number (Value sequence tag format body)
      → IsObserved number sequence tag format body past c) trace
