-- What a GET comes to whose answers are the replies of a server whose path holds one representation all the while (RFC
-- 7252, section 5.8.1; RFC 7959, section 2.4).
use Rattle.std.specs.Prelude.{◌≡◌, ◌≤◌, ◌<◌, ◌⊎◌, ℕ, false, true, Option, None, Some, is_some, List, [], ◌++◌}
use Rattle.std.specs.Prelude.{length, take}
use Rattle.coap_types.specs.OptionValues.{value_of}
use Rattle.coap_types.specs.Past.{Always}
use Rattle.coap_types.specs.Piece.{offset_of}
use Rattle.coap_types.specs.declared.block.Block.{Block}
use Rattle.coap_types.specs.declared.option_number.TheConstants.{BLOCK2 as block2}
use Rattle.coap_codec.specs.Message.{Message}
use Rattle.coap_block.specs.FetchStep.{FetchState, verdict, after}
use Rattle.coap_block.specs.Sizes.{Sizes}
use Rattle.coap_block.specs.declared.fetch_progress.Asked.{Asked}
use Rattle.coap_block.specs.declared.fetch_verdict.Verdict.TheVariants.{Done, Ask}
use Rattle.coap_resource.specs.Content.{Held}
use Rattle.coap_resource.specs.RequestOptions.{tag_of, offset_by, szx_by}
use Rattle.coap_resource.specs.Serves.{Reply, content_reply}
use Rattle.coap_client.specs.Trace.{Request, Report, Body, Call}
use Rattle.coap_client.specs.Own.{Fetches, Calling}
use Rattle.coap_client.specs.Responses.{said, content, tag_in, format_in, block_at}
use Rattle.coap_client.specs.Effects.{of}
use Rattle.coap_client.specs.Steps.{reports}
use Rattle.coap_client.specs.Law.{own_of}
use Rattle.coap_client_laws.specs.Follows.OfAnswers.{is_by_answer}
use Rattle.coap_client.specs.Sendings.{hears}

-- the block that is asked for, and the reply to that by a server of this block size
abbrev pub block_asked : Option Asked → Option Block
block_asked None = None
block_asked (Some a) = Some (record { num = a.num; more = false; szx = a.szx })

abbrev pub reply_to : Held → ℕ → Option Asked → Reply
reply_to held szx asked = content_reply held (is_some (block_asked asked)) (offset_by (block_asked asked))
    (szx_by (block_asked asked) szx)

-- A fetch of the representation is at its start, or it has its first bytes, and asks for what follows.

pub record IsBehind (held : Held) (szx : ℕ) (f : FetchState) (a : Asked) : Type 0 where
  pub asked : f.asked ≡ Some a
  pub small : a.szx ≤ szx
  pub place : offset_of a.num a.szx ≡ length f.gathered
  pub left : length f.gathered < length held.body
  pub bytes : f.gathered ≡ take (length f.gathered) held.body
  pub tag : f.tag ≡ Some (tag_of held.version)

abbrev pub FetchesOf : Held → ℕ → FetchState → Type 0
FetchesOf held szx f = ((f.asked ≡ None) × (f.gathered ≡ [])) ⊎ ((a : Asked) × IsBehind held szx f a)

-- The reply makes the body whole, or lets it ask for what follows: it is never refused, and it never begins anew.

abbrev pub GoesOnBy : Held → ℕ → FetchState → Option Block → Option (List ℕ) → List ℕ → Type 0
GoesOnBy held szx f block tag part =
    ((verdict f block tag (length part) ≡ Done) × (f.gathered ++ part ≡ held.body))
    ⊎ ((num : ℕ) × (next : ℕ) × (verdict f block tag (length part) ≡ Ask num next)
    × FetchesOf held szx (after f tag part (Ask num next)))

abbrev pub GoesOn : Held → ℕ → FetchState → Reply → Type 0
GoesOn held szx f r = GoesOnBy held szx f r.block2 r.tag r.part

abbrev pub FetchesUnchanged : Type 0
FetchesUnchanged = (held : Held) (szx : ℕ) (f : FetchState) → length held.body ≤ f.limit → FetchesOf held szx f
    → GoesOn held szx f (reply_to held szx f.asked)

-- a 2.05 says the reply: its Block2, its ETag, its format and its part

abbrev pub SaysBlock : Option Block → Message → Type 0
SaysBlock None m = value_of block2 (said m) ≡ None
SaysBlock (Some b) m = block_at block2 m ≡ Some b

pub record SaysReply (r : Reply) (m : Message) : Type 0 where
  pub code : m.code ≡ content
  pub block : SaysBlock r.block2 m
  pub tag : tag_in m ≡ r.tag
  pub format : format_in m ≡ r.format
  pub part : m.payload ≡ r.part

module _ (sizes : Sizes) (held : Held) (szx number : ℕ) where
  -- each response that is heard for the GET says the reply to what it asked for
  abbrev pub HearsReplies : List Call → Type 0
  HearsReplies trace =
      Always (λ past c. (r : Request) (f : FetchState) (m : Message)
      → (own_of sizes past).running ≡ Some (Calling number r (Fetches f)) → hears c ≡ Some m
      → SaysReply (reply_to held szx f.asked) m) trace

  -- Then it asks for the first block, or for one that begins below the length; and what its answers report is that
  -- representation.
  pub record IsUnchanged (t : List Call) : Type 0 where
    pub fetches : (r : Request) (f : FetchState) → (own_of sizes t).running ≡ Some (Calling number r (Fetches f))
        → FetchesOf held szx f
    pub below : (r : Request) (f : FetchState) (a : Asked)
        → (own_of sizes t).running ≡ Some (Calling number r (Fetches f)) → f.asked ≡ Some a
        → offset_of a.num a.szx < length held.body
    pub whole : Always (λ past c. (r : Request) (f : FetchState) (report : Report)
        → (own_of sizes past).running ≡ Some (Calling number r (Fetches f))
        → reports (own_of sizes past) c ≡ of number report → is_by_answer report ≡ true
        → report ≡ Body (Some (tag_of held.version)) held.format held.body) t

-- whatever is held that is no longer than the client's limit
abbrev pub AreUnchanged : Sizes → List Call → Type 0
AreUnchanged sizes t = (held : Held) (szx number : ℕ) → length held.body ≤ sizes.limit
    → HearsReplies sizes held szx number t → IsUnchanged sizes held szx number t
