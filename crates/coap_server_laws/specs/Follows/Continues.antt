-- What a server answers to a block of an upload that others follow: 2.31, by which the next can be sent, or an error
-- (RFC 7959, sections 2.5 and 2.9).
use Rattle.std.specs.Prelude.{◌≡◌, ◌⊎◌, ◌≤◌, ◌<◌, ℕ, true, Some, None, List, ◌∷◌}
use Rattle.coap_types.specs.Past.{Always}
use Rattle.coap_types.specs.declared.block.Block.{Block}
use Rattle.coap_codec.specs.Message.{Message}
use Rattle.coap_resource.specs.Serves.{Question}
use Rattle.coap_resource.specs.Limits.{Limits}
use Rattle.coap_exchange.specs.declared.answerer.Asked.{Asked}
use Rattle.coap_exchange.specs.AnswererTrace as E
use Rattle.coap_server.specs.Trace.{Call}
use Rattle.coap_server.specs.Checks.{Uploads, bad_request, verdict_on}
use Rattle.coap_server.specs.Responses.{bare}
use Rattle.coap_server.specs.Uploads.{continuing}
use Rattle.coap_server.specs.Law.{own_of}
use Rattle.coap_server.specs.Follows.Attended.{came_in}
use Rattle.coap_server_laws.specs.Follows.Gives.{size_in}
use Rattle.coap_server_laws.specs.Follows.GoesOut.{Sends}
use Rattle.coap_server.specs.Follows.Serves.{serving}
use Rattle.coap_server.specs.Follows.Takes.{Took, takes_block}

-- the size of the block, or at block 0 a smaller one
abbrev pub KeepsSize : (num szx size : ℕ) → Type 0
KeepsSize num szx size = (size ≡ szx) ⊎ ((num ≡ 0) × (size < szx))

-- 2.31 with Block1 of the block's number, M 1 and such a size; or a code from 4.00 on
pub data IsForBlock (b : Block) (r : E.Response) : Type 0 where
  continues : (size : ℕ) → KeepsSize b.num b.szx size → r ≡ continuing size b → IsForBlock b r
  refuses : (code : ℕ) → bad_request ≤ code → r ≡ bare code → IsForBlock b r

module _ (limits : Limits) (szx : ℕ) where
  -- a request with such a block is answered so in that call, and in no other: it isn't served, and doesn't wait
  pub record AnswersBlock (past : List Call) (c : Call) (a : Asked) (b : Block) : Type 0 where
    pub response : E.Response
    pub sends : Sends limits szx past c a response
    pub fits : IsForBlock b response
    pub only : (x : Asked) (r : E.Response) → Sends limits szx past c x r → (x ≡ a) × (r ≡ response)
    pub unserved : serving (own_of limits szx past) c ≡ None
    pub none_waits : (own_of limits szx (c ∷ past)).waiting ≡ (own_of limits szx past).waiting

  pub record ContinuesFit (past : List Call) (c : Call) : Type 0 where
    pub blocks : (p : Asked × Message) (q : Question) (b : Block) → came_in c ≡ Some p
        → verdict_on szx p.1 ≡ Uploads q b → b.more ≡ true → AnswersBlock past c p.0 b
    -- the size that is asked for with 2.31 is such a size
    pub sizes : (x : Took) (size : ℕ) → takes_block (own_of limits szx past) c ≡ Some x
        → size_in (own_of limits szx past) c ≡ Some size → KeepsSize x.part.num x.part.szx size

  abbrev pub AllContinuesFit : List Call → Type 0
  AllContinuesFit t = Always ContinuesFit t
