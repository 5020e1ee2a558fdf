-- The blocks of a call are pieces of its body, and a number is of one call.
use Rattle.std.proofs.Common.{◌≡◌, ◌≤◌, ◌+◌, inl, inr, ℕ, nat_lt, false, Option, Some, None, List, [], ◌∷◌, length}
use Rattle.std.proofs.Common.{refl, ap, sym, subst, ◌∙◌, arith, Ok}
use Rattle.std.proofs.lemmas.Bool.Decides.{nat_tests}
use Rattle.coap_types.specs.Past.{Ever}
use Rattle.coap_types.specs.Piece.{size_of, offset_of, part_of, Begins, Piece}
use Rattle.coap_types.specs.declared.block.Block.{Block}
use Rattle.coap_block.specs.Sizes.{Sizes}
use Rattle.coap_block.specs.Gathered.{part}
use Rattle.coap_block.specs.UploadStep.{UploadState, block_to_send, more_follows}
use Rattle.coap_block.specs.Whole.{Part, Each, IsPieceOf, Ends, InOrder, WholeAtServer}
use Rattle.coap_block.proofs.Facts.Laws.{one_body_at_server}
use Rattle.coap_block.proofs.Facts.Parts.{ends_behind}
use Rattle.coap_resource.specs.Serves.{Question}
use Rattle.coap_client_laws.specs.Follows.Begins.{WasSent}
use Rattle.coap_client_laws.specs.Follows.Blocks.{carried, SendsPieces}
use Rattle.coap_client_laws.specs.Follows.Numbers.{number_given, NumbersOnce}
use Rattle.coap_client.specs.Trace as C
use Rattle.coap_client.specs.Sendings.{Taken, takes, WasTaken, Sending}

-- pieces, chained to the end, are the body
pub whole_is : (parts : List Part) (a b : List ℕ) → WholeAtServer parts a → Each (IsPieceOf b) parts → a ≡ b
whole_is parts a b w pieces = one_body_at_server parts a b w (inl (in_order w))
  where
    in_order : WholeAtServer parts a → InOrder parts b
    in_order (inl k) = record { pieces = pieces; chained = k.chained; ends = k.ends }
    in_order (inr k) = record {
      pieces = pieces;
      chained = k.chained;
      ends = subst Ends (sym k.split) (ends_behind k.front k.last k.closes);
    }

-- what is sent is a piece
pub begins_at : (sizes : Sizes) (t : List C.Call) → SendsPieces sizes t → (x : Sending) (number : ℕ) (u : UploadState)
    → WasSent sizes x t → carried x.operation ≡ Some (record { number = number; upload = u })
    → Begins u.body u.num u.szx
begins_at sizes [] law x number u h of = absurd h
begins_at sizes (c ∷ t) law x number u (inl h) of = ((law.0 x (record { number = number; upload = u }) h
    of).sent).begins
begins_at sizes (c ∷ t) law x number u (inr h) of = begins_at sizes t law.1 x number u h of

piece_of_body : (u : UploadState) → Begins u.body u.num u.szx
    → Piece u.body u.num (more_follows u) u.szx (part_of u.body u.num u.szx)
piece_of_body u h = record {
  bytes = refl;
  begins = h;
  reaches_end = (
    λ k. ends (offset_of u.num u.szx + size_of u.szx) (length u.body) k,
    λ k. over (offset_of u.num u.szx + size_of u.szx) (length u.body) k,
  );
}
  where
    ends : (a b : ℕ) → nat_lt a b ≡ false → b ≤ a
    ends a b k = grind (arith, nat_tests, k)

    over : (a b : ℕ) → b ≤ a → nat_lt a b ≡ false
    over a b k = grind (arith, nat_tests, k)

pub sent_piece : (sizes : Sizes) (t : List C.Call) → SendsPieces sizes t → (x : Sending) (number : ℕ) (u : UploadState)
    → WasSent sizes x t → carried x.operation ≡ Some (record { number = number; upload = u })
    → (q : Question) (b : Block) → b ≡ block_to_send u → q.body ≡ part_of u.body u.num u.szx
    → IsPieceOf u.body (part b None q.body)
sent_piece sizes t law x number u h of q b is payload =
    subst (λ z. IsPieceOf u.body (part z None q.body)) (sym is)
    (subst (λ z. IsPieceOf u.body (part (block_to_send u) None z)) (sym payload)
    (piece_of_body u (begins_at sizes t law x number u h of)))

-- a number is of one call
pub given_by : (x : Taken) (c : C.Call) → takes c ≡ Some x → number_given c ≡ Some x.number
given_by x (C.Calls now r (Ok number)) h = let e : ◌≡◌ {A = Taken} (record { number = number; request = r }) x =
    cc h in ap (λ (z : Taken). Some z.number) e
given_by x _ h = absurd (cc h)

pub ever_given : (x : Taken) (t : List C.Call) → WasTaken x t → Ever (λ b. number_given b ≡ Some x.number) t
ever_given x [] h = h
ever_given x (c ∷ t) (inl h) = inl (given_by x c h)
ever_given x (c ∷ t) (inr h) = inr (ever_given x t h)

pub one_request : (number : ℕ) (r s : C.Request) (t : List C.Call) → NumbersOnce t
    → WasTaken (record { number = number; request = r }) t → WasTaken (record { number = number; request = s }) t
    → r ≡ s
one_request number r s [] once a b = absurd a
one_request number r s (c ∷ t) once (inl a) (inl b) =
    let both : ◌≡◌ {A = Option Taken} (Some (record { number = number; request = r }))
    (Some (record { number = number; request = s })) = sym a ∙ b in
    let same : ◌≡◌ {A = Taken} (record { number = number; request = r }) (record { number = number; request = s }) =
    cc both in
    ap (λ (z : Taken). z.request) same
one_request number r s (c ∷ t) once (inl a) (inr b) =
    absurd (once.0 number (given_by (record { number = number; request = r }) c a)
    (ever_given (record { number = number; request = s }) t b))
one_request number r s (c ∷ t) once (inr a) (inl b) =
    absurd (once.0 number (given_by (record { number = number; request = s }) c b)
    (ever_given (record { number = number; request = r }) t a))
one_request number r s (c ∷ t) once (inr a) (inr b) = one_request number r s t once.1 a b
