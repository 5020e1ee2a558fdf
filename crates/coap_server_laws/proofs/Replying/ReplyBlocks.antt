-- Block2 of what the store replies has a value of three bytes, where no path holds more than 1,048,576 bytes.
use Rattle.std.proofs.Common.{◌≡◌, ◌<◌, ◌≤◌, ℕ, ◌+◌, ◌/◌, nat_lt, nat_le, Bool, true, false, ◌&&◌, ◌||◌}
use Rattle.std.proofs.Common.{Option, Some, None, is_some, length, refl, sym, subst, cond, arith}
use Rattle.std.proofs.Math.Nat.{div-le_self}
use Rattle.std.proofs.lemmas.Bool.Decides.{nat_tests}
use Rattle.coap_types.specs.Piece.{size_of}
use Rattle.coap_types.specs.declared.block.Block.{Block}
use Rattle.coap_resource.specs.Content.{Content, Held}
use Rattle.coap_resource.specs.RequestOptions.{block_of, offset_by, szx_by}
use Rattle.coap_resource.specs.ResponseOptions.{block_number}
use Rattle.coap_resource.specs.Serves.{Question, Reply, bare, content_reply, got}
use Rattle.coap_resource.specs.Serves as R
use Rattle.coap_resource.proofs.Facts.Outcomes.{Outcome, outcome, unmet, shown, refused, absent, gone, put, joined}
use Rattle.coap_resource.proofs.Facts.Outcomes.{removed, Got, got_by, not_there, unacceptable, known, beyond, shows}
use Rattle.coap_server_laws.proofs.Replying.OptionsRecognised.{IsSmall, value_small}

abbrev pub HasSmallBlock : Reply → Type 0
HasSmallBlock reply = IsSmall (block_number reply.block2)

of_bare : (reply : Reply) (code offset : ℕ) → reply ≡ bare code offset → HasSmallBlock reply
of_bare reply code offset h = subst HasSmallBlock (sym h) tt

-- a part of a body

before_end : (offset len : ℕ) → len ≤ 1048576 → (nat_lt 0 offset && nat_le len offset) ≡ false → offset ≤ 1048575
before_end offset len short h = by (nat_lt 0 offset) (nat_le len offset) refl refl h
  where
    by : (b c : Bool) → nat_lt 0 offset ≡ b → nat_le len offset ≡ c → (b && c) ≡ false → offset ≤ 1048575
    by true true is there k = absurd (cc k)
    by true false is there k = let less : offset < len = grind (arith, nat_tests, there) in omega (arith, less, short)
    by false c is there k = let none : offset ≤ 0 = grind (arith, nat_tests, is) in omega (arith, none)

part_small : (held : Held) (by_block : Bool) (offset szx : ℕ) → szx ≤ 6 → offset ≤ 1048575
    → HasSmallBlock (content_reply held by_block offset szx)
part_small held by_block offset szx size low = by (by_block || nat_lt (size_of szx) (length held.body))
  where
    by : (b : Bool) → IsSmall (block_number (cond b
        (Some (record {
          num = offset / size_of szx;
          more = nat_lt (offset + size_of szx) (length held.body);
          szx = szx;
        })) None))
    by true =
        let less : offset / size_of szx ≤ offset = div-le_self offset (size_of szx) in
        value_small (offset / size_of szx) szx (nat_lt (offset + size_of szx) (length held.body))
        (at_most (offset / size_of szx) less) size
      where
        at_most : (n : ℕ) → n ≤ offset → n ≤ 1048575
        at_most n less = omega (arith, less, low)
    by false = tt

-- a GET, with the block size of the server or a smaller one

smaller : (o : Option Block) (szx : ℕ) → szx ≤ 6 → szx_by o szx ≤ 6
smaller None szx small = small
smaller (Some b) szx small = omega (arith, small)

pub got_small : (o : Option Held) (q : Question) → ((held : Held) → o ≡ Some held → length held.body ≤ 1048576)
    → q.szx ≤ 6 → HasSmallBlock (got o q)
got_small o q short small = by (got_by o q (got o q) refl)
  where
    by : Got o q (got o q) → HasSmallBlock (got o q)
    by (not_there is) = of_bare _ _ _ is
    by (unacceptable is) = of_bare _ _ _ is
    by (known held there named is) = subst HasSmallBlock (sym is) tt
    by (beyond is) = of_bare _ _ _ is
    by (shows held there within is) =
        subst HasSmallBlock (sym is) (part_small held (is_some (block_of q.options)) (offset_by (block_of q.options))
        (szx_by (block_of q.options) q.szx) (smaller (block_of q.options) q.szx small)
        (before_end (offset_by (block_of q.options)) (length held.body) (short held there) within))

-- .. and all else has none
pub reply_small : (old : Content) (at : ℕ) (q : Question) (reply : Reply) (left : Content)
    → ((held : Held) → old.holds q.path ≡ Some held → length held.body ≤ 1048576) → q.szx ≤ 6
    → R.Serves old at q reply left → HasSmallBlock reply
reply_small old at q reply left short small h = by (outcome old at q reply left h)
  where
    by : Outcome old at q reply left → HasSmallBlock reply
    by (unmet is same) = of_bare reply _ _ is
    by (shown m is same) = subst HasSmallBlock (sym is) (got_small (old.holds q.path) q short small)
    by (refused why is same) = of_bare reply _ _ is
    by (absent m is same) = of_bare reply _ _ is
    by (gone m there is same) = of_bare reply _ _ is
    by (put m free is c) = of_bare reply _ _ is
    by (joined m held there free is c) = of_bare reply _ _ is
    by (removed m free is c) = of_bare reply _ _ is
