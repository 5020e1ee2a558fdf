-- In a legal run a GET makes no more exchanges than all passes over a body of the larger limit have blocks: where one
-- goes on behind the client's limit, the server's is larger.
use Rattle.std.proofs.Common.{◌≡◌, ◌≤◌, ◌<◌, inl, inr, ℕ, ◌+◌, ◌*◌, ◌^◌, max, Bool, true, false, List, [], ◌∷◌, length}
use Rattle.std.proofs.Common.{arith}
use Rattle.std.proofs.lemmas.Nat.{pow-add}
use Rattle.coap_types.specs.Past.{Sometime}
use Rattle.coap_types.specs.Piece.{size_of, offset_of, Piece}
use Rattle.coap_types.specs.declared.request.Method.{Method}
use Rattle.coap_types.specs.declared.request.Method.TheVariants.{Get}
use Rattle.coap_client_laws.specs.Follows.Bounds.{max_blocks, most_requests, requests}
use Rattle.coap_client.specs.Trace as C
use Rattle.coap_client.specs.Trace.{Request}
use Rattle.coap_client_laws.proofs.Facts.WhatIsBeyond.{HearsBeyond, all_passes}
use Rattle.coap_client_laws.proofs.Facts.EachCall.{within_or_beyond, are_bounded}
use Rattle.coap_promise.specs.Bounds.{most_exchanges, AreBounded}
use Rattle.coap_record.specs.Events.{Config}
use Rattle.coap_record.specs.Record.{Entry, OfClient, OfServer, client_of, server_trace}
use Rattle.coap_promise.proofs.Any.Requests.OfACall.{Lawful, lawful_back}
use Rattle.coap_promise.proofs.Reports.BodiesHeld.{heard_shown}
use Rattle.coap_promise.proofs.Reports.BodiesShort.{was_short}
use Rattle.coap_promise.proofs.Facts.Reports.FormatsSet.{FormatsIn}
use Rattle.coap_promise.proofs.Facts.Reports.HeldThere.{some_shown}
use Rattle.coap_promise.proofs.Facts.Reports.Shown.{formats_back}

-- a piece behind which more follows ends before the body
ends_before : (body : List ℕ) (num szx : ℕ) (more : Bool) (part : List ℕ) → Piece body num more szx part → more ≡ true
    → offset_of num szx + size_of szx < length body
ends_before body num szx more part p is = by_not (λ k. let e : more ≡ false = p.reaches_end.1 k in absurd (cc (is, e)))
  where
    by_not : (length body ≤ offset_of num szx + size_of szx → ⊥) → offset_of num szx + size_of szx < length body
    by_not h = omega (arith, h)

-- blocks of the longest body

-- a body that ends behind so many blocks has one more
more_blocks : (k limit : ℕ) → 16 * k < limit → k + 1 ≤ max_blocks limit
more_blocks k limit less = omega (arith, less)

-- .. and one that ends with them, no more
few_blocks : (k limit : ℕ) → 1 ≤ limit → limit ≤ 16 * k → max_blocks limit ≤ k
few_blocks k limit some less = omega (arith, some, less)

longer : (a b : ℕ) → a ≤ b → max_blocks a ≤ max_blocks b
longer a b le = omega (arith, le)

-- what ends a block of any size is a multiple of 16 bytes
in_blocks : (num szx : ℕ) → (k : ℕ) × (offset_of num szx + size_of szx ≡ 16 * k)
in_blocks num szx = ((num + 1) * 2 ^ szx, rw (pow-add 2 szx 4) (omega arith))

module _ (config : Config) (small : config.server_szx ≤ 6) (some : 1 ≤ config.client_sizes.limit) where
  -- What goes on behind the client's limit is of a body that is longer: the server's limit has one block more.
  pub record HasMore : Type 0 where
    pub one_more : max_blocks config.client_sizes.limit + 1 ≤ max_blocks config.limits.body

  -- what is heard shows a part of what was held
  more_here : (number : ℕ) (past : List Entry) (c : C.Call) → Lawful config (OfClient c ∷ past) → FormatsIn past
      → HearsBeyond config.client_sizes number (client_of past) c → HasMore
  more_here number past c law formats h =
      let m = h.message in
      let g = h.part in
      let before = lawful_back config past (OfClient c) law in
      let k = some_shown config m past (heard_shown config small past c law formats m h.heard.heard h.code) in
      let ends = ends_before k.held.body g.block.num g.block.szx g.block.more m.payload
      (k.shown.part.piece g.block g.says) g.more in
      let short = was_short config k.path k.held (server_trace config past) before.server k.was in
      let beyond = g.beyond in
      let place = in_blocks g.block.num g.block.szx in
      let same = place.1 in
      let few = few_blocks place.0 config.client_sizes.limit some (omega (arith, beyond, same)) in
      let many = more_blocks place.0 config.limits.body (omega (arith, ends, short, same)) in
      record { one_more = omega (arith, few, many) }

  more_beyond : (number : ℕ) (w : List Entry) → Lawful config w → FormatsIn w
      → Sometime (HearsBeyond config.client_sizes number) (client_of w) → HasMore
  more_beyond number [] law formats h = absurd h
  more_beyond number (OfServer c ∷ past) law formats h =
      more_beyond number past (lawful_back config past (OfServer c) law)
      (formats_back config past (OfServer c) formats) h
  more_beyond number (OfClient c ∷ past) law formats (inl h) = more_here number past c law formats h
  more_beyond number (OfClient c ∷ past) law formats (inr h) =
      more_beyond number past (lawful_back config past (OfClient c) law) formats h

  by_method : (r : Request) (method : Method) (n : ℕ) → n ≤ most_requests config.client_sizes r method
      → (n ≤ most_requests config.client_sizes r Get → n ≤ most_exchanges config r Get)
      → n ≤ most_exchanges config r method
  by_method r Get n few passes = passes few
  by_method r _ n few passes = few

  within : (r : Request) (n : ℕ) → n ≤ all_passes config.client_sizes.limit → n ≤ most_exchanges config r Get
  within r n few =
      let l = longer config.client_sizes.limit (max config.client_sizes.limit config.limits.body) (omega arith) in
      omega (arith, few, l)

  beyond : (r : Request) (n : ℕ) → HasMore → n ≤ most_requests config.client_sizes r Get
      → n ≤ most_exchanges config r Get
  beyond r n more few =
      let one = more.one_more in
      let l = longer config.limits.body (max config.client_sizes.limit config.limits.body) (omega arith) in
      omega (arith, few, one, l)

  pub bounded : (all : List Entry) → Lawful config all → FormatsIn all → AreBounded config all
  bounded all law formats x was =
      let t : List C.Call = client_of all in
      let n = requests config.client_sizes x.number t in
      let few = are_bounded config.addresses.server config.client_sizes config.client_setup t law.client x was in
      elim (within_or_beyond config.addresses.server config.client_sizes config.client_setup t law.client x.number) [
        | inl passes ↦ by_method x.request x.request.method n few (λ k. within x.request n passes)
        | inr more ↦ by_method x.request x.request.method n few
            (beyond x.request n (more_beyond x.number all law formats more))
      ]
