-- The blocks that a server takes are those that its assembly takes.
use Rattle.std.proofs.Common.{◌≡◌, ℕ, max, ◌==◌, Bool, true, false, Some, None, List, [], ◌∷◌, ◌++◌, map, length, refl}
use Rattle.std.proofs.Common.{ap, ◌∙◌, cond}
use Rattle.coap_types.specs.declared.block.Block.{Block}
use Rattle.coap_block.specs.declared.block_verdict.BlockVerdict.{BlockVerdict}
use Rattle.coap_block.specs.declared.block_verdict.BlockVerdict.TheVariants.{Refuse, Join, Done}
use Rattle.coap_block.specs.AssemblyState.{Key, AssemblyState, same_key, without_peer}
use Rattle.coap_block.specs.AssemblyStep.{verdict_at, after_block}
use Rattle.coap_block.specs.AssemblyTrace as A
use Rattle.coap_block.specs.AssemblyTrace.{AssemblyTrace, Made, Arrived, Forgot, state_after}
use Rattle.coap_block.specs.Whole.{Part}
use Rattle.coap_block.specs.Gathered.{part}
use Rattle.coap_resource.specs.Serves.{Question}
use Rattle.coap_resource.specs.Limits.{Limits}
use Rattle.coap_exchange.specs.declared.answerer.Asked.{Asked}
use Rattle.coap_server.specs.Trace.{Own, Call, Feeds, Forgets, Ticks, NextOut}
use Rattle.coap_server.specs.Checks.{Verdict, Ignored, Uploads, verdict_on}
use Rattle.coap_server.specs.Uploads.{key_of, uploads_after}
use Rattle.coap_server.specs.Law.{own_of}
use Rattle.coap_server.specs.Follows.Takes.{Took, took, took_by, taken_by, behind, since_with}
use Rattle.coap_server.specs.Follows.Takes.{blocks_since}

-- the history of the assembly
abbrev pub arrived : AssemblyTrace → ℕ → Asked → Verdict → AssemblyTrace
arrived t at a (Uploads q b) = Arrived t at (key_of a q) b q.body
arrived t at a _ = t

abbrev arrived_in : AssemblyTrace → Own → Call → AssemblyTrace
arrived_in t s (Feeds now from bytes word up (Some p) h below) = arrived t (max s.clock now) p.0 (verdict_on s.szx p.1)
arrived_in t s (Forgets peer) = Forgot t peer
arrived_in t s _ = t

abbrev parts_of : List Took → List Part
parts_of xs = map (λ x. x.part) xs

parts_with : (xs : List Took) (x : Took) → parts_of (xs ++ x ∷ []) ≡ parts_of xs ++ x.part ∷ []
parts_with [] x = refl
parts_with (y ∷ xs) x = ap (λ z. y.part ∷ z) (parts_with xs x)

behind_is : (xs : List Took) (a : Asked) (q : Question) (b : Block) (ps : List Part) → parts_of xs ≡ ps
    → parts_of (behind xs (took a q b)) ≡ A.behind ps b q.body
behind_is xs a q b ps e = by (b.num == 0)
  where
    by : (n : Bool) → parts_of (cond n (took a q b ∷ []) (xs ++ took a q b ∷ []))
        ≡ cond n (part b None q.body ∷ []) (ps ++ part b None q.body ∷ [])
    by true = refl
    by false = parts_with xs (took a q b) ∙ ap (λ z. z ++ part b None q.body ∷ []) e

since_same : (key : Key) (v : BlockVerdict) (xs : List Took) (a : Asked) (q : Question) (b : Block) (ps : List Part)
    → parts_of xs ≡ ps
    → parts_of (since_with key (took_by v (took a q b)) xs)
    ≡ cond (same_key (key_of a q) key) (A.blocks_by v b q.body ps) ps
since_same key (Refuse why) xs a q b ps e = by (same_key (key_of a q) key)
  where
    by : (n : Bool) → parts_of xs ≡ cond n ps ps
    by true = e
    by false = e
since_same key (Join szx) xs a q b ps e = by (same_key (key_of a q) key)
  where
    by : (n : Bool) → parts_of (cond n (behind xs (took a q b)) xs) ≡ cond n (A.behind ps b q.body) ps
    by true = behind_is xs a q b ps e
    by false = e
since_same key Done xs a q b ps e = by (same_key (key_of a q) key)
  where
    by : (n : Bool) → parts_of (cond n (behind xs (took a q b)) xs) ≡ cond n (A.behind ps b q.body) ps
    by true = behind_is xs a q b ps e
    by false = e

module _ (limits : Limits) (szx : ℕ) where
  abbrev own : List Call → Own
  own t = own_of limits szx t

  abbrev pub history : List Call → AssemblyTrace
  history [] = Made (record { szx = szx; limit = limits.body })
  history (c ∷ t) = arrived_in (history t) (own t) c

  uploads_with : (v : Verdict) (at : ℕ) (a : Asked) (u : AssemblyState) (h : AssemblyTrace) → u ≡ state_after h
      → uploads_after at a v u ≡ state_after (arrived h at a v)
  uploads_with (Uploads q b) at a u h e = ap (λ z. after_block z at (key_of a q) b q.body) e
  uploads_with _ at a u h e = e

  -- the longest body that it joins stays
  limit_with : (v : Verdict) (at : ℕ) (a : Asked) (u : AssemblyState) → (uploads_after at a v u).limit ≡ u.limit
  limit_with Ignored at a u = refl
  limit_with _ at a u = refl

  pub limit_is : (t : List Call) → (own t).uploads.limit ≡ limits.body
  limit_is [] = refl
  limit_is (Feeds now from bytes word up (Some p) h below ∷ t) =
      limit_with (verdict_on (own t).szx p.1) (max (own t).clock now) p.0 (own t).uploads ∙ limit_is t
  limit_is (Ticks now word below room d passed h id answer ∷ t) = limit_is t
  limit_is (NextOut answer ∷ t) = limit_is t
  limit_is (_ ∷ t) = limit_is t

  -- it leaves what the server keeps of it
  pub uploads_is : (t : List Call) → (own t).uploads ≡ state_after (history t)
  uploads_is [] = refl
  uploads_is (Feeds now from bytes word up (Some p) h below ∷ t) =
      uploads_with (verdict_on (own t).szx p.1) (max (own t).clock now) p.0 (own t).uploads (history t) (uploads_is t)
  uploads_is (Ticks now word below room d passed h id answer ∷ t) = uploads_is t
  uploads_is (NextOut answer ∷ t) = uploads_is t
  uploads_is (Forgets peer ∷ t) = ap (λ u. without_peer peer u) (uploads_is t)
  uploads_is (_ ∷ t) = uploads_is t

  since_with_is : (key : Key) (v : Verdict) (at : ℕ) (a : Asked) (u : AssemblyState) (h : AssemblyTrace)
      (xs : List Took) → u ≡ state_after h → parts_of xs ≡ A.blocks_since key h
      → parts_of (since_with key (taken_by u at a v) xs) ≡ A.blocks_since key (arrived h at a v)
  since_with_is key (Uploads q b) at a u h xs e f =
      ap (λ z. parts_of (since_with key (took_by (verdict_at z at (key_of a q) b (length q.body)) (took a q b)) xs)) e
      ∙ since_same key (verdict_at (state_after h) at (key_of a q) b (length q.body)) xs a q b (A.blocks_since key h) f
  since_with_is key _ at a u h xs e f = f

  -- and so it does of the blocks of a key
  pub since_is : (key : Key) (t : List Call) → parts_of (blocks_since limits szx key t) ≡ A.blocks_since key (history t)
  since_is key [] = refl
  since_is key (Feeds now from bytes word up (Some p) h below ∷ t) =
      since_with_is key (verdict_on (own t).szx p.1) (max (own t).clock now) p.0 (own t).uploads (history t)
      (blocks_since limits szx key t) (uploads_is t) (since_is key t)
  since_is key (Ticks now word below room d passed h id answer ∷ t) = since_is key t
  since_is key (NextOut answer ∷ t) = since_is key t
  since_is key (_ ∷ t) = since_is key t
