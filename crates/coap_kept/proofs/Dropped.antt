-- What waits is dropped, one datagram after the other.
use Rattle.std.proofs.Common.{◌≡◌, ℕ, List, [], ◌∷◌, ◌++◌, ◌+◌, ◌-◌, ◌<◌, ◌≤◌, ◌^◌, arith, length, min, refl, subst}
use Rattle.std.proofs.Common.{ap, sym, ◌∙◌, Bool, false, not, ◌&&◌, if◌then◌else◌}
use Rattle.std.proofs.lemmas.List.{length-append}
use Rattle.coap_layer.specs.Trace.{Packet}
use Rattle.coap_journaled.specs.Journal.{IsTaken, Journal, is_empty, most}
use Rattle.coap_kept.specs.Draining.{Drops, may_go}

module _ {S F : Type 0} (gives : S → Packet → S → Type 0) where
  pub drops_snoc : (old between : Journal S F) (ps : List Packet) (p : Packet) (new : Journal S F)
      → Drops gives old ps between → IsTaken between new → gives between.end p new.end
      → Drops gives old (ps ++ p ∷ []) new
  drops_snoc old between [] p new is taken given = (
    new,
    subst (λ (j : Journal S F). IsTaken j new) is taken,
    subst (λ (j : Journal S F). gives j.end p new.end) is given,
    refl,
  )
  drops_snoc old between (q ∷ qs) p new so taken given =
      (so.0, so.1, so.2, drops_snoc so.0 between qs p new so.3 taken given)

  -- .. by what follows from a datagram that is taken
  pub drops_by : (also : S → Packet → S → Type 0) → ((s : S) (p : Packet) (n : S) → gives s p n → also s p n)
      → (old : Journal S F) (ps : List Packet) (new : Journal S F) → Drops gives old ps new → Drops also old ps new
  drops_by also by old [] new is = is
  drops_by also by old (p ∷ ps) new so = (so.0, so.1, by _ _ _ so.2, drops_by also by so.0 ps new so.3)

-- the bound of what waits now is one of what waited first
pub few_first : (ps ws vs : List Packet) → ws ≡ ps ++ vs → (0 < length ps → length ws < 2 ^ 64)
    → length vs < 2 ^ 64 → length ws < 2 ^ 64
few_first [] ws vs parts before now = subst (λ (xs : List Packet). length xs < 2 ^ 64) (sym parts) now
few_first (p ∷ ps) ws vs parts before now = before (omega arith)

-- .. where none was dropped yet
pub none_first : {X : Type 0} → 0 < 0 → X
none_first few = absurd (omega (arith, few))

-- one more is counted
pub counted_on : (n m : ℕ) (ps : List Packet) (p : Packet) (ws vs : List Packet) → ws ≡ ps ++ p ∷ vs
    → length ws < 2 ^ 64 → n ≡ length ps → m ≡ min (n + 1) most → m ≡ length (ps ++ p ∷ [])
counted_on n m ps p ws vs parts few count is =
    omega (arith, is, count, few, ap (length {A = Packet}) parts, length-append ps (p ∷ vs), length-append ps (p ∷ []))

-- nothing waits where nothing may go, though each input is in the file
pub none_waits : {S F : Type 0} (waiting : S → List Packet) (j : Journal S F) → j.over ≡ false → j.inputs ≡ []
    → may_go waiting j ≡ [] → waiting j.end ≡ []
none_waits waiting j going none is =
    let over = λ (o : Bool). if not o && is_empty j.inputs then waiting j.end else [] in
    let inputs = λ (i : List ℕ). if is_empty i then waiting j.end else [] in
    sym (ap over going ∙ ap inputs none) ∙ is

-- nothing else changes
pub left_on : {S F : Type 0} (a b c : Journal S F) → b ≡ record a { end = b.end; taken = b.taken; due = b.due }
    → IsTaken b c → c ≡ record a { end = c.end; taken = c.taken; due = c.due }
left_on {S} {F} a b c so_far taken =
    let f = λ (x : Journal S F). record x { end = c.end; taken = c.taken; due = c.due } in
    ap f taken.left ∙ ap f so_far
