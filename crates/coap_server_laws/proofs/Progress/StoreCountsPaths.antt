-- A store counts its paths: where a path holds something, the count is not 0, and so each change can be made (RFC 7252,
-- section 5.8).
use Rattle.std.proofs.Common.{◌≡◌, ◌≢◌, inl, inr, ℕ, ◌+◌, ◌-◌, ◌≤◌, Bool, true, false, Option, Some, None, is_some}
use Rattle.std.proofs.Common.{List, [], ◌∷◌, length, refl, ap, sym, subst, ◌∙◌, cond, arith}
use Rattle.coap_types.specs.Past.{Ever}
use Rattle.coap_types.specs.Path.{same_path}
use Rattle.coap_types.proofs.Facts.Paths.{same_path-decides}
use Rattle.coap_resource.specs.Content.{Content, Held, Changes}
use Rattle.coap_resource.specs.Limits.{Limits}
use Rattle.coap_resource.specs.Rate.{counted}
use Rattle.coap_server.specs.Trace.{Call}
use Rattle.coap_server.specs.Steps.{after}
use Rattle.coap_server.specs.Law.{own_of, ServerRows}
use Rattle.coap_server.proofs.Facts.Observing.StoreChanges.{Effect}
use Rattle.coap_server.proofs.Facts.Observing.StoreSteps.{is_stored}

-- so many paths, among them each that holds something
pub record AreCounted (s : Content) : Type 0 where
  pub paths : List (List (List ℕ))
  pub many : length paths ≡ s.paths
  pub each : (path : List (List ℕ)) (held : Held) → s.holds path ≡ Some held → Ever (λ p. p ≡ path) paths

-- a list without one of its paths

record IsWithout (path : List (List ℕ)) (paths : List (List (List ℕ))) : Type 0 where
  rest : List (List (List ℕ))
  one : length rest + 1 ≡ length paths
  others : (other : List (List ℕ)) → other ≢ path → Ever (λ p. p ≡ other) paths → Ever (λ p. p ≡ other) rest

without : (path : List (List ℕ)) (paths : List (List (List ℕ))) → Ever (λ p. p ≡ path) paths → IsWithout path paths
without path [] h = absurd h
without path (p ∷ ps) (inl here) = record { rest = ps; one = omega arith; others = by }
  where
    by : (other : List (List ℕ)) → other ≢ path → Ever (λ q. q ≡ other) (p ∷ ps) → Ever (λ q. q ≡ other) ps
    by other differs (inl is) = absurd (differs (sym is ∙ here))
    by other differs (inr is) = is
without path (p ∷ ps) (inr there) =
    let k = without path ps there in
    let one = k.one in
    record { rest = p ∷ k.rest; one = omega (arith, one); others = by k.rest k.others }
  where
    by : (rest : List (List (List ℕ))) → ((other : List (List ℕ)) → other ≢ path → Ever (λ q. q ≡ other) ps
        → Ever (λ q. q ≡ other) rest)
        → (other : List (List ℕ)) → other ≢ path → Ever (λ q. q ≡ other) (p ∷ ps) → Ever (λ q. q ≡ other) (p ∷ rest)
    by rest f other differs (inl is) = inl is
    by rest f other differs (inr is) = inr (f other differs is)

-- what one change leaves
module _ (old left : Content) (at : ℕ) (path : List (List ℕ)) (now : Option Held) (c : Changes old at path now left)
    (k : AreCounted old) where
  each_by : (paths : List (List (List ℕ))) → ((held : Held) → now ≡ Some held → Ever (λ p. p ≡ path) paths)
      → ((other : List (List ℕ)) → other ≢ path → Ever (λ p. p ≡ other) k.paths → Ever (λ p. p ≡ other) paths)
      → (other : List (List ℕ)) (held : Held) → left.holds other ≡ Some held → Ever (λ p. p ≡ other) paths
  each_by paths here there other held h = by (same_path path other) refl
    where
      by : (b : Bool) → same_path path other ≡ b → Ever (λ p. p ≡ other) paths
      by true is =
          let same = (same_path-decides path other).0 is in
          subst (λ o. Ever (λ p. p ≡ o) paths) same (here held (sym c.there ∙ ap left.holds same ∙ h))
      by false is =
          let differs : other ≢ path = λ e. (let same : same_path path other
          ≡ true = (same_path-decides path other).1 (sym e) in cc (same, is)) in
          there other differs (k.each other held (sym (c.others other differs) ∙ h))

  change_counted : (was later : Option Held) → old.holds path ≡ was → now ≡ later
      → left.paths + cond (is_some was) 1 0 ≡ old.paths + cond (is_some later) 1 0 → AreCounted left
  change_counted None None was is sum =
      let many = k.many in
      record {
        paths = k.paths;
        many = omega (arith, many, sum);
        each = each_by k.paths (λ held h. absurd (cc (h, is))) (λ other differs e. e);
      }
  change_counted None (Some new) was is sum =
      let many = k.many in
      record {
        paths = path ∷ k.paths;
        many = omega (arith, many, sum);
        each = each_by (path ∷ k.paths) (λ held h. inl refl) (λ other differs e. inr e);
      }
  change_counted (Some held) (Some new) was is sum =
      let many = k.many in
      record {
        paths = k.paths;
        many = omega (arith, many, sum);
        each = each_by k.paths (λ x h. k.each path held was) (λ other differs e. e);
      }
  change_counted (Some held) None was is sum =
      let many = k.many in
      let w = without path k.paths (k.each path held was) in
      let one = w.one in
      record {
        paths = w.rest;
        many = omega (arith, many, sum, one);
        each = each_by w.rest (λ x h. absurd (cc (h, is))) w.others;
      }

counted_by : (path : List (List ℕ)) (at : ℕ) (old left : Content) → Effect path at old left → AreCounted old
    → AreCounted left
counted_by path at old left (inl kept) k = record {
  paths = k.paths;
  many = k.many ∙ sym kept.paths;
  each = λ path held h. k.each path held (sym (ap (λ f. f path) kept.holds) ∙ h);
}
counted_by path at old left (inr c) k =
    change_counted old left at path c.now c.changes k (old.holds path) c.now refl refl c.changes.paths

-- a change can be made

pub least : (s : Content) → AreCounted s → (path : List (List ℕ)) → cond (is_some (s.holds path)) 1 0 ≤ s.paths
least s k path = by (s.holds path) refl
  where
    some : (paths : List (List (List ℕ))) → length paths ≡ s.paths → Ever (λ p. p ≡ path) paths → 1 ≤ s.paths
    some [] many e = absurd e
    some (p ∷ ps) many e = omega (arith, many)

    by : (o : Option Held) → s.holds path ≡ o → cond (is_some o) 1 0 ≤ s.paths
    by None h = omega arith
    by (Some held) h = some k.paths k.many (k.each path held h)

pub can_change : (old : Content) (at : ℕ) (path : List (List ℕ)) (now : Option Held) → AreCounted old
    → (left : Content) × Changes old at path now left
can_change old at path now k =
    let few = least old k path in (
      record {
        holds = λ p. cond (same_path p path) now (old.holds p);
        paths = (old.paths + cond (is_some now) 1 0) - cond (is_some (old.holds path)) 1 0;
        tally = counted old.tally at;
      },
      record {
        there = ap (λ b. cond b now (old.holds path)) ((same_path-decides path path).1 refl);
        others = λ other differs. at_other other differs (same_path other path) refl;
        paths = omega (arith, few);
        tally = refl;
      },
    )
  where
    at_other : (other : List (List ℕ)) → other ≢ path → (b : Bool) → same_path other path ≡ b
        → cond b now (old.holds other) ≡ old.holds other
    at_other other differs true h = absurd (differs ((same_path-decides other path).0 h))
    at_other other differs false h = refl

-- the store of a server
pub store_counted : (limits : Limits) (szx : ℕ) (t : List Call) → ServerRows limits szx t
    → AreCounted (own_of limits szx t).store
store_counted limits szx [] rows = record { paths = []; many = refl; each = λ path held h. absurd (cc h) }
store_counted limits szx (c ∷ t) rows =
    let s = own_of limits szx t in
    let k = is_stored s c rows.0 in
    counted_by k.path (after s c).clock s.store (after s c).store k.effect (store_counted limits szx t rows.1)
