-- What the values of an argument say, read from them one by one.
use Rattle.std.proofs.Common.{◌≡◌, ◌<◌, ◌+◌, ◌∙◌, ap, sym, refl, subst, arith, ℕ, List, [], ◌∷◌, ◌++◌, length, map}
use Rattle.std.proofs.Common.{take, Option, Some, None, unwrap_or}
use Rattle.std.proofs.Common.{slice_index_or, option_map, suc}
use Rattle.std.specs.Option.{MatchOption}
use Rattle.std.specs.Borrow.{Bor}
use Rattle.std.proofs.lemmas.List.{get_or-map, length-map, length-take, map_more, take_all}
use Rattle.clap.proofs.WalkLemmas.{raw_values-rows}
use Rattle.clap.specs.Matches.{matched_of, raw_values}
use Rattle.clap.specs.Words.{Text, all_of, found_of, rows_of}
use Rattle.clap.specs.declared.parser.matches.ArgMatches.{ArgMatches}
use Rattle.coap_arguments.specs.Texts.{AreTexts, SomeSaysNone, texts_of}

-- the values that clap gives of an argument
pub given_texts : (m : ArgMatches) (name known : Text) (r : Option (Bor (List (Bor Text))))
    (o : Option (Bor (List (Bor Text))))
    → option_map (λ s. map (λ v. v.now) s.now) r ≡ option_map raw_values (matched_of (found_of m) known)
    → known ≡ name → r ≡ o
    → texts_of name (rows_of (found_of m)) ≡ unwrap_or (option_map (λ s. map (λ v. v.now) s.now) o) []
given_texts m name known r o is same what =
    let seen : option_map (λ s. map (λ v. v.now) s.now) r ≡ all_of known (rows_of (found_of m)) =
    is ∙ raw_values-rows (found_of m) known in
    ap (λ v. unwrap_or v [])
    (ap (λ n. all_of n (rows_of (found_of m))) (sym same) ∙ sym seen
    ∙ ap (option_map (λ (s : Bor (List (Bor Text))). map (λ v. v.now) s.now)) what)

pub none_of : {V : Type 0} (P : Type 0) (Q : V → Type 0) (o : Option V) → MatchOption o P Q → o ≡ None → P
none_of P Q None m e = m
none_of P Q (Some x) m e = cc

pub some_of : {V : Type 0} (P : Type 0) (Q : V → Type 0) (o : Option V) (x : V) → MatchOption o P Q → o ≡ Some x → Q x
some_of P Q None x m e = cc
some_of {V} P Q (Some y) x m e = subst Q (ap (λ (v : Option V). unwrap_or v y) e) m

module _ {V : Type 0} (Says : Text → V → Type 0) where
  pub none_said : (texts : List Text) (values : List V) → texts ≡ [] → values ≡ [] → AreTexts Says texts values
  none_said [] [] e f = tt
  none_said [] (v ∷ vs) e f = cc
  none_said (t ∷ ts) vs e f = cc

  more_said : (texts : List Text) (values : List V) (text : Text) (value : V) → AreTexts Says texts values
      → Says text value → AreTexts Says (texts ++ text ∷ []) (values ++ value ∷ [])
  more_said [] [] text value a is = (is, tt)
  more_said [] (v ∷ vs) text value a is = absurd a
  more_said (t ∷ ts) [] text value a is = absurd a
  more_said (t ∷ ts) (v ∷ vs) text value a is = (a.0, more_said ts vs text value a.1 is)

  pub same_length : (texts : List Text) (values : List V) → AreTexts Says texts values → length values ≡ length texts
  same_length [] [] a = refl
  same_length [] (v ∷ vs) a = absurd a
  same_length (t ∷ ts) [] a = absurd a
  same_length (t ∷ ts) (v ∷ vs) a = ap suc (same_length ts vs a.1)

  module _ {X : Type 0} (f : X → Text) (xs : List X) (i : ℕ) (d : X) (lt : i < length xs) where
    pub one_more : (values new : List V) (value : V) → AreTexts Says (map f (take i xs)) values
        → Says (f (slice_index_or xs i d)) value → new ≡ values ++ value ∷ []
        → AreTexts Says (map f (take (i + 1) xs)) new
    one_more values new value before is same =
        subst (λ (vs : List V). AreTexts Says (map f (take (i + 1) xs)) vs) (sym same)
        (subst (λ (ts : List Text). AreTexts Says ts (values ++ value ∷ [])) (sym (map_more f xs i d lt))
        (more_said (map f (take i xs)) values (f (slice_index_or xs i d)) value before is))

    pub refused_at : (texts : List Text) → texts ≡ map f xs
        → ((v : V) → Says (f (slice_index_or xs i d)) v → ⊥) → SomeSaysNone Says texts
    refused_at texts same refused =
        let x = f (slice_index_or xs i d) in
        subst (λ (ts : List Text). SomeSaysNone Says ts) (sym same)
        (i, x, subst (λ n. i < n) (sym (length-map xs f)) lt, get_or-map f xs i d x lt, refused)

  -- where as many are said as there may be, and there is one more, there are too many
  pub too_many : {X : Type 0} (f : X → Text) (xs : List X) (i most : ℕ) (texts : List Text) (values : List V)
      → i < length xs → texts ≡ map f xs → AreTexts Says (map f (take i xs)) values
      → length values ≡ most → most < length texts
  too_many f xs i most texts values lt same before full =
      let n : length values ≡ length (take i xs) = same_length _ _ before ∙ length-map (take i xs) f in
      let m : length (take i xs) ≡ i = search (arith, length-take) in
      let all : length texts ≡ length xs = ap length same ∙ length-map xs f in
      omega arith

  pub ended : {X : Type 0} (f : X → Text) (xs : List X) (i : ℕ) (texts : List Text) (values : List V) → i ≡ length xs
      → texts ≡ map f xs → AreTexts Says (map f (take i xs)) values → AreTexts Says texts values
  ended f xs i texts values at_end same before =
      subst (λ (ts : List Text). AreTexts Says ts values) (sym same)
      (subst (λ ys. AreTexts Says (map f ys) values) (take_all i xs (omega arith)) before)
