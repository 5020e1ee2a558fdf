-- Lists of links: how a text is cut into them, and its first bad place.
use Rattle.std.proofs.Common.{◌≡◌, ◌≢◌, ◌∙◌, ◌⊎◌, ◌+◌, ◌-◌, ◌<◌, ◌≤◌, ℕ, suc, List, [], ◌∷◌, ◌++◌, Option, Some}
use Rattle.std.proofs.Common.{None, Bool}
use Rattle.std.proofs.Common.{true, false, true≢false, add-one, ap, append_assoc, arith, drop, inl, inr, length}
use Rattle.std.proofs.Common.{length-append, refl, subst, sym, take, zero}
use Rattle.std.proofs.Math.Seq.{drop-append_seam, take-append-add, take-append_seam}
use Rattle.std.proofs.lemmas.List.{append-nil, length-take, take-append-drop}
use Rattle.coap_link_format.specs.BadPlaces.{IsBadAt, IsBadFrom, IsFirstBad, IsFormat, IsLeft, IsList, IsOther}
use Rattle.coap_link_format.specs.BadPlaces.{after_comma, fronted, left_len}
use Rattle.coap_link_format.specs.LinkFormat.{AreLinks, IsLink, Spells, behind, joined}
use Rattle.coap_link_format.specs.Places.{is_end, next_place, walked}
use Rattle.coap_link_format.specs.declared.places.Place.{Place}
use Rattle.coap_link_format.specs.declared.places.Place.TheVariants as place
use Rattle.coap_link_format.proofs.Complete.{Ends, comma, link_walks, stops_behind}
use Rattle.coap_link_format.proofs.Sound.{ending, goes_on, is_whole}
use Rattle.coap_link_format.proofs.Walks.{Found, Stops, Walks, found, walked_far}

-- ---- one link

-- A text that begins as a link does up to where no byte leads on: where a list of links begins it, that is its first.
pub record Same (xs r link : List ℕ) (links : List (List ℕ)) (p : Place) : Type 0 where
  pub one : link ≡ xs
  pub rest : r ≡ behind links
  pub end : is_end p ≡ true

first_of : (a b : List ℕ) (x y : List ℕ) → length a ≡ length b → a ++ x ≡ b ++ y → (a ≡ b) × (x ≡ y)
first_of a b x y same is = (
  sym (take-append_seam a x) ∙ (λ i. take (same i) (is i)) ∙ take-append_seam b y,
  sym (drop-append_seam a x) ∙ (λ i. drop (same i) (is i)) ∙ drop-append_seam b y,
)

pub same_link : (xs r link : List ℕ) (links : List (List ℕ)) (p : Place) → Walks place.Begin xs p → Stops p r
    → IsLink link → xs ++ r ≡ link ++ behind links → Same xs r link links p
same_link xs r link links p walks stops is_link is =
    let e = link_walks link is_link in
    let near : ◌≡◌ {A = ℕ × Place} (walked place.Begin (xs ++ r)) (length xs, p) =
    walked_far place.Begin p xs r walks stops in
    let far : ◌≡◌ {A = ℕ × Place} (walked place.Begin (link ++ behind links)) (length link, e.at) =
    walked_far place.Begin e.at link (behind links) e.walks (stops_behind e.at links e.end) in
    let both : ◌≡◌ {A = ℕ × Place} (length xs, p) (length link, e.at) =
    sym near ∙ ap (walked place.Begin) is ∙ far in
    let cut = first_of xs link r (behind links) (ap (λ q. q.0) both) is in
    record {
      one = sym cut.0;
      rest = cut.1;
      end = ap (λ q. is_end q.1) both ∙ e.end;
    }

-- the byte at a place
taken_one : (n : ℕ) (text : List ℕ) (b : ℕ) (more : List ℕ) → drop n text ≡ b ∷ more
    → take (suc n) text ≡ take n text ++ b ∷ []
taken_one zero [] b more is = absurd cc
taken_one zero (c ∷ cs) b more is = let h : c ≡ b = cc in λ i. h i ∷ []
taken_one (suc n) [] b more is = absurd cc
taken_one (suc n) (c ∷ cs) b more is = ap (λ l. c ∷ l) (taken_one n cs b more is)

-- what stands behind the walk is no comma, or it can't end there
abbrev pub Refuses : Place → List ℕ → Type 0
Refuses p rest = (is_end p ≡ false) ⊎ IsOther rest

refused : (p : Place) (rest r link xs : List ℕ) (links : List (List ℕ)) → Refuses p rest
    → ((b : ℕ) (more : List ℕ) → rest ≡ b ∷ more → (later : List ℕ) × (r ≡ b ∷ later)) → Same xs r link links p → ⊥
refused p rest r link xs links (inl shut) on same = absurd (cc (shut, same.end))
refused p rest r link xs [] (inr h) on same =
    let later = on h.0 h.1 h.2 in absurd (cc (later.1, same.rest))
refused p rest r link xs (l ∷ ls) (inr h) on same =
    let later = on h.0 h.1 h.2 in
    let is : h.0 ∷ later.0 ≡ 44 ∷ l ++ behind ls = sym later.1 ∙ same.rest in
    h.3 (cc is)

module _ (text : List ℕ) (n : ℕ) (p : Place) (is : ◌≡◌ {A = ℕ × Place} (n, p) (walked place.Begin text)) where
  there : Found place.Begin text (n, p)
  there = subst (Found place.Begin text) (sym is) (found place.Begin text)

  pub link_of : is_end p ≡ true → IsLink (take n text)
  link_of end =
      subst IsLink (ap (λ l. take n text ++ l) (is_whole p end) ∙ append-nil (take n text))
      (goes_on p (take n text) there.walks)

  at_length : Refuses p (drop n text) → IsList text → ⊥
  at_length refuses list =
      refused p (drop n text) (drop n text) list.0 (take n text) list.1 refuses (λ b more at. (more, at))
      (same_link (take n text) (drop n text) list.0 list.1 p there.walks there.stops list.2.0
      (take-append-drop n text ∙ list.3))

  at_byte : Refuses p (drop n text) → (b : ℕ) (more : List ℕ) → drop n text ≡ b ∷ more → (rest : List ℕ)
      → IsList (take (n + 1) text ++ rest) → ⊥
  at_byte refuses b more at rest list =
      refused p (drop n text) (b ∷ rest) list.0 (take n text) list.1 refuses (λ c later same.
      (rest, (let same_byte : c ≡ b = cc (sym at ∙ same) in ap (λ x. x ∷ rest) (sym same_byte))))
      (same_link (take n text) (b ∷ rest) list.0 list.1 p there.walks
      (let s : Stops p (b ∷ more) = subst (Stops p) at there.stops in s) list.2.0
      (regroup ∙ list.3))
    where
      regroup : take n text ++ b ∷ rest ≡ take (n + 1) text ++ rest
      regroup =
          sym (append_assoc (take n text) (b ∷ []) rest)
          ∙ ap (λ l. l ++ rest) (sym (taken_one n text b more at) ∙ ap (λ k. take k text) (sym (add-one n)))

  pub bad_from : Refuses p (drop n text) → IsBadFrom n text
  bad_from refuses = record {
    within = there.within;
    more = ending p;
    goes_on = (
      take n text ++ ending p,
      [],
      (goes_on p (take n text) there.walks, tt),
      sym (append-nil (take n text ++ ending p)),
    );
    stops = λ short rest list. go (drop n text) refl short rest list;
    ends = λ _ list. at_length refuses list;
  }
    where
      go : (r : List ℕ) → drop n text ≡ r → n < length text → (rest : List ℕ) → IsList (take (n + 1) text ++ rest) → ⊥
      go [] none short rest list =
          let whole : length (take n text ++ drop n text) ≡ length text = ap length (take-append-drop n text) in
          let cut : length (take n text ++ []) ≡ length text = ap (λ l. length (take n text ++ l)) (sym none) ∙ whole in
          absurd (omega (arith, cut, length-append (take n text) [], length-take n text))
      go (b ∷ more) at short rest list = at_byte refuses b more at rest list

-- .. in the words of the code: where the link is what stands before the walk's end, and this behind it
module _ (text link after : List ℕ) (r : ℕ × Place) (is : r ≡ walked place.Begin text) (front : link ≡ take r.0 text)
    (back : after ≡ drop r.0 text) (all : text ≡ link ++ after) where
  pub open_place : is_end r.1 ≡ false → IsBadFrom r.0 text
  open_place end = bad_from text r.0 r.1 is (inl end)

  pub other_byte : IsOther after → IsBadFrom r.0 text
  other_byte other = bad_from text r.0 r.1 is (inr (subst IsOther back other))

  pub whole_link : is_end r.1 ≡ true → (rest : List ℕ) → after ≡ rest → IsLink link × (text ≡ link ++ rest)
  whole_link end rest is_rest = (
    subst IsLink (sym front) (link_of text r.0 r.1 is end),
    all ∙ ap (λ l. link ++ l) is_rest,
  )

-- ---- several

pub all_of : (links more : List (List ℕ)) → AreLinks links → AreLinks more → AreLinks (links ++ more)
all_of [] more are on = on
all_of (link ∷ links) more are on = (are.0, all_of links more are.1 on)

pub fronted_more : (links : List (List ℕ)) (link : List ℕ)
    → fronted (links ++ link ∷ []) ≡ fronted links ++ (link ++ 44 ∷ [])
fronted_more [] link = refl
fronted_more (l ∷ ls) link =
    ap (λ x. l ++ 44 ∷ x) (fronted_more ls link) ∙ sym (append_assoc l (44 ∷ fronted ls) (link ++ 44 ∷ []))

joins : (links : List (List ℕ)) (link : List ℕ) (more : List (List ℕ))
    → joined (links ++ link ∷ more) ≡ fronted links ++ joined (link ∷ more)
joins [] link more = refl
joins (l ∷ ls) link more =
    ap (λ x. l ++ x) (behind_is ls link more ∙ ap (λ x. 44 ∷ x) (joins ls link more))
    ∙ sym (append_assoc l (44 ∷ fronted ls) (joined (link ∷ more)))
  where
    behind_is : (ls : List (List ℕ)) (link : List ℕ) (more : List (List ℕ))
        → behind (ls ++ link ∷ more) ≡ 44 ∷ joined (ls ++ link ∷ more)
    behind_is [] link more = refl
    behind_is (m ∷ ms) link more = refl

pub on_format : (links : List (List ℕ)) (r : List ℕ) → AreLinks links → IsList r → IsFormat (fronted links ++ r)
on_format links r are list = (
  links ++ list.0 ∷ list.1,
  record {
    each = all_of links (list.0 ∷ list.1) are list.2;
    joins = ap (λ x. fronted links ++ x) list.3 ∙ sym (joins links list.0 list.1);
  },
)

no_list : (r : List ℕ) (links : List (List ℕ)) → AreLinks links → r ≡ behind links → (r ≡ [] → ⊥)
    → (link : List ℕ) × (more : List (List ℕ)) × AreLinks (link ∷ more) × (r ≡ 44 ∷ joined (link ∷ more))
no_list r [] are is some = absurd (some is)
no_list r (l ∷ ls) are is some = (l, ls, are, is)

pub off_format : (links : List (List ℕ)) (r : List ℕ) → AreLinks links → IsFormat (fronted links ++ r)
    → (fronted links ++ r ≡ [] → ⊥) → IsList r
off_format [] r are format some = go format.0 format.1.each format.1.joins
  where
    go : (all : List (List ℕ)) → AreLinks all → r ≡ joined all → IsList r
    go [] each is = absurd (some is)
    go (m ∷ ms) each is = (m, ms, each, is)
off_format (l ∷ ls) r are format some = go format.0 format.1.each (sym (append_assoc l (44 ∷ fronted ls) r)
    ∙ format.1.joins) (off_format ls r are.1)
  where
    go : (all : List (List ℕ)) → AreLinks all → l ++ 44 ∷ (fronted ls ++ r) ≡ joined all
        → (IsFormat (fronted ls ++ r) → (fronted ls ++ r ≡ [] → ⊥) → IsList r) → IsList r
    go [] each is on = absurd (let h = ap length is in omega (arith, h, length-append l (44 ∷ (fronted ls ++ r))))
    go (m ∷ ms) each is on =
        let e = link_walks l are.0 in
        let same = same_link l (44 ∷ (fronted ls ++ r)) m ms e.at e.walks (comma e.at e.end) each.0 is in
        let list = no_list (44 ∷ (fronted ls ++ r)) ms each.1 same.rest (λ none. cc none) in
        let rest : fronted ls ++ r ≡ joined (list.0 ∷ list.1) = cc list.3 in
        on (list.0 ∷ list.1, record { each = list.2; joins = rest })
        (λ none. let p = list.2.0.parts in
        let h : joined (list.0 ∷ list.1) ≡ 60 ∷ (list.2.0.target ++ 62 ∷ list.2.0.attributes) ++ behind list.1 =
        ap (λ x. x ++ behind list.1) p in
        cc (sym none ∙ rest ∙ h))

pub bad_at : (links : List (List ℕ)) (r : List ℕ) (n : ℕ) (text : List ℕ) (at : ℕ) → AreLinks links
    → text ≡ fronted links ++ r → (text ≡ [] → ⊥) → at ≡ length (fronted links) + n → IsBadFrom n r → IsBadAt at text
bad_at links r n text at are is some place bad = subst (IsBadAt at) (sym is) (subst (λ k. IsBadAt k
    (fronted links ++ r))
    (sym place) go)
  where
    front : List ℕ
    front = fronted links

    longer : (k : ℕ) → take (length (fronted links) + k) (fronted links ++ r) ≡ fronted links ++ take k r
    longer k = take-append-add (fronted links) r k

    go : IsBadAt (length (fronted links) + n) (fronted links ++ r)
    go = record {
      within = let h = bad.within in omega (arith, h, length-append (fronted links) r);
      more = bad.more;
      goes_on = subst IsFormat
          (sym (ap (λ x. x ++ bad.more) (longer n) ∙ append_assoc (fronted links) (take n r) bad.more))
          (on_format links (take n r ++ bad.more) are bad.goes_on);
      stops = λ short rest format.
          bad.stops (let h = short in omega (arith, h, length-append (fronted links) r)) rest
          (off_format links (take (n + 1) r ++ rest) are
          (subst IsFormat (ap (λ x. x ++ rest) (ap (λ k. take k (fronted links ++ r))
          (let k : length (fronted links) + n + 1 ≡ length (fronted links) + (n + 1) = omega arith in k)
          ∙ longer (n + 1)) ∙ append_assoc (fronted links) (take (n + 1) r) rest) format)
          (λ none. some_taken short rest none));
      ends = λ end format.
          bad.ends (let h = end in omega (arith, h, length-append (fronted links) r))
          (off_format links r are format (λ none. some (is ∙ none)));
    }
      where
        some_taken : length (fronted links) + n < length (fronted links ++ r) → (rest : List ℕ)
            → fronted links ++ (take (n + 1) r ++ rest) ≡ [] → ⊥
        some_taken short rest none = omega (
          arith,
          short,
          ap length none,
          length-append (fronted links) r,
          length-append (fronted links) (take (n + 1) r ++ rest),
          length-append (take (n + 1) r) rest,
          length-take (n + 1) r,
        )

-- ---- only one list

pub only_list : (a b : List (List ℕ)) → AreLinks a → AreLinks b → joined a ≡ joined b → a ≡ b
only_list [] [] each other is = refl
only_list [] (m ∷ ms) each other is =
    absurd (let p = other.0.parts in let h = ap length is in let k = ap length p in omega
    (arith, h, k, length-append m (behind ms)))
only_list (l ∷ ls) [] each other is =
    absurd (let p = each.0.parts in let h = ap length is in let k = ap length p in omega
    (arith, h, k, length-append l (behind ls)))
only_list (l ∷ ls) (m ∷ ms) each other is =
    let e = link_walks l each.0 in
    let same = same_link l (behind ls) m ms e.at e.walks (stops_behind e.at ls e.end) other.0 is in
    λ i. sym same.one i ∷ only_behind ls ms each.1 other.1 same.rest (only_list ls ms each.1 other.1) i
  where
    only_behind : (ls ms : List (List ℕ)) → AreLinks ls → AreLinks ms → behind ls ≡ behind ms
        → (joined ls ≡ joined ms → ls ≡ ms) → ls ≡ ms
    only_behind [] [] e o is on = refl
    only_behind [] (m ∷ ms) e o is on = absurd (cc is)
    only_behind (l ∷ ls) [] e o is on = absurd (cc is)
    only_behind (l ∷ ls) (m ∷ ms) e o is on = on (cc is)

-- ---- a step

pub left_on : (text : List ℕ) (done : List (List ℕ)) (rest link : List ℕ) (after : Option (List ℕ))
    → IsLeft text done (Some rest) → rest ≡ link ++ after_comma after → IsLeft text (done ++ link ∷ []) after
left_on text done rest link None left is = left.0 ∙ ap (λ l. fronted done ++ l) is ∙ sym (joins done link [])
left_on text done rest link (Some more) left is = (
  left.0 ∙ ap (λ l. fronted done ++ l) is ∙ ap (λ l. fronted done ++ l) (sym (append_assoc link (44 ∷ []) more))
      ∙ sym (append_assoc (fronted done) (link ++ 44 ∷ []) more)
      ∙ ap (λ l. l ++ more) (sym (fronted_more done link)),
  left.1,
)

pub left_shorter : (rest link : List ℕ) (after : Option (List ℕ)) → rest ≡ link ++ after_comma after
    → left_len after < left_len (Some rest)
left_shorter rest link None is = omega arith
left_shorter rest link (Some more) is = let h = ap length is in omega (arith, h, length-append link (44 ∷ more))

pub are_on : (done : List (List ℕ)) (link : List ℕ) → AreLinks done → IsLink link → AreLinks (done ++ link ∷ [])
are_on done link are is = all_of done (link ∷ []) are (is, tt)

pub bad_left : (text : List ℕ) (done : List (List ℕ)) (rest : List ℕ) (n at : ℕ) → AreLinks done
    → IsLeft text done (Some rest) → IsBadFrom n rest → at ≡ length text - length rest + n → IsBadAt at text
bad_left text done rest n at are left bad is =
    bad_at done rest n text at are left.0 left.1
    (let h = ap length left.0 in omega (arith, h, is, length-append (fronted done) rest)) bad
