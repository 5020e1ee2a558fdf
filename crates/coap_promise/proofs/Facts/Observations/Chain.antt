-- From notifications that lie next to each other to any two (RFC 7641, section 3.4): where each rises over the newest
-- before it, each rises over any that was taken before.
use Rattle.std.proofs.Common.{◌≡◌, ◌⊎◌, inl, inr, ℕ, ◌==◌, Bool, true, false, Option, Some, None, List, [], ◌∷◌, refl}
use Rattle.std.proofs.Common.{ap, sym, subst, ◌∙◌, arith}
use Rattle.std.specs.Cmp.{unsigned_Decides}
use Rattle.coap_types.specs.Past.{Sometime, Always}
use Rattle.coap_block.specs.Sizes.{Sizes}
use Rattle.coap_client_laws.specs.Follows.Newer.{Newly, notifies}
use Rattle.coap_client_laws.specs.Follows.Notified.{is_newly_of, newest_if, newest, IsFirst, IsLater, IsTaken, AreTaken}
use Rattle.coap_client_laws.specs.Follows.Rising.{ComesAfter}
use Rattle.coap_client.specs.Law.{own_of}
use Rattle.coap_client.specs.Responses.{tag_in}
use Rattle.coap_client.specs.Trace.{Call}
use Rattle.coap_promise.specs.Rising.{AreRising}

-- rising goes on
pub rises_on : (a b c : Option (List ℕ)) → AreRising a b → AreRising b c → AreRising a c
rises_on a b c p q = record {
  older = p.older;
  newer = q.newer;
  first_is = p.first_is;
  second_is = q.second_is;
  rises = (let x = p.rises in let y = q.always p.newer q.newer p.second_is q.second_is in omega (arith, x, y));
  always = λ v w h k.
      let x = p.always v p.newer h p.second_is in
      let y = q.always p.newer w p.second_is k in
      omega (arith, x, y);
}

-- the one notification has the lesser version
abbrev pub Rise : Newly → Newly → Type 0
Rise n later = AreRising (tag_in n.message) (tag_in later.message)

-- it is one of this observation, or not
by_number : (number : ℕ) (o : Option Newly)
    → ((n : Newly) × (o ≡ Some n) × (n.number ≡ number)) ⊎ (is_newly_of number o ≡ false)
by_number number None = inr refl
by_number number (Some n) = go (n.number == number) refl
  where
    go : (b : Bool) → (n.number == number) ≡ b
        → ((m : Newly) × (Some n ≡ Some m) × (m.number ≡ number)) ⊎ ((n.number == number) ≡ false)
    go true e = inl (n, refl, (unsigned_Decides n.number number).0 e)
    go false e = inr e

module _ (sizes : Sizes) (number : ℕ) where
  -- what comes as a notification of this observation rises over the newest before it
  abbrev pub RisesNext : List Call → Call → Type 0
  RisesNext past c = (n : Newly) → n.number ≡ number → notifies (own_of sizes past) c ≡ Some n
      → (l : IsLater sizes n past c)
      → Rise l.before n

  abbrev pub Takes : Newly → List Call → Call → Type 0
  Takes n past c = notifies (own_of sizes past) c ≡ Some n

  -- the newest was taken
  pub newest_taken : (t : List Call) (n : Newly) → newest sizes number t ≡ Some n → Sometime (Takes n) t
  newest_taken [] n h = absurd (cc h)
  newest_taken (c ∷ past) n h = by (is_newly_of number (notifies (own_of sizes past) c)) h (newest_taken past n)
    where
      by : (b : Bool) → newest_if (notifies (own_of sizes past) c) b (newest sizes number past) ≡ Some n
          → (newest sizes number past ≡ Some n → Sometime (Takes n) past) → Sometime (Takes n) (c ∷ past)
      by true e f = inl e
      by false e f = inr (f e)

  -- what was taken is the newest of the observation, or that rises over it
  pub record Above (n : Newly) (t : List Call) : Type 0 where
    pub last : Newly
    pub is : newest sizes number t ≡ Some last
    pub above : (n ≡ last) ⊎ Rise n last

  now_newest : (past : List Call) (c : Call) (n : Newly) → Takes n past c → n.number ≡ number
      → newest sizes number (c ∷ past) ≡ Some n
  now_newest past c n is same =
      let o = notifies (own_of sizes past) c in
      let mine : is_newly_of number o ≡ true = ap (is_newly_of number) is ∙ (unsigned_Decides n.number number).1 same in
      ap (λ b. newest_if o b (newest sizes number past)) mine ∙ is

  same_newest : (past : List Call) (c : Call) → is_newly_of number (notifies (own_of sizes past) c) ≡ false
      → newest sizes number (c ∷ past) ≡ newest sizes number past
  same_newest past c other = ap (λ b. newest_if (notifies (own_of sizes past) c) b (newest sizes number past)) other

  rises_here : (past : List Call) (c : Call) (n first : Newly) → n.number ≡ number → Takes n past c
      → IsTaken sizes n past c → RisesNext past c → Above first past → Rise first n
  rises_here past c n first of is taken next a = by taken.comes
    where
      same : newest sizes n.number past ≡ Some a.last
      same = ap (λ i. newest sizes i past) of ∙ a.is

      by : IsFirst sizes n past c ⊎ IsLater sizes n past c → Rise first n
      by (inl f) = let e : None ≡ Some a.last = sym f.none ∙ same in absurd (cc e)
      by (inr l) =
          let e : Some l.before ≡ Some a.last = sym l.last ∙ same in
          let before : l.before ≡ a.last = cc e in
          let up = subst (λ (x : Newly). Rise x n) before (next n of is l) in
          elim a.above [
            | inl it ↦ subst (λ (x : Newly). Rise x n) (sym it) up
            | inr less ↦ rises_on (tag_in first.message) (tag_in a.last.message) (tag_in n.message) less up
          ]

  pub above : (t : List Call) → AreTaken sizes t → Always RisesNext t → (n : Newly) → n.number ≡ number
      → Sometime (Takes n) t → Above n t
  above [] taken next n of h = absurd h
  above (c ∷ past) taken next n of (inl h) = record { last = n; is = now_newest past c n h of; above = inl refl }
  above (c ∷ past) taken next n of (inr h) =
      let a = above past taken.1 next.1 n of h in
      elim (by_number number (notifies (own_of sizes past) c)) [
        | inl k ↦ record {
          last = k.0;
          is = now_newest past c k.0 k.1 k.2;
          above = inr (rises_here past c k.0 n k.2 k.1 (taken.0 k.0 k.1) next.0 a);
        }
        | inr other ↦ record { last = a.last; is = same_newest past c other ∙ a.is; above = a.above }
      ]

  -- so the later one of any two rises over the other
  pub chained : (t : List Call) → AreTaken sizes t → Always RisesNext t → (first second : Newly) → first.number ≡ number
      → second.number ≡ number → Sometime (ComesAfter sizes first second) t → Rise first second
  chained [] taken next first second a b h = absurd h
  chained (c ∷ past) taken next first second a b (inl h) =
      rises_here past c second first b h.comes (taken.0 second h.comes) next.0
      (above past taken.1 next.1 first a h.before)
  chained (c ∷ past) taken next first second a b (inr h) = chained past taken.1 next.1 first second a b h
