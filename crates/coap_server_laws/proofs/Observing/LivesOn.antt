-- What was told under a registration lives on in its entry, and what went in a NON was made shortly before.
use Rattle.std.proofs.Common.{◌≡◌, ◌≢◌, ◌≤◌, ◌<◌, ◌⊎◌, inl, inr, ℕ, ◌+◌, ◌||◌, Bool, true, false, Some, None}
use Rattle.std.proofs.Common.{List, refl, ap, sym, subst, ◌∙◌, arith, max, option_map}
use Rattle.coap_types.specs.Path.{same_path}
use Rattle.coap_types.specs.declared.transmission.TheConstants.{MAX_LATENCY_MS as max_latency}
use Rattle.coap_types.proofs.Facts.Paths.{same_path-decides}
use Rattle.coap_observe.specs.Observers.{Observer, marked_by, registration}
use Rattle.coap_observe.specs.Registrations.{told_by}
use Rattle.coap_resource.specs.Content.{Content, Held}
use Rattle.coap_resource.specs.Since.{IsSince}
use Rattle.coap_resource.proofs.Facts.Since.{is_made, stays_since}
use Rattle.coap_server.specs.Follows.Tells.{InNon, Telling}
use Rattle.coap_server.proofs.Facts.Observing.StoreChanges.{IsChanged, IsKept}
use Rattle.coap_server_laws.proofs.Observing.OneRegistration.{Turn, changed, gone, kept, noted, sent}

-- since when a version is there

pub kept_since : (v m at : ℕ) (a b : Content) → IsKept at a b → IsSince v m a.tally → IsSince v m b.tally
kept_since v m at a b k s = elim k.tally [
  | inl e ↦ subst (IsSince v m) (sym e) s
  | inr e ↦ subst (IsSince v m) (sym e) (stays_since v m a.tally at s).0
]

pub changed_since : (v m : ℕ) (path : List (List ℕ)) (at : ℕ) (a b : Content) → IsChanged path at a b
    → IsSince v m a.tally
    → IsSince v m b.tally
changed_since v m path at a b c s = subst (IsSince v m) (sym c.tally) ((stays_since v m a.tally at s).1 c.free)

pub changed_made : (path : List (List ℕ)) (at : ℕ) (a b : Content) → IsChanged path at a b → a.tally.clock ≤ at
    → IsSince (a.tally.version + 1) at b.tally
changed_made path at a b c timed =
    let now : max a.tally.clock at ≡ at = omega (arith, timed) in
    subst (λ m. IsSince (a.tally.version + 1) m b.tally) now
    (subst (IsSince (a.tally.version + 1) (max a.tally.clock at)) (sym c.tally) (is_made a.tally at c.free))

pub or_left : (m n : Bool) → n ≡ false → (m || n) ≡ true → m ≡ true
or_left true n e h = refl
or_left false n e h = absurd (cc (e, h))

-- it was made then, at most MAX_LATENCY before it was told
pub record WasFresh (x : Telling) (s : Content) : Type 0 where
  pub made : ℕ
  pub young : x.at ≤ made + max_latency
  pub since : IsSince x.version made s.tally

module _ (x : Telling) (F : Type 0) where
  -- The registration under which it was told is there, of its path; its version is counted. While a notification is
  -- due, the path holds a later version. What went in a NON was young.
  pub record LivesAt (s : Content) (os : List Observer) : Type 0 where
    pub entry : Observer
    pub is : registration x.to x.token os ≡ Some entry
    pub path : entry.path ≡ x.path
    pub low : x.version ≤ s.tally.version
    pub fresh : entry.marked ≡ true → (held : Held) → s.holds x.path ≡ Some held → x.version < held.version
    pub young : x.way ≡ InNon → WasFresh x s
    pub flies : F

  abbrev pub Lives : Content → List Observer → Type 0
  Lives s os = (registration x.to x.token os ≡ None) ⊎ LivesAt s os

  fresh_kept : (at : ℕ) (a b : Content) → IsKept at a b → WasFresh x a → WasFresh x b
  fresh_kept at a b k w = record {
    made = w.made;
    young = w.young;
    since = kept_since x.version w.made at a b k w.since;
  }

  -- the entry goes on as this one, which is due where that was, of the same path
  same_entry : (at : ℕ) (a b : Content) (os ps : List Observer) (k : IsKept at a b) (l : LivesAt a os) (o : Observer)
      → registration x.to x.token ps ≡ Some o → o.path ≡ l.entry.path → (o.marked ≡ true → l.entry.marked ≡ true)
      → LivesAt b ps
  same_entry at a b os ps k l o is path marked =
      let back : (held : Held) → b.holds x.path ≡ Some held → a.holds x.path ≡ Some held =
      λ held h. ap (λ f. f x.path) (sym k.holds) ∙ h in
      record {
        entry = o;
        is = is;
        path = path ∙ l.path;
        low = subst (λ n. x.version ≤ n) (sym k.version) l.low;
        fresh = λ m held h. l.fresh (marked m) held (back held h);
        young = λ w. fresh_kept at a b k (l.young w);
        flies = l.flies;
      }

  -- the path changed, or another one
  changed_entry : (path : List (List ℕ)) (at : ℕ) (a b : Content) (os ps : List Observer) → IsChanged path at a b
      → (l : LivesAt a os) → registration x.to x.token ps ≡ Some (marked_by at path l.entry)
      → LivesAt b ps
  changed_entry path at a b os ps c l is =
      record {
        entry = marked_by at path l.entry;
        is = is;
        path = l.path;
        low = (let v = c.version in let k = l.low in omega (arith, v, k));
        fresh = λ m held h. fresh_by (same_path l.entry.path path) refl m held h;
        young = λ w. (let f = l.young w in record {
          made = f.made;
          young = f.young;
          since = changed_since x.version f.made path at a b c f.since;
        });
        flies = l.flies;
      }
    where
      here : same_path l.entry.path path ≡ true → x.path ≡ path
      here is = sym l.path ∙ (same_path-decides l.entry.path path).0 is

      other : same_path l.entry.path path ≡ false → x.path ≢ path
      other is = λ e. (let z = (same_path-decides l.entry.path path).1 (l.path ∙ e) in cc (z, is))

      fresh_by : (n : Bool) → same_path l.entry.path path ≡ n → (l.entry.marked || same_path l.entry.path path) ≡ true
          → (held : Held) → b.holds x.path ≡ Some held → x.version < held.version
      fresh_by true is m held h =
          let v = c.stamp held (ap b.holds (sym (here is)) ∙ h) in let k = l.low in omega (arith, v, k)
      fresh_by false is m held h =
          l.fresh (or_left l.entry.marked (same_path l.entry.path path) is m) held
          (sym (c.others x.path (other is)) ∙ h)

  -- Each call leaves it so, or the registration is gone.
  pub turned : (a b : Content) (os ps : List Observer) → Turn x.to x.token a b os ps → Lives a os → Lives b ps
  turned a b os ps (gone n) l = inl n
  turned a b os ps (kept at e k) (inl n) = inl (e ∙ n)
  turned a b os ps (sent at con e k) (inl n) = inl (e ∙ ap (option_map (told_by at con)) n)
  turned a b os ps (noted at n e k) (inl none) = inl (e ∙ ap (option_map
      (λ (o : Observer). record o { noted = Some n })) none)
  turned a b os ps (changed at path e c) (inl n) = inl (e ∙ ap (option_map (marked_by at path)) n)
  turned a b os ps (kept at e k) (inr l) =
      inr (same_entry at a b os ps k l l.entry (e ∙ l.is) refl (λ m. m))
  turned a b os ps (sent at con e k) (inr l) =
      inr (same_entry at a b os ps k l (told_by at con l.entry) (e ∙ ap (option_map (told_by at con)) l.is) refl
      (λ m. absurd (cc m)))
  turned a b os ps (noted at n e k) (inr l) =
      inr (same_entry at a b os ps k l (record (l.entry) { noted = Some n })
      (e ∙ ap (option_map (λ (o : Observer). record o { noted = Some n })) l.is) refl (λ m. m))
  turned a b os ps (changed at path e c) (inr l) =
      inr (changed_entry path at a b os ps c l (e ∙ ap (option_map (marked_by at path)) l.is))
