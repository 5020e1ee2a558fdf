-- The numbers of a source, and that equal ones are far apart.
use Rattle.std.proofs.Common.{◌≡◌, ◌≢◌, ℕ, ◌+◌, ◌/◌, ◌%◌, ◌<◌, ◌≤◌, ◌==◌, inl, inr, Option, Some, None, Bool, true}
use Rattle.std.proofs.Common.{false, List, [], ◌∷◌, refl, ap, sym, ◌∙◌, subst, arith, ◌++◌, ⊎_elim, if◌then◌else◌}
use Rattle.std.proofs.lemmas.Bool.Decides.{nat_tests}
use native.Mathlib.Decide.{dec_le}
use Prim.{yes, no}
use Rattle.coap_types.specs.Past.{Ever}
use Rattle.coap_layer.specs.Ids.{Issued, upcoming, last_use, IsRested, IsHeld, MayGive, latest, NumbersLaw, AreApart}
use Rattle.coap_layer.specs.Ids.{IdCall, Next, IsFree, IdEntry, clock, issued_in, numbers, IdRow, Ids, IdsAreExact}
use Rattle.coap_types.specs.declared.transmission.TheConstants.{ID_REUSE_AFTER_MS as id_reuse_after}
use Rattle.coap_layer.specs.declared.message_id.TheConstants.{GROUP_SIZE as group_size}
use Rattle.coap_types.specs.declared.message.TheConstants.{MESSAGE_IDS as message_ids}

-- the number was not given in the 400,000 ms up to now
abbrev IsNew : List Issued → ℕ → ℕ → Type 0
IsNew past id now = Ever (λ (h : Issued). (h.id ≡ id) × (now ≤ h.at + id_reuse_after)) past → ⊥

pub small : (word : ℕ) (t : List Issued) → upcoming word t < message_ids
small word [] = omega arith
small word (g ∷ past) = omega arith

-- what is all long ago leaves every number new
long_ago : (word : ℕ) (t : List Issued) (id now : ℕ) → NumbersLaw word t → latest t + id_reuse_after < now
    → IsNew t id now
long_ago word [] id now law h k = k
long_ago word (g ∷ past) id now law h (inl k) = absurd (omega (arith, h, k.1))
long_ago word (g ∷ past) id now law h (inr k) =
    long_ago word past id now law.1 (let le = law.0.time in omega (arith, h, le)) k

-- the use of a number, in a group that is rested afterwards
rested_use : (b : Bool) (word : ℕ) (g : Issued) (past : List Issued) (id at now : ℕ) → NumbersLaw word (g ∷ past)
    → (g.id / group_size == id / group_size) ≡ b
    → IsRested (if b then Some g.at else last_use past (id / group_size)) at → at ≤ now
    → (IsRested (last_use past (id / group_size)) at → IsNew past id now)
    → IsNew (g ∷ past) id now
rested_use true word g past id at now law is free le rest k =
    long_ago word (g ∷ past) id now law (omega (arith, free, le)) k
rested_use false word g past id at now law is free le rest (inr k) = rest free k
rested_use false word g past id at now law is free le rest (inl k) =
    let same : g.id / group_size ≡ id / group_size = ap (λ (x : ℕ). x / group_size) k.0 in
    absurd (grind (arith, nat_tests, same, is))

-- a rested group's numbers are new
rested_new : (word : ℕ) (t : List Issued) (id at now : ℕ) → NumbersLaw word t
    → IsRested (last_use t (id / group_size)) at → at ≤ now → IsNew t id now
rested_new word [] id at now law free le k = k
rested_new word (g ∷ past) id at now law free le k =
    rested_use (g.id / group_size == id / group_size) word g past id at now law refl free le
    (λ free'. rested_new word past id at now law.1 free' le) k

-- a number that may come next is new
next_new : (word : ℕ) (t : List Issued) (id at now : ℕ) → NumbersLaw word t
    → id / group_size ≡ upcoming word t / group_size → upcoming word t ≤ id → at ≤ now
    → MayGive word t at
    → (upcoming word t % group_size ≢ 0 → IsNew t id now)
    → IsNew t id now
next_new word t id at now law group from le free rest =
    elim (dec_le 1 (upcoming word t % group_size)) [
      | yes some ↦ rest (λ z. absurd (omega (arith, some, z)))
      | no none ↦
          let spent : upcoming word t % group_size ≡ 0 = omega (arith, none) in
          rested_new word t id at now law (subst (λ (x : ℕ). IsRested (last_use t x) at) (sym group) (free spent)) le
    ]

-- what is not given yet of the group that is entered is new
rest_new : (word : ℕ) (t : List Issued) → NumbersLaw word t → (id now : ℕ) → upcoming word t % group_size ≢ 0
    → id / group_size ≡ upcoming word t / group_size → upcoming word t ≤ id → latest t ≤ now
    → IsNew t id now
rest_new word [] law id now inside group from le = absurd (inside (omega arith))
rest_new word (g ∷ past) law id now inside group from le =
    let bound = small word past in
    let right : g.id ≡ upcoming word past = law.0.right.next in
    let group' : id / group_size ≡ upcoming word past / group_size = omega (arith, inside, right, bound, group) in
    let from' : upcoming word past + 1 ≤ id = omega (arith, inside, right, bound, from) in
    let later : latest past ≤ now = let le' = law.0.time in omega (arith, le, le') in
    let older : IsNew past id now =
    next_new word past id g.at now law.1 group' (omega (arith, from')) le law.0.right.may
    (λ inside'. rest_new word past law.1 id now inside' group' (omega (arith, from')) later) in
    λ k. ⊎_elim (λ (a : (g.id ≡ id) × (now ≤ g.at + id_reuse_after)). let same =
    a.0 in absurd (omega (arith, same, right, from'))) older k

pub apart : (word : ℕ) (t : List Issued) → NumbersLaw word t → AreApart t
apart word [] law = tt
apart word (g ∷ past) law = (
  (
      let right : g.id ≡ upcoming word past = law.0.right.next in
      next_new word past g.id g.at g.at law.1 (ap (λ (x : ℕ). x / group_size) right) (omega (arith, right))
      (omega arith) law.0.right.may
      (λ inside. rest_new word past law.1 g.id g.at inside (ap (λ (x : ℕ). x / group_size) right)
      (omega (arith, right)) law.0.time)
      ),
  apart word past law.1,
)

-- from the calls to the numbers
latest_in : (at : ℕ) (call : IdCall) (past : List Issued) → latest past ≤ at → latest (issued_in at call ++ past) ≤ at
latest_in at (Next (Some id)) past le = omega arith
latest_in at (Next None) past le = le
latest_in at (IsFree b) past le = le

latest_by : (word : ℕ) (t : List IdEntry) → Ids word t → latest (numbers t) ≤ clock t
latest_by word [] law = omega arith
latest_by word (e ∷ past) law = latest_in e.at e.call (numbers past)
    (let le = latest_by word past law.1 in let t = law.0.time in omega (arith, le, t))

law_in : (word at : ℕ) (call : IdCall) (past : List Issued) → latest past ≤ at → IdRow word past at call
    → NumbersLaw word past → NumbersLaw word (issued_in at call ++ past)
law_in word at (Next (Some id)) past le row law = (record { time = le; right = row }, law)
law_in word at (Next None) past le row law = law
law_in word at (IsFree b) past le row law = law

pub numbers_law : (word : ℕ) (t : List IdEntry) → Ids word t → NumbersLaw word (numbers t)
numbers_law word [] law = tt
numbers_law word (e ∷ past) law =
    law_in word e.at e.call (numbers past) (let le = latest_by word past law.1 in let t =
    law.0.time in omega (arith, le, t)) law.0.row (numbers_law word past law.1)

-- what is rested is not held
pub not_both : (o : Option ℕ) (now : ℕ) → IsRested o now → IsHeld o now → ⊥
not_both None now r h = h
not_both (Some last) now r h = omega (arith, r, h)

pub one_number : (word : ℕ) (past : List Issued) (at : ℕ) (a b : Option ℕ) → IdRow word past at (Next a)
    → IdRow word past at (Next b) → a ≡ b
one_number word past at (Some a) (Some b) r s = ap Some (r.next ∙ sym s.next)
one_number word past at (Some a) None r s = absurd (not_both _ at (r.may s.spent) s.held)
one_number word past at None (Some b) r s = absurd (not_both _ at (s.may r.spent) r.held)
one_number word past at None None r s = refl

pub ids_exact : IdsAreExact
ids_exact word past e f a b one two at call other =
    one_number word (numbers past) e.at a b (subst (IdRow word (numbers past) e.at) call one.row)
    (subst (λ (x : ℕ). IdRow word (numbers past) x (Next b)) (sym at)
    (subst (IdRow word (numbers past) f.at) other two.row))
