-- The Message IDs that a layer gives, in its law and in its state.
use Rattle.coap_layer.specs.Trace.{Setup}
use Rattle.std.proofs.Common.{◌≡◌, ◌⊎◌, inl, inr, ⊎_elim, ℕ, ◌+◌, ◌/◌, ◌%◌, ◌<◌, ◌≤◌, ◌==◌, nat_lt, Bool, true, false}
use Rattle.std.proofs.Common.{not, ◌||◌, Option, Some, None, List, [], ◌∷◌, ◌++◌, replicate, slice_get, refl, ap, sym}
use Rattle.std.proofs.Common.{◌∙◌, subst, arith, zero, suc}
use Rattle.std.proofs.lemmas.Bool.Decides.{nat_tests}
use Rattle.coap_types.specs.declared.endpoint.Endpoint.{Endpoint}
use Rattle.coap_types.specs.declared.message.Kind.{Kind}
use Rattle.coap_types.specs.declared.message.Kind.TheVariants.{Con, Non, Ack, Rst}
use Rattle.coap_layer.specs.Arrivals.{Arrival, Unreadable, Faulted, Whole}
use Rattle.coap_layer.specs.Ids.{Issued, upcoming, last_use, IsRested, IsHeld, MayGive, Withholds, Gives, latest}
use Rattle.coap_layer.specs.Ids.{NumbersLaw}
use Rattle.coap_layer.specs.Machine.IdState.{AreUses}
use Rattle.coap_layer.specs.Trace.{Content, Call, Receive, Reply, Confirm, Plain, Settle, Ticks, Take, Room, AsksFree}
use Rattle.coap_layer.specs.Trace.{Pass, Answer, Sent, Entry}
use Rattle.coap_layer.specs.Words.{Incoming, clock, issued_by, issued, numbers}
use Rattle.coap_layer.specs.Rows.{LayerLaw, Row, Arrives, Sorts, HandedAs, rejects, drops, takes_ack, takes_reset}
use Rattle.coap_layer.specs.Rows.{passes_reset, takes_answer, replays, hands_over, SendsAs, RefusesIds, Turns, copies}
use Rattle.coap_layer.specs.Rows.{expires, rests}
use Rattle.coap_layer.specs.Machine.State.{next_after, uses_after, next_id, uses, is_rested, is_free}
use Rattle.coap_types.specs.declared.transmission.TheConstants.{ID_REUSE_AFTER_MS as id_reuse_after}
use Rattle.coap_layer.specs.declared.message_id.TheConstants.{GROUP_SIZE as group_size}
use Rattle.coap_layer.proofs.Numbers.StepsOfASource.{uses_more}
use Rattle.coap_layer.proofs.Numbers.EqualIdsAreApart.{small, not_both}

-- each entry gives no number, or the one that is next
abbrev GivesOne : Setup → List Entry → Entry → Type 0
GivesOne word past e = (issued_by e.at e.answer ≡ [])
    ⊎ ((id : ℕ) × Gives word.word (numbers past) e.at id × (e.answer ≡ Sent id))

none_by : (at : ℕ) (answer a : Answer) → answer ≡ a → issued_by at a ≡ [] → issued_by at answer ≡ []
none_by at answer a is no_number = ap (issued_by at) is ∙ no_number

module _ (setup : Setup) (past : List Entry) (e : Entry) where
  sorted_gives : (m : Incoming) → Sorts setup past e m → issued_by e.at e.answer ≡ []
  sorted_gives m (rejects r) = none_by e.at e.answer _ r.answer refl
  sorted_gives m (drops r) = none_by e.at e.answer _ r.answer refl
  sorted_gives m (takes_ack r) = none_by e.at e.answer _ r.answer refl
  sorted_gives m (takes_reset r) = none_by e.at e.answer _ r.answer refl
  sorted_gives m (passes_reset r) = none_by e.at e.answer _ r.answer refl
  sorted_gives m (takes_answer r) = none_by e.at e.answer _ r.answer refl
  sorted_gives m (replays r) = none_by e.at e.answer _ r.answer refl
  sorted_gives m (hands_over r) = handed_gives r.answer
    where
      handed_gives : HandedAs setup past e m → issued_by e.at e.answer ≡ []
      handed_gives (inl a) = none_by e.at e.answer _ a.2 refl
      handed_gives (inr (inl a)) = none_by e.at e.answer _ a.3 refl
      handed_gives (inr (inr a)) = none_by e.at e.answer _ a.1 refl

  arrived_gives : (from : Endpoint) (what : Arrival) → Arrives setup past e from what → issued_by e.at e.answer ≡ []
  arrived_gives from Unreadable r = none_by e.at e.answer _ r.0 refl
  arrived_gives from (Faulted Con id) r = none_by e.at e.answer _ r.0 refl
  arrived_gives from (Faulted Non id) r = none_by e.at e.answer _ r.0 refl
  arrived_gives from (Faulted Ack id) r = none_by e.at e.answer _ r.0 refl
  arrived_gives from (Faulted Rst id) r = none_by e.at e.answer _ r.0 refl
  arrived_gives from (Whole m) r = sorted_gives _ r

  plain_gives : (kind : Kind) (to : Endpoint) (content : Content)
      → RefusesIds setup past e ⊎ SendsAs kind setup past e to content → GivesOne setup past e
  plain_gives kind to content (inl r) = inl (none_by e.at e.answer _ r.answer refl)
  plain_gives kind to content (inr r) = inr (r.id, r.gives, r.answer)

  turn_gives : Turns past e → issued_by e.at e.answer ≡ []
  turn_gives (copies r) = none_by e.at e.answer _ r.answer refl
  turn_gives (expires r) = none_by e.at e.answer _ r.answer refl
  turn_gives (rests r) = none_by e.at e.answer _ r.answer refl

  gives_one : (call : Call) → Row setup past e call → GivesOne setup past e
  gives_one (Receive from bytes) row = inl (arrived_gives from row.0 row.2)
  gives_one (Reply to id bytes) row = inl (none_by e.at e.answer _ row.1 refl)
  gives_one (Confirm to content wish) row = ⊎_elim (λ r. inl (none_by e.at e.answer _ r.answer refl))
      (λ r. plain_gives Con to content r.1) row.1
  gives_one (Plain to content) row = plain_gives Non to content row.1
  gives_one (Settle to id) row = inl (⊎_elim (λ r. none_by e.at e.answer _ r.1 refl)
      (λ r. none_by e.at e.answer _ r.1 refl) row.0.0)
  gives_one Ticks row = inl (turn_gives row)
  gives_one Take row = inl (none_by e.at e.answer _ row.0 refl)
  gives_one (Room to) row = inl (⊎_elim (λ r. none_by e.at e.answer _ r.2 refl)
      (λ r. none_by e.at e.answer _ r.1 refl) row.0)
  gives_one AsksFree row = inl (⊎_elim (λ r. none_by e.at e.answer _ r.1 refl)
      (λ r. none_by e.at e.answer _ r.1 refl) row.0)
  gives_one Pass row = inl (none_by e.at e.answer _ row.0 refl)

  latest_step : GivesOne setup past e → latest (numbers past) ≤ e.at
      → latest (issued_by e.at e.answer ++ numbers past) ≤ e.at
  latest_step (inl r) le = subst (λ gs. latest (gs ++ numbers past) ≤ e.at) (sym r) le
  latest_step (inr r) le = subst (λ a. latest (issued_by e.at a ++ numbers past) ≤ e.at) (sym r.2) (omega arith)

  law_step : GivesOne setup past e → latest (numbers past) ≤ e.at → NumbersLaw setup.word (numbers past)
      → NumbersLaw setup.word (issued_by e.at e.answer ++ numbers past)
  law_step (inl r) le law = subst (λ gs. NumbersLaw setup.word (gs ++ numbers past)) (sym r) law
  law_step (inr r) le law = subst (λ a. NumbersLaw setup.word (issued_by e.at a ++ numbers past)) (sym r.2)
      (record { time = le; right = r.1 }, law)

latest_by : (setup : Setup) (t : List Entry) → LayerLaw setup t → latest (numbers t) ≤ clock t
latest_by setup [] law = omega arith
latest_by setup (e ∷ past) law =
    latest_step setup past e (gives_one setup past e e.call law.0.row)
    (let le = latest_by setup past law.1 in let le' = law.0.time in omega (arith, le, le'))

-- the numbers of a layer stand in the law of numbers
pub numbers_law : (setup : Setup) (t : List Entry) → LayerLaw setup t → NumbersLaw setup.word (numbers t)
numbers_law setup [] law = tt
numbers_law setup (e ∷ past) law =
    law_step setup past e (gives_one setup past e e.call law.0.row)
    (let le = latest_by setup past law.1 in let le' = law.0.time in omega (arith, le, le'))
    (numbers_law setup past law.1)

-- what is kept of them

next_in : (word : ℕ) (gs past : List Issued) → upcoming word (gs ++ past) ≡ next_after gs (upcoming word past)
next_in word [] past = refl
next_in word (g ∷ gs) past = refl

pub next_is : (setup : Setup) (t : List Entry) → next_id setup t ≡ upcoming setup.word (numbers t)
next_is setup [] = refl
next_is setup (e ∷ past) = ap (next_after (issued e)) (next_is setup past)
    ∙ sym (next_in setup.word (issued e) (numbers past))

uses_in : (word : ℕ) (gs past : List Issued) (us : List (Option ℕ)) → NumbersLaw word (gs ++ past) → AreUses past us
    → AreUses (gs ++ past) (uses_after gs us)
uses_in word [] past us law h = h
uses_in word (g ∷ gs) past us law h =
    uses_more (gs ++ past) (uses_after gs us) g
    (let k = law.0.right.next in let l = small word (gs ++ past) in omega (arith, k, l))
    (uses_in word gs past us law.1 h)

abbrev never : Option ℕ
never = None

none_used : (n group : ℕ) → group < n → slice_get (replicate n never) group ≡ Some never
none_used zero group le = absurd (omega (arith, le))
none_used (suc n) zero le = refl
none_used (suc n) (suc group) le = none_used n group (omega (arith, le))

pub uses_are : (setup : Setup) (t : List Entry) → LayerLaw setup t → AreUses (numbers t) (uses t)
uses_are setup [] law = λ group le. none_used 16 group le
uses_are setup (e ∷ past) law = uses_in setup.word (issued e) (numbers past) (uses past)
    (numbers_law setup (e ∷ past) law)
    (uses_are setup past law.1)

-- the test, and what it decides
abbrev pub Chooses : Bool → Type 0 → Type 0 → Type 0
Chooses true P Q = P
Chooses false P Q = Q

rested_is : (now : ℕ) (o : Option ℕ) → Chooses (is_rested now (Some o)) (IsRested o now) (IsHeld o now)
rested_is now None = tt
rested_is now (Some last) = go (nat_lt (last + id_reuse_after) now) refl
  where
    go : (b : Bool) → nat_lt (last + id_reuse_after) now ≡ b
        → Chooses b (last + id_reuse_after < now) (now ≤ last + id_reuse_after)
    go true h = grind (arith, nat_tests, h)
    go false h = grind (arith, nat_tests, h)

pub free_is : (word : ℕ) (past : List Issued) (us : List (Option ℕ)) (now : ℕ) → AreUses past us
    → Chooses (is_free now (upcoming word past) us) (MayGive word past now) (Withholds word past now)
free_is word past us now h = go (upcoming word past % group_size == 0) refl
  where
    n : ℕ
    n = upcoming word past

    there : slice_get us (n / group_size) ≡ Some (last_use past (n / group_size))
    there = h (n / group_size) (let l = small word past in omega (arith, l))

    rest : (b : Bool) → n % group_size ≡ 0 → Chooses b (IsRested (last_use past (n / group_size)) now)
        (IsHeld (last_use past (n / group_size)) now)
        → Chooses b (MayGive word past now) (Withholds word past now)
    rest true spent r = λ z. r
    rest false spent r = record { spent = spent; held = r }

    go : (b : Bool) → (n % group_size == 0) ≡ b → Chooses (not b || is_rested now (slice_get us (n / group_size)))
        (MayGive word past now) (Withholds word past now)
    go true k =
        rest _ (grind (arith, nat_tests, k))
        (subst (λ o. Chooses (is_rested now o) (IsRested (last_use past (n / group_size)) now)
        (IsHeld (last_use past (n / group_size)) now)) (sym there) (rested_is now (last_use past (n / group_size))))
    go false k = λ z. absurd (grind (arith, nat_tests, k, z))

-- a number may be given, or none may
pub one_of : (word : ℕ) (past : List Issued) (now : ℕ) → MayGive word past now → Withholds word past now → ⊥
one_of word past now may held = not_both _ now (may held.spent) held.held
