-- What the program takes of a client's reports was reported before: so what is said where a report is made holds where
-- it is taken.
use Rattle.std.proofs.Common.{◌≡◌, ⊎_elim, inl, inr, ℕ, Bool, true, false, not, ◌==◌, Option, Some, None, List, [], ◌∷◌}
use Rattle.std.proofs.Common.{◌++◌, refl, ap, sym, ◌∙◌, subst, cond, filter, drop, slice_get, option_to_list}
use Rattle.coap_types.specs.Past.{Always, Ever, Sometime}
use Rattle.coap_types.proofs.Facts.Traces.{Ever_append, Sometime_map, by_law}
use Rattle.coap_block.specs.Sizes.{Sizes}
use Rattle.coap_client.specs.Law as client_law
use Rattle.coap_client.specs.Own.{Own}
use Rattle.coap_client.specs.Steps.{after, reports}
use Rattle.coap_client.specs.Trace as C
use Rattle.coap_client.specs.Trace.{Body, Call, Calls, Cancels, Done, Feeds, Forgets, NextOut, NextReport, Observes}
use Rattle.coap_client.specs.Trace.{Reported, Ticks}
use Rattle.coap_promise.specs.Done.{AppliesWith, OnceDone}
use Rattle.coap_promise.specs.Held.{EachHeld, HeldSince}
use Rattle.coap_promise.specs.Holds.{Holds}
use Rattle.coap_promise.specs.Words.{ReportsAt, WasCalled}
use Rattle.coap_record.specs.Events.{Config}
use Rattle.coap_record.specs.Record.{Entry, OfClient, OfServer, client_of}
use Rattle.coap_order.specs.Agrees.{TakenWereReported}
use Rattle.coap_order.specs.Applied.{AppliesHere, SuccessesApplied}
use Rattle.coap_order.specs.Held.{BodiesHeld, HoldsBody}
use Rattle.coap_order.specs.Inputs.{is_client_input, stay_by}
use Rattle.coap_order.proofs.ClientReports.{reports_then}

-- what waits was made

ever_filter : {X : Type 0} (P : X → Type 0) (f : X → Bool) (xs : List X) → Ever P (filter f xs) → Ever P xs
ever_filter P f [] h = h
ever_filter P f (x ∷ xs) h = go (f x) h (ever_filter P f xs)
  where
    go : (b : Bool) → Ever P (cond b (x ∷ filter f xs) (filter f xs)) → (Ever P (filter f xs) → Ever P xs)
        → Ever P (x ∷ xs)
    go true (inl k) rest = inl k
    go true (inr k) rest = inr (rest k)
    go false k rest = inr (rest k)

ever_stays : (P : Reported → Type 0) (c : Call) (rs : List Reported) → Ever P (stay_by c rs) → Ever P rs
ever_stays P (Forgets number kept true) rs h = ever_filter P (λ r. not (r.number == number)) rs h
ever_stays P (Forgets number kept false) rs h = h
ever_stays P (Calls now r answer) rs h = h
ever_stays P (Observes now path answer) rs h = h
ever_stays P (Cancels now number answer) rs h = h
ever_stays P (Feeds now from bytes word up settled event sent token kept) rs h = h
ever_stays P (Ticks now word below t sent token kept answer) rs h = h
ever_stays P (NextOut answer) rs h = h
ever_stays P (NextReport answer) rs h = h
ever_stays P (C.Asked answer) rs h = h

ever_drop : {X : Type 0} (P : X → Type 0) (xs : List X) → Ever P (drop 1 xs) → Ever P xs
ever_drop P [] h = h
ever_drop P (x ∷ xs) h = inr h

pub one_is : {X : Type 0} (x : X) (o : Option X) → Ever (λ y. y ≡ x) (option_to_list o) → o ≡ Some x
one_is x None h = absurd h
one_is x (Some y) (inl h) = ap (λ z. Some z) h
one_is x (Some y) (inr h) = absurd h

pub first_is : {X : Type 0} (x : X) (xs : List X) → Some x ≡ slice_get xs 0 → Ever (λ y. y ≡ x) xs
first_is x [] e = absurd (cc e)
first_is x (y ∷ xs) e = inl (sym (some_is e))
  where
    some_is : Some x ≡ Some y → x ≡ y
    some_is k = cc k

module _ (sizes : Sizes) (x : Reported) where
  -- this call makes this report
  abbrev pub Makes : List Call → Call → Type 0
  Makes past c = reports (client_law.own_of sizes past) c ≡ Some x

  pub waits_made : (t : List Call) → Ever (λ y. y ≡ x) (client_law.own_of sizes t).reports → Sometime Makes t
  waits_made [] h = absurd h
  waits_made (c ∷ t) h = go c (is_client_input c) refl h (waits_made t)
    where
      own : Own
      own = client_law.own_of sizes t

      go : (c : Call) (b : Bool) → is_client_input c ≡ b → Ever (λ y. y ≡ x)
          (after (client_law.own_of sizes t) c).reports
          → (Ever (λ y. y ≡ x) (client_law.own_of sizes t).reports → Sometime Makes t) → Sometime Makes (c ∷ t)
      go c true e k before =
          ⊎_elim (λ l. inr (before (ever_stays (λ y. y ≡ x) c (client_law.own_of sizes t).reports l)))
          (λ r. inl (one_is x (reports (client_law.own_of sizes t) c) r))
          (Ever_append (λ y. y ≡ x) (stay_by c (client_law.own_of sizes t).reports)
          (option_to_list (reports (client_law.own_of sizes t) c))
          (subst (Ever (λ y. y ≡ x)) (reports_then (client_law.own_of sizes t) c e) k))
      go (NextOut answer) false e k before = inr (before k)
      go (C.Asked answer) false e k before = inr (before k)
      go (NextReport answer) false e k before = inr (before
          (ever_drop (λ y. y ≡ x) (client_law.own_of sizes t).reports k))
      go (Calls now r answer) false e k before = absurd (cc e)
      go (Observes now path answer) false e k before = absurd (cc e)
      go (Cancels now number answer) false e k before = absurd (cc e)
      go (Forgets number kept answer) false e k before = absurd (cc e)
      go (Feeds now from bytes word up settled event sent token kept) false e k before = absurd (cc e)
      go (Ticks now word below turn sent token kept answer) false e k before = absurd (cc e)

module _ (config : Config) where
  to_entries : (x : Reported) (es : List Entry) → Sometime (Makes config.client_sizes x) (client_of es)
      → Sometime (ReportsAt config x) es
  to_entries x [] h = h
  to_entries x (OfServer c ∷ es) h = inr (to_entries x es h)
  to_entries x (OfClient c ∷ es) (inl h) = inl h
  to_entries x (OfClient c ∷ es) (inr h) = inr (to_entries x es h)

  abbrev Rows : List Entry → Type 0
  Rows run = client_law.ClientRows config.client_sizes (client_of run)

  rows_back : (e : Entry) (run : List Entry) → Rows (e ∷ run) → Rows run
  rows_back (OfClient c) run rows = rows.1
  rows_back (OfServer c) run rows = rows

  was_reported : (x : Reported) (e : Entry) (run : List Entry) → Rows (e ∷ run) → e ≡ OfClient (NextReport (Some x))
      → Sometime (ReportsAt config x) run
  was_reported x e run rows is =
      let row : Rows (OfClient (NextReport (Some x)) ∷ run) = subst (λ (z : Entry). Rows (z ∷ run)) is rows in
      to_entries x run (waits_made config.client_sizes x (client_of run)
      (first_is x (client_law.own_of config.client_sizes (client_of run)).reports row.0))

  pub taken_reported : (run : List Entry) → Rows run → TakenWereReported config run
  taken_reported [] rows x = tt
  taken_reported (e ∷ run) rows x = (
    λ is. was_reported x e run rows is,
    taken_reported run (rows_back e run rows) x,
  )

  -- .. so what was so before each report was so before it is taken
  behind_taken : (x : Reported) (P : List Entry → Entry → Type 0) (run : List Entry)
      → Always (λ past e. ReportsAt config x past e → Sometime P past) run → Sometime (ReportsAt config x) run
      → Sometime P run
  behind_taken x P [] each h = absurd h
  behind_taken x P (e ∷ run) each (inl h) = inr (each.0 h)
  behind_taken x P (e ∷ run) each (inr h) = inr (behind_taken x P run each.1 h)

  each_taken : (x : Reported) (P : List Entry → Entry → Type 0) (run : List Entry)
      → Always (λ past e. ReportsAt config x past e → Sometime P past) run
      → Always (λ past e. e ≡ OfClient (NextReport (Some x)) → Sometime (ReportsAt config x) past) run
      → Always (λ past e. e ≡ OfClient (NextReport (Some x)) → Sometime P past) run
  each_taken x P [] each taken = tt
  each_taken x P (e ∷ run) each taken = (
    λ is. behind_taken x P run each.1 (taken.0 is),
    each_taken x P run each.1 taken.1,
  )

  called_more : (number : ℕ) (request : C.Request) (e : Entry) (es : List Entry) → WasCalled number request es
      → WasCalled number request (e ∷ es)
  called_more number request (OfClient c) es h = inr h
  called_more number request (OfServer c) es h = h

  module _ (number : ℕ) (tag : Option (List ℕ)) (format : Option ℕ) (body : List ℕ) where
    held_here : (past : List Entry) (e : Entry) → Always (Holds config) (e ∷ past)
        → HeldSince config number tag format body past e → HoldsBody config number tag format body (e ∷ past)
    held_here past e holds h = record {
      request = h.request;
      called = called_more number h.request e past h.called;
      version = h.version;
      tag_is = h.holds.tag_is;
      there = holds.0.last h.request.path ∙ h.holds.there;
    }

    abbrev Was : List Entry → Entry → Type 0
    Was before e = HoldsBody config number tag format body (e ∷ before)

    here : (run : List Entry) → Always (Holds config) run
        → Always (λ past e. ReportsAt config (record { number = number; report = Body tag format body }) past e
        → Sometime (HeldSince config number tag format body) past) run
        → Always (λ past e. ReportsAt config (record { number = number; report = Body tag format body }) past e
        → Sometime Was past) run
    here [] holds each = tt
    here (e ∷ run) holds each = (
      λ h. by_law (Holds config) (HeldSince config number tag format body) Was held_here run holds.1 (each.0 h),
      here run holds.1 each.1,
    )

  pub all_held : (run : List Entry) → Always (Holds config) run → EachHeld config run → TakenWereReported config run
      → BodiesHeld config run
  all_held run holds each taken number tag format body =
      each_taken (record { number = number; report = Body tag format body }) (Was number tag format body) run
      (here number tag format body run holds (each number tag format body))
      (taken (record { number = number; report = Body tag format body }))

  applies_here : (number code : ℕ) (all past : List Entry) (e : Entry) → AppliesWith config number code all past e
      → AppliesHere config number code all past e
  applies_here number code all past e h = record { applies = h.since.applies; code_is = h.code_is }

  applied_before : (number code : ℕ) (all run : List Entry)
      → Always (λ past e. ReportsAt config (record { number = number; report = Done code }) past e
      → Sometime (AppliesWith config number code all) past) run
      → Always (λ past e. ReportsAt config (record { number = number; report = Done code }) past e
      → Sometime (AppliesHere config number code all) past) run
  applied_before number code all [] each = tt
  applied_before number code all (e ∷ run) each = (
    λ h. Sometime_map (AppliesWith config number code all) (AppliesHere config number code all)
        (applies_here number code all) run (each.0 h),
    applied_before number code all run each.1,
  )

  pub all_applied : (run : List Entry) → OnceDone config run → TakenWereReported config run
      → SuccessesApplied config run
  all_applied run once taken number code =
      each_taken (record { number = number; report = Done code }) (AppliesHere config number code run) run
      (applied_before number code run run (once number code))
      (taken (record { number = number; report = Done code }))
