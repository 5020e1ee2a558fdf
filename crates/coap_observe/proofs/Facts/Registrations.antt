-- The registration of one endpoint and token in the list after each change.
use Rattle.std.proofs.Common.{◌≡◌, ◌∙◌, ℕ, Bool, true, false, not, ◌&&◌, ◌<◌, ◌≤◌, ◌++◌, List, [], ◌∷◌, length}
use Rattle.std.proofs.Common.{filter, find}
use Rattle.std.proofs.Common.{map}
use Rattle.std.proofs.Common.{Option, None, Some, option_map, if◌then◌else◌, Decides, refl, ap, sym, subst, arith}
use Rattle.std.specs.Cmp.Lexicographic.{bytes_decides}
use Rattle.std.proofs.lemmas.Bool.Decides.{Decides-and}
use Rattle.std.proofs.lemmas.List.{length-append, length-map}
use Rattle.coap_types.specs.declared.endpoint.Endpoint.{Endpoint}
use Rattle.coap_types.specs.SameEndpoint.{same_endpoint}
use Rattle.coap_types.proofs.Facts.Endpoints.{same_endpoint-decides}
use Rattle.coap_observe.specs.Observers.{HasPlaces, Noted, Observer, AreDistinct, AreRegistrations, begun, changed_at}
use Rattle.coap_observe.specs.Observers.{elsewhere, is_noted_at, is_registered}
use Rattle.coap_observe.specs.Observers.{is_of, marked_by, noted_by, noted_to, registered, registration, rejected}
use Rattle.coap_observe.specs.Observers.{removed, reset_at, sent_to, unmarked_by, without}
use Rattle.coap_observe.specs.Registrations.{ForgetLeaves, ForgetTakes, IsOther, OthersStay, ResetTakes, told_by}
use Rattle.coap_observe.proofs.ListLemmas.{find_before, find_behind, find_gone, find_kept, find_none, find_of_map}
use Rattle.coap_observe.proofs.ListLemmas.{length_filter}

-- a registration is known by its endpoint and its token
pub is_of-decides : (to : Endpoint) (token : List ℕ) (o : Observer)
    → Decides (is_of to token o) ((o.to ≡ to) × (o.token ≡ token))
is_of-decides to token o = Decides-and _ _ (same_endpoint-decides o.to to) (bytes_decides o.token token)

false_by : (b : Bool) → (b ≡ true → ⊥) → b ≡ false
false_by true never = absurd (never refl)
false_by false never = refl

-- what is of one pair is not of another
other_is : (to : Endpoint) (token : List ℕ) (by : Endpoint) (bytes : List ℕ) → IsOther to token by bytes
    → (o : Observer)
    → is_of to token o ≡ true → is_of by bytes o ≡ false
other_is to token by bytes other o h =
    let mine = (is_of-decides to token o).0 h in
    false_by (is_of by bytes o) (λ k. let its = (is_of-decides by bytes o).0 k in other
    (sym mine.0 ∙ its.0, sym mine.1 ∙ its.1))

not_false : (b : Bool) → b ≡ false → not b ≡ true
not_false b h = rw h refl

not_true : (b : Bool) → b ≡ true → not b ≡ false
not_true b h = rw h refl

pub registration-removed : (to : Endpoint) (token : List ℕ) (os : List Observer)
    → registration to token (removed to token os) ≡ None
registration-removed to token os = find_gone (is_of to token) (λ o. not (is_of to token o))
    (λ o h. not_true (is_of to token o) h) os

-- what is of an endpoint goes with it, and what is of another stays
pub forget_takes : ForgetTakes
forget_takes to token os = find_gone (is_of to token) (λ o. not (same_endpoint o.to to))
    (λ o h.
    let mine = (is_of-decides to token o).0 h in
    not_true (same_endpoint o.to to) ((same_endpoint-decides o.to to).1 mine.0)) os

pub forget_leaves : ForgetLeaves
forget_leaves to by token os other = find_kept (is_of by token) (λ o. not (same_endpoint o.to to))
    (λ o h.
    let mine = (is_of-decides by token o).0 h in
    not_false (same_endpoint o.to to) (false_by (same_endpoint o.to to)
    (λ k. let its = (same_endpoint-decides o.to to).0 k in other (sym its ∙ mine.0)))) os

pub registration-registered : (at : ℕ) (to : Endpoint) (token : List ℕ) (path : List (List ℕ)) (szx : ℕ)
    (os : List Observer)
    → registration to token (registered at to token path szx os) ≡ Some (begun at to token path szx)
registration-registered at to token path szx os =
    let new : Observer = begun at to token path szx in
    find_behind (is_of to token) (removed to token os) new (registration-removed to token os)
    ((is_of-decides to token new).1 (refl, refl))

pub registration-changed_at : (at : ℕ) (path : List (List ℕ)) (to : Endpoint) (token : List ℕ) (os : List Observer)
    → registration to token (changed_at at path os) ≡ option_map (marked_by at path) (registration to token os)
registration-changed_at at path to token os = find_of_map (marked_by at path) (is_of to token) os

and_true : (b : Bool) → (b && true) ≡ b
and_true true = refl
and_true false = refl

and_false : (b : Bool) → (b && false) ≡ false
and_false true = refl
and_false false = refl

mapped_find_step : (f g : Observer → Observer) (b : Bool) (o : Observer) (r : Option Observer) → (b ≡ true → f o ≡ g o)
    → option_map f r ≡ option_map g r
    → option_map f (if b then Some o else r) ≡ option_map g (if b then Some o else r)
mapped_find_step f g true o r same e = ap (λ (x : Observer). Some x) (same refl)
mapped_find_step f g false o r same e = e

mapped_find : (f g : Observer → Observer) (p : Observer → Bool) (same : (o : Observer) → p o ≡ true → f o ≡ g o)
    (os : List Observer)
    → option_map f (find p os) ≡ option_map g (find p os)
mapped_find f g p same [] = refl
mapped_find f g p same (o ∷ os) = mapped_find_step f g (p o) o (find p os) (same o) (mapped_find f g p same os)

map_same : (r : Option Observer) → option_map (λ (o : Observer). o) r ≡ r
map_same None = refl
map_same (Some o) = refl

abbrev with_mark : Observer → Bool → ℕ → Observer
with_mark o m n = record o { marked = m; con = n }

-- what is marked and said of the sending, by whether it is the one
sent_by : (at : ℕ) (con own : Bool) (o : Observer) → own ≡ true
    → with_mark o (o.marked && not own) (if con && (o.marked && own) then at else o.con) ≡ told_by at con o
sent_by at con true o h =
    ap (λ (m : Bool). with_mark o m (if con && (o.marked && true) then at else o.con)) (and_false o.marked)
    ∙ ap (λ (b : Bool). with_mark o false (if con && b then at else o.con)) (and_true o.marked)
sent_by at con false o h = absurd cc

kept_by : (at : ℕ) (con own : Bool) (o : Observer) → own ≡ false
    → with_mark o (o.marked && not own) (if con && (o.marked && own) then at else o.con) ≡ o
kept_by at con false o h =
    ap (λ (m : Bool). with_mark o m (if con && (o.marked && false) then at else o.con)) (and_true o.marked)
    ∙ ap (λ (b : Bool). with_mark o o.marked (if con && b then at else o.con)) (and_false o.marked)
    ∙ ap (λ (b : Bool). with_mark o o.marked (if b then at else o.con)) (and_false con)
kept_by at con true o h = absurd cc

pub registration-sent_to : (at : ℕ) (to : Endpoint) (token : List ℕ) (con : Bool) (os : List Observer)
    → registration to token (sent_to at to token con os) ≡ option_map (told_by at con) (registration to token os)
registration-sent_to at to token con os =
    find_of_map (unmarked_by at to token con) (is_of to token) os
    ∙ mapped_find (unmarked_by at to token con) (told_by at con) (is_of to token)
    (λ o h. sent_by at con (is_of to token o) o h) os

abbrev with_noted : Observer → Option Noted → Observer
with_noted o n = record o { noted = n }

note_by : (own : Bool) (new : Option Noted) (o : Observer) → own ≡ true
    → with_noted o (if own then new else o.noted) ≡ with_noted o new
note_by true new o h = refl
note_by false new o h = absurd cc

unnoted_by : (own : Bool) (new : Option Noted) (o : Observer) → own ≡ false
    → with_noted o (if own then new else o.noted) ≡ o
unnoted_by true new o h = absurd cc
unnoted_by false new o h = refl

pub registration-noted_to : (at : ℕ) (to : Endpoint) (token : List ℕ) (id : ℕ) (os : List Observer)
    → registration to token (noted_to at to token id os)
    ≡ option_map (λ (o : Observer). record o { noted = Some (record { id = id; at = at }) }) (registration to token os)
registration-noted_to at to token id os =
    find_of_map (noted_by at to token id) (is_of to token) os
    ∙ mapped_find (noted_by at to token id)
    (λ (o : Observer). record o { noted = Some (record { id = id; at = at }) }) (is_of to token)
    (λ o h. note_by (is_of to token o) (Some (record { id = id; at = at })) o h) os

found_step : (p : Observer → Bool) (b : Bool) (x : Observer) (r : Option Observer) (o : Observer) → p x ≡ b
    → (if b then Some x else r) ≡ Some o → (r ≡ Some o → p o ≡ true) → p o ≡ true
found_step p true x r o is e f = let same : x ≡ o = cc e in ap p (sym same) ∙ is
found_step p false x r o is e f = f e

-- what is found passes
pub found_passes : (p : Observer → Bool) (os : List Observer) (o : Observer) → find p os ≡ Some o → p o ≡ true
found_passes p [] o h = absurd cc
found_passes p (x ∷ os) o h = found_step p (p x) x (find p os) o refl h (found_passes p os o)

pub reset_takes : ResetTakes
reset_takes at to id os o h = (
  found_passes (is_noted_at at to id) os o h,
  ap (λ (r : Option Observer). registration o.to o.token (without r os)) h ∙ registration-removed o.to o.token os,
)

-- the registrations of others stay
pub others_stay : (to : Endpoint) (token : List ℕ) (by : Endpoint) (bytes : List ℕ) (os : List Observer)
    → IsOther to token by bytes → OthersStay to token by bytes os
others_stay to token by bytes os other =
    let is_other = other_is to token by bytes other in
    let kept : registration to token (removed by bytes os) ≡ registration to token os =
    find_kept (is_of to token) (λ o. not (is_of by bytes o)) (λ o h. not_false (is_of by bytes o) (is_other o h)) os in
    record {
      registered_stay = λ at path szx.
          let new : Observer = begun at by bytes path szx in
          find_before (is_of to token) (removed by bytes os) new
          (false_by (is_of to token new) (λ h. let e = (is_of-decides to token new).0 h in other (sym e.0, sym e.1)))
          ∙ kept;
      removed_stay = kept;
      sent_stay = λ at con.
          find_of_map (unmarked_by at by bytes con) (is_of to token) os
          ∙ mapped_find (unmarked_by at by bytes con) (λ (o : Observer). o) (is_of to token)
          (λ o h. kept_by at con (is_of by bytes o) o (is_other o h)) os
          ∙ map_same (registration to token os);
      noted_stay = λ at id.
          find_of_map (noted_by at by bytes id) (is_of to token) os
          ∙ mapped_find (noted_by at by bytes id) (λ (o : Observer). o) (is_of to token)
          (λ o h. unnoted_by (is_of by bytes o) (Some (record { id = id; at = at })) o (is_other o h)) os
          ∙ map_same (registration to token os);
    }

distinct_step : (b : Bool) (o : Observer) (os : List Observer) → registration o.to o.token os ≡ None → AreDistinct os
    → AreDistinct (if b then o ∷ os else os)
distinct_step true o os none d = (none, d)
distinct_step false o os none d = d

distinct_filter : (keep : Observer → Bool) (os : List Observer) → AreDistinct os → AreDistinct (filter keep os)
distinct_filter keep [] d = tt
distinct_filter keep (o ∷ os) d = distinct_step (keep o) o (filter keep os) (find_none (is_of o.to o.token) keep os d.0)
    (distinct_filter keep os d.1)

none_is : (b : Bool) (o : Observer) (r : Option Observer) → (if b then Some o else r) ≡ None → (b ≡ false) × (r ≡ None)
none_is true o r h = absurd cc
none_is false o r h = (refl, h)

distinct_behind : (os : List Observer) (new : Observer) → registration new.to new.token os ≡ None → AreDistinct os
    → AreDistinct (os ++ new ∷ [])
distinct_behind [] new none d = (refl, tt)
distinct_behind (o ∷ os) new none d =
    let n = none_is (is_of new.to new.token o) o (registration new.to new.token os) none in
    let apart : is_of o.to o.token new ≡ false =
    false_by (is_of o.to o.token new) (λ h.
    let e = (is_of-decides o.to o.token new).0 h in
    let same = (is_of-decides new.to new.token o).1 (sym e.0, sym e.1) in
    let fails = n.0 in
    absurd cc) in
    (find_before (is_of o.to o.token) os new apart ∙ d.0, distinct_behind os new n.1 d.1)

-- what keeps whose each is
distinct_map : (f : Observer → Observer)
    → (same : (to : Endpoint) (token : List ℕ) (os : List Observer)
    → registration to token (map f os) ≡ option_map f (registration to token os))
    → (mine : (o : Observer) → ((f o).to ≡ o.to) × ((f o).token ≡ o.token)) (os : List Observer) → AreDistinct os
    → AreDistinct (map f os)
distinct_map f same mine [] d = tt
distinct_map f same mine (o ∷ os) d = (
  ap (λ (t : Endpoint). registration t (f o).token (map f os)) (mine o).0
      ∙ (ap (λ (n : List ℕ). registration o.to n (map f os)) (mine o).1
      ∙ (same o.to o.token os ∙ ap (λ (r : Option Observer). option_map f r) d.0)),
  distinct_map f same mine os d.1,
)

distinct_marked : (at : ℕ) (path : List (List ℕ)) (os : List Observer) → AreDistinct os
    → AreDistinct (changed_at at path os)
distinct_marked at path os d = distinct_map (marked_by at path)
    (λ to token l. find_of_map (marked_by at path) (is_of to token) l) (λ o. (refl, refl)) os d

distinct_sent : (at : ℕ) (to : Endpoint) (token : List ℕ) (con : Bool) (os : List Observer) → AreDistinct os
    → AreDistinct (sent_to at to token con os)
distinct_sent at to token con os d = distinct_map (unmarked_by at to token con)
    (λ t n l. find_of_map (unmarked_by at to token con) (is_of t n) l) (λ o. (refl, refl)) os d

distinct_noted : (at : ℕ) (to : Endpoint) (token : List ℕ) (id : ℕ) (os : List Observer) → AreDistinct os
    → AreDistinct (noted_to at to token id os)
distinct_noted at to token id os d = distinct_map (noted_by at to token id)
    (λ t n l. find_of_map (noted_by at to token id) (is_of t n) l) (λ o. (refl, refl)) os d

-- the same registrations
pub registrations-same : (os ps : List Observer) → os ≡ ps → AreRegistrations os → AreRegistrations ps
registrations-same os ps e r = let P : List Observer → Type 0 = λ l. AreRegistrations l in subst P e r

-- each change leaves at most 64, and no two of one endpoint and token
pub registrations-removed : (to : Endpoint) (token : List ℕ) (os : List Observer) → AreRegistrations os
    → AreRegistrations (removed to token os)
registrations-removed to token os r =
    let keep : Observer → Bool = λ o. not (is_of to token o) in
    let fewer = length_filter keep os in
    record { few = omega (arith, fewer, r.few); distinct = distinct_filter keep os r.distinct }

pub registrations-elsewhere : (to : Endpoint) (os : List Observer) → AreRegistrations os
    → AreRegistrations (elsewhere to os)
registrations-elsewhere to os r =
    let keep : Observer → Bool = λ o. not (same_endpoint o.to to) in
    let fewer = length_filter keep os in
    record { few = omega (arith, fewer, r.few); distinct = distinct_filter keep os r.distinct }

pub registrations-registered : (at : ℕ) (to : Endpoint) (token : List ℕ) (path : List (List ℕ)) (szx : ℕ)
    (os : List Observer) → AreRegistrations os → length (removed to token os) < 64
    → AreRegistrations (registered at to token path szx os)
registrations-registered at to token path szx os r room =
    let new : Observer = begun at to token path szx in
    let left = registrations-removed to token os r in
    let one_more = length-append (removed to token os) (new ∷ []) in
    record {
      few = omega (arith, one_more, room);
      distinct = distinct_behind (removed to token os) new (registration-removed to token os) left.distinct;
    }

pub registrations-changed : (at : ℕ) (path : List (List ℕ)) (os : List Observer) → AreRegistrations os
    → AreRegistrations (changed_at at path os)
registrations-changed at path os r =
    let same = length-map os (marked_by at path) in
    record { few = omega (arith, same, r.few); distinct = distinct_marked at path os r.distinct }

pub registrations-sent : (at : ℕ) (to : Endpoint) (token : List ℕ) (con : Bool) (os : List Observer)
    → AreRegistrations os → AreRegistrations (sent_to at to token con os)
registrations-sent at to token con os r =
    let same = length-map os (unmarked_by at to token con) in
    record { few = omega (arith, same, r.few); distinct = distinct_sent at to token con os r.distinct }

pub registrations-noted : (at : ℕ) (to : Endpoint) (token : List ℕ) (id : ℕ) (os : List Observer)
    → AreRegistrations os → AreRegistrations (noted_to at to token id os)
registrations-noted at to token id os r =
    let same = length-map os (noted_by at to token id) in
    record { few = omega (arith, same, r.few); distinct = distinct_noted at to token id os r.distinct }

without_stay : (found : Option Observer) (os : List Observer) → AreRegistrations os
    → AreRegistrations (without found os)
without_stay None os r = r
without_stay (Some o) os r = registrations-removed o.to o.token os r

pub registrations-reset : (at : ℕ) (to : Endpoint) (id : ℕ) (os : List Observer) → AreRegistrations os
    → AreRegistrations (reset_at at to id os)
registrations-reset at to id os r = without_stay (rejected at to id os) os r

--- where there is one there is room for as many as may be, and no change gives room back
pub places-fewer : (os ps : List Observer) (m n : ℕ) → length ps ≤ length os → n ≡ m → HasPlaces os m → HasPlaces ps n
places-fewer os ps m n fewer same places = λ some. let there = places (omega (arith, some, fewer)) in
    omega (arith, there, same)

pub places-mapped : (f : Observer → Observer) (os ps : List Observer) (m n : ℕ) → ps ≡ map f os → n ≡ m
    → HasPlaces os m → HasPlaces ps n
places-mapped f os ps m n is same places = let long = ap (λ (l : List Observer). length l) is ∙ length-map os f in
    places-fewer os ps m n (omega (arith, long)) same places

pub places-removed : (to : Endpoint) (token : List ℕ) (os ps : List Observer) (m n : ℕ) → ps ≡ removed to token os
    → n ≡ m → HasPlaces os m → HasPlaces ps n
places-removed to token os ps m n is same places =
    let long = ap (λ (l : List Observer). length l) is in
    let fewer = length_filter (λ (o : Observer). not (is_of to token o)) os in
    places-fewer os ps m n (omega (arith, long, fewer)) same places

pub places-elsewhere : (to : Endpoint) (os ps : List Observer) (m n : ℕ) → ps ≡ elsewhere to os → n ≡ m
    → HasPlaces os m → HasPlaces ps n
places-elsewhere to os ps m n is same places =
    let long = ap (λ (l : List Observer). length l) is in
    let fewer = length_filter (λ (o : Observer). not (same_endpoint o.to to)) os in
    places-fewer os ps m n (omega (arith, long, fewer)) same places

-- where a pair is registered, there is a registration
pub some-registered : (to : Endpoint) (token : List ℕ) (os : List Observer) → is_registered to token os ≡ true
    → 0 < length os
some-registered to token [] there = absurd cc
some-registered to token (o ∷ os) there = omega arith
