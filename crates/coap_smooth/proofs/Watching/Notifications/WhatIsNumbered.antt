-- What a server gives a Message ID is a response or a notification, in a CON or in a NON (RFC 7252, sections 4.2 and
-- 4.3).
use Rattle.std.proofs.Common.{◌≡◌, ◌≤◌, ℕ, Bool, true, false, List, [], ◌∷◌, cond, refl, arith}
use Rattle.coap_types.specs.declared.endpoint.Endpoint.{Endpoint}
use Rattle.coap_layer.specs.Ids.{Issued}
use Rattle.coap_layer.specs.Machine.State.{State, moment, answer_of, is_failed, is_copy_due, tick_of}
use Rattle.coap_layer.specs.Machine.Steps.{Asked, left_after, entries}
use Rattle.coap_layer.specs.Rows.{LayerLaw}
use Rattle.coap_layer.specs.Trace as L
use Rattle.coap_layer.specs.Words.{Open, clock, issued, issued_by, numbers}
use Rattle.coap_layer.specs.declared.setup.Setup.{Setup}
use Rattle.coap_promise.proofs.Facts.Delivery.EntriesInTime.{Every, every_join}

-- by which calls of a layer

pub data SendsNew (call : L.Call) : Type 0 where
  in_con : (to : Endpoint) (content : L.Content) (word : ℕ) → call ≡ L.Confirm to content word → SendsNew call
  in_non : (to : Endpoint) (content : L.Content) → call ≡ L.Plain to content → SendsNew call

abbrev pub IsOfNew : L.Entry → Type 0
IsOfNew e = (id : ℕ) → e.answer ≡ L.Sent id → SendsNew e.call

no_tick : (now id : ℕ) (cs : List Open) → tick_of now cs ≡ L.Sent id → ⊥
no_tick now id [] h = cc h
no_tick now id (c ∷ cs) h = by (is_failed now c) (is_copy_due now c) (no_tick now id cs) h
  where
    by : (f d : Bool) → (tick_of now cs ≡ L.Sent id → ⊥)
        → cond f (L.Expired c.to c.id) (cond d (L.Copied c.to c.id) (tick_of now cs)) ≡ L.Sent id → ⊥
    by true d older k = cc k
    by false true older k = cc k
    by false false older k = older k

numbered : (s : State) (at : ℕ) (call : L.Call) (id : ℕ) → answer_of s at call ≡ L.Sent id → SendsNew call
numbered s at (L.Confirm to content word) id h = in_con to content word refl
numbered s at (L.Plain to content) id h = in_non to content refl
numbered s at L.Ticks id h = absurd (no_tick at id s.open_cons h)
numbered s at _ id h = absurd (cc h)

pub all_of_new : (old : State) (asks : List Asked) → Every IsOfNew (entries old asks)
all_of_new old [] = tt
all_of_new old (a ∷ asks) =
    let s : State = left_after old asks in
    ((λ id h. numbered s (moment s a.now a.call) a.call id h), all_of_new old asks)

-- so of each number

none_by : (P : Issued → Type 0) (at : ℕ) (answer : L.Answer) → ((id : ℕ) → answer ≡ L.Sent id
    → P (record { at = at; id = id }))
    → Every P (issued_by at answer)
none_by P at (L.Sent id) f = (f id refl, tt)
none_by P at _ f = tt

pub of_numbers : (P : Issued → Type 0) (es : List L.Entry)
    → Every (λ (e : L.Entry). (id : ℕ) → e.answer ≡ L.Sent id → P (record { at = e.at; id = id })) es
    → Every P (numbers es)
of_numbers P [] h = tt
of_numbers P (e ∷ es) h =
    every_join P (issued e) (numbers es) (none_by P e.at e.answer h.0) (of_numbers P es h.1)

-- when

pub up_to : (setup : Setup) (t : ℕ) (es : List L.Entry) → LayerLaw setup es → clock es ≤ t
    → Every (λ (e : L.Entry). e.at ≤ t) es
up_to setup t [] law h = tt
up_to setup t (e ∷ es) law h = (h, up_to setup t es law.1 (let a = law.0.time in omega (arith, a, h)))

pub clock_left : (old : State) (asks : List Asked) (t : ℕ) → (left_after old asks).clock ≤ t
    → clock (entries old asks) ≤ t
clock_left old [] t h = omega arith
clock_left old (a ∷ asks) t h = h
