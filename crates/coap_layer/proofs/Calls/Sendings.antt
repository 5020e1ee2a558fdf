-- What becomes of the CONs that are kept.
use Rattle.std.proofs.Common.{◌≡◌, ℕ, Bool, true, false, Option, Some, None, List, [], ◌∷◌, map, refl, ap, ◌∙◌, subst}
use Rattle.std.proofs.Common.{◌&&◌, ◌||◌, ◌==◌, cond, is_some}
use Rattle.std.specs.List.{list_any, filter_map, cons_option}
use Rattle.coap_types.specs.declared.endpoint.Endpoint.{Endpoint}
use Rattle.coap_types.specs.declared.endpoint.Moment.{Moment}
use Rattle.coap_types.specs.declared.message.Id.{Id}
use Rattle.coap_types.specs.SameEndpoint.{same_endpoint}
use Rattle.coap_layer.specs.declared.retransmission.Sending.{Sending}
use Rattle.coap_layer.specs.declared.retransmission.Due.{Due}
use Rattle.coap_layer.specs.declared.retransmission.Due.TheVariants as due
use Rattle.coap_layer.specs.Trace.{Packet, Answer, Ticks, Copied, Expired, Idle, Entry}
use Rattle.coap_layer.specs.Words.{Open, left_by}
use Rattle.coap_layer.specs.Machine.State.{is_outstanding}
use Rattle.coap_layer.specs.Machine.Sendings.{open_at, open_now, ended, marked, answer_for}

outstanding_one : {Z : Type 0} (to : Endpoint) (id : ℕ) (c : Sending Z) (cs : List Open) (b : Bool) (l : Option Moment)
    → b ≡ is_outstanding to id cs
    → (is_some l && (same_endpoint c.to to && (c.id.0 == id)) || b)
    ≡ is_outstanding to id (cons_option (open_at c l) cs)
outstanding_one to id c cs b None e = e
outstanding_one to id c cs b (Some l) e = ap (λ d. (same_endpoint c.to to && (c.id.0 == id)) || d) e

-- the test, over what the list stands for
pub outstanding_is : {Z : Type 0} (to : Endpoint) (id : ℕ) (cs : List (Sending Z))
    → list_any (λ c. is_some c.last && (same_endpoint c.to to && (c.id.0 == id))) cs
    ≡ is_outstanding to id (open_now cs)
outstanding_is to id [] = refl
outstanding_is to id (c ∷ cs) = outstanding_one to id c (open_now cs) _ c.last (outstanding_is to id cs)

-- the entry of a tick
abbrev turn : ℕ → Answer → List Packet → Entry
turn at answer out = record { at = at; call = Ticks; answer = answer; out = out }

-- what the entry of a failure leaves
failed_one : {Z : Type 0} (at : ℕ) (out : List Packet) (to : Endpoint) (id : ℕ) (c : Sending Z) (cs : List Open)
    (l : Option Moment) (b : Bool) → (same_endpoint c.to to && (c.id.0 == id)) ≡ b
    → cons_option (open_at c (cond b None l)) (filter_map (left_by (turn at (Expired to id) out)) cs)
    ≡ filter_map (left_by (turn at (Expired to id) out)) (cons_option (open_at c l) cs)
failed_one at out to id c cs None true k = refl
failed_one at out to id c cs None false k = refl
failed_one at out to id c cs (Some l) true k = rw k refl
failed_one at out to id c cs (Some l) false k = rw k refl

pub open_failed : {Z : Type 0} (at : ℕ) (out : List Packet) (to : Endpoint) (id : ℕ) (cs : List (Sending Z))
    → open_now (map (ended to id) cs) ≡ filter_map (left_by (turn at (Expired to id) out)) (open_now cs)
open_failed at out to id [] = refl
open_failed at out to id (c ∷ cs) = ap (cons_option (open_at (ended to id c) (ended to id c).last))
    (open_failed at out to id cs) ∙ failed_one at out to id c (open_now cs) c.last _ refl

-- what the entry of a retransmission leaves
marked_one : {Z : Type 0} (at : Moment) (out : List Packet) (to : Endpoint) (id : ℕ) (c : Sending Z) (cs : List Open)
    (l : Option Moment) (b : Bool) → (same_endpoint c.to to && (c.id.0 == id)) ≡ b
    → cons_option (open_at c (cond (is_some l && b) (Some at) l))
    (filter_map (left_by (turn at.0 (Copied to id) out)) cs)
    ≡ filter_map (left_by (turn at.0 (Copied to id) out)) (cons_option (open_at c l) cs)
marked_one at out to id c cs None true k = refl
marked_one at out to id c cs None false k = refl
marked_one at out to id c cs (Some l) true k = rw k refl
marked_one at out to id c cs (Some l) false k = rw k refl

pub open_marked : {Z : Type 0} (at : Moment) (out : List Packet) (to : Endpoint) (id : ℕ) (cs : List (Sending Z))
    → open_now (map (marked to id at) cs) ≡ filter_map (left_by (turn at.0 (Copied to id) out)) (open_now cs)
open_marked at out to id [] = refl
open_marked at out to id (c ∷ cs) = ap (cons_option (open_at (marked to id at c) (marked to id at c).last))
    (open_marked at out to id cs) ∙ marked_one at out to id c (open_now cs) c.last _ refl

-- what the entry of a tick with nothing due leaves
idle_all : (at : ℕ) (out : List Packet) (cs : List Open) → cs ≡ filter_map (left_by (turn at Idle out)) cs
idle_all at out [] = refl
idle_all at out (c ∷ cs) = ap (λ xs. c ∷ xs) (idle_all at out cs)

-- what the step leaves
module _ {Z : Type 0} (at : Moment) (step : Due) (cs : List (Sending Z)) where
  pub idle_left : due.Nothing ≡ step → (out : List Packet)
      → open_now cs ≡ filter_map (left_by (turn at.0 (answer_for step) out)) (open_now cs)
  idle_left is out = subst (λ s. open_now cs ≡ filter_map (left_by (turn at.0 (answer_for s) out)) (open_now cs)) is
      (idle_all at.0 out (open_now cs))

  pub copy_left : (to : Endpoint) (id : Id) (ds : List (Sending Z)) → due.Copy to id ≡ step
      → ds ≡ map (marked to id.0 at) cs → (out : List Packet)
      → open_now ds ≡ filter_map (left_by (turn at.0 (answer_for step) out)) (open_now cs)
  copy_left to id ds is new out =
      subst (λ s. open_now ds ≡ filter_map (left_by (turn at.0 (answer_for s) out)) (open_now cs)) is
      (ap open_now new ∙ open_marked at out to id.0 cs)

  pub failure_left : (to : Endpoint) (id : Id) (ds : List (Sending Z)) → due.Failure to id ≡ step
      → ds ≡ map (ended to id.0) cs → (out : List Packet)
      → open_now ds ≡ filter_map (left_by (turn at.0 (answer_for step) out)) (open_now cs)
  failure_left to id ds is new out =
      subst (λ s. open_now ds ≡ filter_map (left_by (turn at.0 (answer_for s) out)) (open_now cs)) is
      (ap open_now new ∙ open_failed at.0 out to id.0 cs)
