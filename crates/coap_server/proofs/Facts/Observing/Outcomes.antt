-- What becomes of a request that arrives and of what is due, by cases: what a server serves, the store served; only an
-- observer is notified, and of what its path holds.
use Rattle.std.proofs.Common.{◌≡◌, ℕ, Bool, true, false, Option, Some, None, refl, ap, sym, subst, ◌∙◌}
use Rattle.coap_codec.specs.Message.{Message}
use Rattle.coap_types.specs.declared.block.Block.{Block}
use Rattle.coap_block.specs.declared.block_verdict.BlockVerdict.{BlockVerdict}
use Rattle.coap_block.specs.declared.block_verdict.BlockVerdict.TheVariants.{Refuse, Join, Done}
use Rattle.coap_observe.specs.Observers.{Observer}
use Rattle.coap_resource.specs.Content.{Content}
use Rattle.coap_resource.specs.Serves.{Question, Reply}
use Rattle.coap_resource.specs.Serves as R
use Rattle.coap_exchange.specs.declared.answerer.Asked.{Asked}
use Rattle.coap_exchange.specs.declared.answerer.Due.{Due}
use Rattle.coap_exchange.specs.declared.answerer.Due.TheVariants as due
use Rattle.coap_exchange.specs.AnswererSteps.{may_defer}
use Rattle.coap_exchange.specs.AnswererTrace as E
use Rattle.coap_server.specs.Trace.{Own, Handling, Silent, Replies, Serves, Waits, Notifies}
use Rattle.coap_server.specs.Serving.{IsServed}
use Rattle.coap_server.specs.Checks.{Verdict, Ignored, Refused, Asks, Uploads, verdict_on}
use Rattle.coap_server.specs.Uploads.{ruling_of, whole}
use Rattle.coap_server.specs.Deferring.{WaitsBy, HandlesWhole, AnswersWaiting, delay_for, question_of}
use Rattle.coap_server.specs.Notifying.{NotifiesNext, behind, marked, told}
use Rattle.coap_server.specs.Handling.{HandlesBlock, Handles, HandlesCame, HandlesDue}

-- whether a request waits
abbrev pub is_placed : Option ℕ → Bool → Bool
is_placed None place = false
is_placed (Some d) place = place

-- what a handling says of the request that came, by what the checks say of it
abbrev Says : Own → Asked → Verdict → Handling → Type 0
Says s a v Silent = v ≡ Ignored
Says s a v (Replies r) = Unit {0}
Says s a v (Serves q reply left) = R.Serves s.store s.clock q reply left
    × (is_placed (delay_for a.kind q.path s.delays) (may_defer s.exchanges.deferred) ≡ false)
Says s a v (Waits q d) = (delay_for a.kind q.path s.delays ≡ Some d) × (may_defer s.exchanges.deferred ≡ true)
Says s a v (Notifies o reply) = ⊥

module _ (s : Own) (a : Asked) (v : Verdict) (h : Handling) where
  so : (k : Handling) → h ≡ k → Says s a v k → Says s a v h
  so k e says = subst (Says s a v) (sym e) says

  by_waiting : (q : Question) (o : Option ℕ) (place : Bool) → delay_for a.kind q.path s.delays ≡ o
      → may_defer s.exchanges.deferred ≡ place → WaitsBy o place s.store s.clock q h → Says s a v h
  by_waiting q (Some d) true is room k = so (Waits q d) k (is, room)
  by_waiting q (Some d) false is room k =
      so (Serves q k.reply k.left) k.is (k.serves, ap (λ o. is_placed o (may_defer s.exchanges.deferred)) is ∙ room)
  by_waiting q None place is room k =
      so (Serves q k.reply k.left) k.is (k.serves, ap (λ o. is_placed o (may_defer s.exchanges.deferred)) is)

  by_whole : (q : Question) → HandlesWhole s a q h → Says s a v h
  by_whole q k = by_waiting q (delay_for a.kind q.path s.delays) (may_defer s.exchanges.deferred) refl refl k

  by_block : (r : BlockVerdict) (q : Question) (b : Block) → HandlesBlock r s a q b h → Says s a v h
  by_block (Refuse why) q b k = so _ k tt
  by_block (Join szx) q b k = so _ k tt
  by_block Done q b k = by_whole (whole s.uploads s.clock a q b) k

by_verdict : (s : Own) (a : Asked) (h : Handling) (v : Verdict) → Handles s a v h → Says s a v h
by_verdict s a h Ignored k = so s a Ignored h Silent k refl
by_verdict s a h (Refused code) k = so s a (Refused code) h _ k tt
by_verdict s a h (Asks q) k = by_whole s a (Asks q) h q k
by_verdict s a h (Uploads q b) k = by_block s a (Uploads q b) h (ruling_of s.uploads s.clock a q b) q b k

says : (s : Own) (p : Asked × Message) (h : Handling) → HandlesCame s (Some p) h
    → Says s p.0 (verdict_on s.szx p.1) h
says s p h k = by_verdict s p.0 h (verdict_on s.szx p.1) k

pub serves_came : (s : Own) (p : Asked × Message) (q : Question) (reply : Reply) (left : Content)
    → HandlesCame s (Some p) (Serves q reply left) → R.Serves s.store s.clock q reply left
serves_came s p q reply left h = (says s p (Serves q reply left) h).0

pub never_notifies : (s : Own) (p : Asked × Message) (o : Observer) (reply : Reply)
    → HandlesCame s (Some p) (Notifies o reply) → ⊥
never_notifies s p o reply h = says s p (Notifies o reply) h

-- the request that is ready
abbrev Served : Content → ℕ → Handling → Type 0
Served old at (Serves q reply left) = R.Serves old at q reply left
Served old at _ = Unit {0}

served_so : (old : Content) (at : ℕ) (q : Question) (h : Handling) → IsServed old at q h → Served old at h
served_so old at q h k = subst (Served old at) (sym k.is) k.serves

pub serves_waited : (o : Option Question) (old : Content) (at : ℕ) (q : Question) (reply : Reply) (left : Content)
    → AnswersWaiting o old at (Serves q reply left) → R.Serves old at q reply left
serves_waited None old at q reply left h = absurd (cc h)
serves_waited (Some x) old at q reply left h = served_so old at x (Serves q reply left) h

pub never_notifies_ready : (o : Option Question) (old : Content) (at : ℕ) (x : Observer) (reply : Reply)
    → AnswersWaiting o old at (Notifies x reply) → ⊥
never_notifies_ready None old at x reply h = cc h
never_notifies_ready (Some q) old at x reply h = let e = h.is in cc e

-- whom a notification goes to, and what it tells
pub next_one : (n : Option Observer) (store : Content) (o : Observer) (reply : Reply)
    → NotifiesNext n store (Notifies o reply) → (n ≡ Some o) × (reply ≡ told store o)
next_one None store o reply h = absurd (cc h)
next_one (Some x) store o reply h =
    let same : o ≡ x = cc h in
    let is : reply ≡ told store x = cc h in
    (ap (λ (y : Observer). Some y) (sym same), is ∙ ap (told store) (sym same))

-- No request is handed up; or the one that is is ignored, replied to without the store, served, or waits: a CON to a
-- path that has a delay, where the exchanges have a place.
pub data Came (s : Own) : Option (Asked × Message) → Handling → Type 0 where
  nobody : Came s None Silent
  ignored : (p : Asked × Message) → verdict_on s.szx p.1 ≡ Ignored → Came s (Some p) Silent
  replied : (p : Asked × Message) (r : E.Response) → Came s (Some p) (Replies r)
  served : (p : Asked × Message) (q : Question) (reply : Reply) (left : Content)
      → R.Serves s.store s.clock q reply left
      → is_placed (delay_for p.0.kind q.path s.delays) (may_defer s.exchanges.deferred) ≡ false
      → Came s (Some p) (Serves q reply left)
  waits : (p : Asked × Message) (q : Question) (delay : ℕ) → delay_for p.0.kind q.path s.delays ≡ Some delay
      → may_defer s.exchanges.deferred ≡ true → Came s (Some p) (Waits q delay)

pub came : (s : Own) (c : Option (Asked × Message)) (h : Handling) → HandlesCame s c h → Came s c h
came s None h k = subst (Came s None) (sym k) nobody
came s (Some p) Silent k = ignored p (says s p Silent k)
came s (Some p) (Replies r) k = replied p r
came s (Some p) (Serves q reply left) k =
    let w = says s p (Serves q reply left) k in served p q reply left w.0 w.1
came s (Some p) (Waits q delay) k = let w = says s p (Waits q delay) k in waits p q delay w.0 w.1
came s (Some p) (Notifies o reply) k = absurd (never_notifies s p o reply k)

-- Something is sent again, or fails; the request that is ready is served, or is found nowhere; an observer is notified
-- of what its path holds, or none can be.
pub data Turned (s : Own) (passed : ℕ) : Due → Handling → Type 0 where
  copied : Turned s passed due.Copied Silent
  expired : Turned s passed due.Expired Silent
  lost : (a : Asked) → question_of s.clock a s.waiting ≡ None → Turned s passed (due.Ready a) Silent
  responded : (a : Asked) (q : Question) (reply : Reply) (left : Content) → question_of s.clock a s.waiting ≡ Some q
      → R.Serves s.store s.clock q reply left → Turned s passed (due.Ready a) (Serves q reply left)
  rests : behind passed (marked s.observers) ≡ None → Turned s passed due.Idle Silent
  noticed : (o : Observer) (reply : Reply) → behind passed (marked s.observers) ≡ Some o → reply ≡ told s.store o
      → Turned s passed due.Idle (Notifies o reply)

module _ (s : Own) (passed : ℕ) where
  of_waiting : (a : Asked) (o : Option Question) (h : Handling) → question_of s.clock a s.waiting ≡ o
      → AnswersWaiting o s.store s.clock h → Turned s passed (due.Ready a) h
  of_waiting a None h is k = subst (Turned s passed (due.Ready a)) (sym k) (lost a is)
  of_waiting a (Some q) h is k =
      subst (Turned s passed (due.Ready a)) (sym k.is) (responded a q k.reply k.left is k.serves)

  of_next : (o : Option Observer) (h : Handling) → behind passed (marked s.observers) ≡ o → NotifiesNext o s.store h
      → Turned s passed due.Idle h
  of_next None h is k = subst (Turned s passed due.Idle) (sym k) (rests is)
  of_next (Some o) h is k = subst (Turned s passed due.Idle) (sym k) (noticed o (told s.store o) is refl)

  pub turned : (d : Due) (h : Handling) → HandlesDue s d passed h → Turned s passed d h
  turned due.Copied h k = subst (Turned s passed due.Copied) (sym k) copied
  turned due.Expired h k = subst (Turned s passed due.Expired) (sym k) expired
  turned due.Idle h k = of_next (behind passed (marked s.observers)) h refl k
  turned (due.Ready a) h k = of_waiting a (question_of s.clock a s.waiting) h refl k
