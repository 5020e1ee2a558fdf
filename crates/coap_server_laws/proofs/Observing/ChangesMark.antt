-- A change of a path marks its observers, and leaves the others as they were.
use Rattle.std.proofs.Common.{◌≡◌, ℕ, ◌==◌, ◌&&◌, Bool, true, false, Option, Some, None, List, [], ◌∷◌, refl, ap, sym}
use Rattle.std.proofs.Common.{◌∙◌, cond, length, max, nat_lt}
use Rattle.std.specs.Cmp.{unsigned_Decides}
use Rattle.coap_types.specs.OptionValues.{uint_at}
use Rattle.coap_types.specs.declared.option_number.TheConstants.{OBSERVE as observe}
use Rattle.coap_layer.specs.declared.setup.Setup.{Setup}
use Rattle.coap_observe.specs.Observers.{Observer, changed_at, registered, removed}
use Rattle.coap_observe.specs.declared.observers.TheConstants.{MAX_OBSERVERS as max_observers}
use Rattle.coap_resource.specs.Content.{Content}
use Rattle.coap_resource.specs.RequestOptions.{block_of, szx_by}
use Rattle.coap_resource.specs.Serves.{Question, Reply}
use Rattle.coap_resource.specs.Limits.{Limits}
use Rattle.coap_exchange.specs.declared.answerer.Asked.{Asked}
use Rattle.coap_exchange.specs.SuccessCodes.{content}
use Rattle.coap_server.specs.Trace.{Own, Call, Sets, Removes, Feeds, Ticks}
use Rattle.coap_server.specs.Observers.{is_get, is_number, observes, registers, observers_with, marked_if}
use Rattle.coap_server.specs.Law.{ServerLaw, own_of}
use Rattle.coap_server.specs.Follows.Holds.{Change, change, change_of, changed_by}
use Rattle.coap_server_laws.specs.Follows.Marks.{AllMark}
use Rattle.coap_server.specs.Follows.Serves.{Serving, serving}
use Rattle.coap_server_laws.proofs.Observing.ServedObservers.{ServesAt, served_at}
use Rattle.coap_server.proofs.Facts.Observing.StoreChanges.{get_same}
use Rattle.coap_server.proofs.Facts.Serving.Brought.{server_back}

marks : (at : ℕ) (path : List (List ℕ)) (old left : Content) (os : List Observer) (x : Change)
    → change_of path old left ≡ Some x → marked_if at path old left os ≡ changed_at at x.path os
marks at path old left os x h = by (left.tally.version == old.tally.version) h
  where
    by : (b : Bool)
        → cond b None (Some (record { path = path; version = left.tally.version; held = left.holds path })) ≡ Some x
        → cond b os (changed_at at path os) ≡ changed_at at x.path os
    by true k = absurd (cc k)
    by false k =
        let same : ◌≡◌ {A = Change} (record { path = path; version = left.tally.version; held = left.holds path }) x =
        cc k in ap (λ (y : Change). changed_at at y.path os) same

-- what changes is no GET, and registers nobody
pub unchanged : (path : List (List ℕ)) (old left : Content) → left ≡ old → change_of path old left ≡ None
unchanged path old left h =
    ap (λ b. cond b None (Some (record { path = path; version = left.tally.version; held = left.holds path })))
    (ap (λ (s : Content). s.tally.version == old.tally.version) h
    ∙ (unsigned_Decides old.tally.version old.tally.version).1 refl)

pub not_a_get : (q : Question) (n : ℕ) → is_get q.method ≡ false → observes n q ≡ false
not_a_get q n h = ap (λ b. b && is_number n (uint_at observe q.options)) h

pub not_registering : (a : Asked) (q : Question) (reply : Reply) (os : List Observer) → is_get q.method ≡ false
    → registers a q reply os ≡ false
not_registering a q reply os h =
    ap (λ b. b && ((reply.code == content)
    && ((reply.offset == 0) && nat_lt (length (removed a.from a.token os)) max_observers))) (not_a_get q 0 h)

pub registers_none : (at : ℕ) (a : Asked) (q : Question) (reply : Reply) (os : List Observer) → is_get q.method ≡ false
    → observers_with at a q reply os ≡ os
registers_none at a q reply os h =
    ap (λ b. cond b (registered at a.from a.token q.path (szx_by (block_of q.options) q.szx) os)
    (cond (observes 1 q) (removed a.from a.token os) os)) (not_registering a q reply os h)
    ∙ ap (λ b. cond b (removed a.from a.token os) os) (not_a_get q 1 h)

module _ (limits : Limits) (szx : ℕ) (setup : Setup) where
  abbrev own : List Call → Own
  own t = own_of limits szx t

  abbrev Marked : List Call → Call → Change → Type 0
  Marked t c x = (own (c ∷ t)).observers ≡ changed_at (own (c ∷ t)).clock x.path (own t).observers

  -- by a request that is served
  served : (t : List Call) (c : Call) → ServerLaw limits szx setup (c ∷ t) → (x : Change) → (o : Option Serving)
      → serving (own t) c ≡ o → changed_by o ≡ Some x → Marked t c x
  served t c law x None is h = absurd (cc h)
  served t c law x (Some y) is h = by (is_get y.question.method) refl
    where
      s : ServesAt limits szx setup t c y
      s = served_at limits szx setup t c law y is

      by : (b : Bool) → is_get y.question.method ≡ b → Marked t c x
      by true e =
          let none = unchanged y.question.path y.old y.left
          (get_same y.old (own (c ∷ t)).clock y.question y.reply y.left e s.serves) in
          absurd (let z : None ≡ Some x = sym none ∙ h in cc z)
      by false e =
          let at : ℕ = (own (c ∷ t)).clock in
          s.observers
          ∙ (ap (λ z. marked_if at y.question.path (own t).store y.left z)
          (registers_none at y.asked y.question y.reply (own t).observers e)
          ∙ marks at y.question.path (own t).store y.left (own t).observers x
          (ap (λ z. change_of y.question.path z y.left) (sym s.old) ∙ h))

  here : (t : List Call) (c : Call) → ServerLaw limits szx setup (c ∷ t) → (x : Change) → change (own t) c ≡ Some x
      → Marked t c x
  here t (Sets now path format body answer left) law x h =
      marks (max (own t).clock now) path (own t).store left (own t).observers x h
  here t (Removes now path answer left) law x h =
      marks (max (own t).clock now) path (own t).store left (own t).observers x h
  here t (Feeds now from bytes w up came k below) law x h =
      served t (Feeds now from bytes w up came k below) law x _ refl h
  here t (Ticks now w below room d passed k id answer) law x h =
      served t (Ticks now w below room d passed k id answer) law x _ refl h
  here t _ law x h = absurd (cc h)

  pub all_mark : (t : List Call) → ServerLaw limits szx setup t → AllMark limits szx t
  all_mark [] law = tt
  all_mark (c ∷ t) law = (λ x h. here t c law x h, all_mark t (server_back limits szx setup c t law))
