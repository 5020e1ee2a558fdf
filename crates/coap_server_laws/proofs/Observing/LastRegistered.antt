-- A GET with Observe 0 that is answered with the start of a body makes the last registration, where there is a place.
use Rattle.std.proofs.Common.{◌≡◌, ℕ, ◌==◌, ◌&&◌, Bool, true, Some, List, [], ◌∷◌, length}
use Rattle.std.proofs.Common.{refl, ap, ◌∙◌, cond}
use Rattle.std.proofs.lemmas.Bool.{and_parts, lt-ltb}
use Rattle.std.specs.Cmp.{unsigned_Decides}
use Rattle.coap_types.specs.OptionValues.{uint_at}
use Rattle.coap_types.specs.declared.option_number.TheConstants.{OBSERVE as observe}
use Rattle.coap_layer.specs.declared.setup.Setup.{Setup}
use Rattle.coap_observe.specs.Observers.{Observer, removed, registered, changed_at}
use Rattle.coap_observe.specs.declared.observers.TheConstants.{MAX_OBSERVERS as max_observers}
use Rattle.coap_resource.specs.Content.{Content}
use Rattle.coap_resource.specs.RequestOptions.{block_of, szx_by}
use Rattle.coap_resource.specs.Serves.{Question}
use Rattle.coap_resource.specs.Limits.{Limits}
use Rattle.coap_exchange.specs.SuccessCodes.{content}
use Rattle.coap_server.specs.Trace.{Own, Call}
use Rattle.coap_server.specs.Observers.{is_get, is_number, observes, registers, observers_with, marked_if, sequence_if}
use Rattle.coap_server.specs.Law.{ServerLaw, own_of}
use Rattle.coap_server_laws.specs.Follows.Registered.{CanObserve, IsRegistered, AllRegister}
use Rattle.coap_server.specs.Follows.Serves.{Serving, serving}
use Rattle.coap_server_laws.proofs.Observing.ServedObservers.{ServesAt, pair_if, served_at}
use Rattle.coap_server.proofs.Facts.Observing.StoreChanges.{get_same}
use Rattle.coap_server.proofs.Facts.Serving.Brought.{server_back}

all_so : (a b c d : Bool) → a ≡ true → b ≡ true → c ≡ true → d ≡ true → (a && (b && (c && d))) ≡ true
all_so a b c d h k l m = cc (h, k, l, m)

pub a_get : (n : ℕ) (q : Question) → observes n q ≡ true → is_get q.method ≡ true
a_get n q h = (and_parts (is_get q.method) (is_number n (uint_at observe q.options)) h).0

-- what is not changed marks nobody
pub unmarked : (at : ℕ) (path : List (List ℕ)) (old left : Content) (os : List Observer) → left ≡ old
    → marked_if at path old left os ≡ os
unmarked at path old left os h =
    ap (λ b. cond b os (changed_at at path os))
    (ap (λ (s : Content). s.tally.version == old.tally.version) h
    ∙ (unsigned_Decides old.tally.version old.tally.version).1 refl)

module _ (limits : Limits) (szx : ℕ) (setup : Setup) where
  abbrev own : List Call → Own
  own t = own_of limits szx t

  registers_here : (t : List Call) (x : Serving) → CanObserve limits szx t x
      → registers x.asked x.question x.reply (own t).observers ≡ true
  registers_here t x can =
      all_so _ _ _ _ can.observe ((unsigned_Decides x.reply.code content).1 can.code)
      ((unsigned_Decides x.reply.offset 0).1 can.offset)
      (lt-ltb (length (removed x.asked.from x.asked.token (own t).observers)) max_observers can.place)

  here : (t : List Call) (c : Call) → ServerLaw limits szx setup (c ∷ t) → (x : Serving) → serving (own t) c ≡ Some x
      → CanObserve limits szx t x → IsRegistered limits szx t c x
  here t c law x is can =
      let s : ServesAt limits szx setup t c x = served_at limits szx setup t c law x is in
      let so = registers_here t x can in
      let same = get_same x.old (own (c ∷ t)).clock x.question x.reply x.left (a_get 0 x.question can.observe)
      s.serves in
      record {
        registers = s.registers_so ∙ ap (λ b. pair_if b x.asked) so;
        last =
            s.observers
            ∙ (unmarked (own (c ∷ t)).clock x.question.path (own t).store x.left
            (observers_with (own (c ∷ t)).clock x.asked x.question x.reply (own t).observers) (same ∙ s.old)
            ∙ ap (λ b. cond b
            (registered (own (c ∷ t)).clock x.asked.from x.asked.token x.question.path
            (szx_by (block_of x.question.options) x.question.szx) (own t).observers)
            (cond (observes 1 x.question) (removed x.asked.from x.asked.token (own t).observers)
            (own t).observers)) so);
        says = s.says ∙ ap (λ b. sequence_if b ((own t).store.holds x.question.path)) so;
      }

  pub all_register : (t : List Call) → ServerLaw limits szx setup t → AllRegister limits szx t
  all_register [] law = tt
  all_register (c ∷ t) law = (
    λ x is can. here t c law x is can,
    all_register t (server_back limits szx setup c t law),
  )
