-- What a datagram would be is decided by what is still remembered.
use Rattle.std.proofs.Common.{◌≡◌, ◌≤◌, ℕ, false, Option, Some, None, List, [], Result, Ok, Err, filter, refl, ap, ◌∙◌}
use Rattle.coap_types.specs.Roles.{role_of}
use Rattle.coap_types.specs.declared.endpoint.Endpoint.{Endpoint}
use Rattle.coap_types.specs.declared.message.Id.{Id}
use Rattle.coap_types.specs.declared.message.Kind.{Kind}
use Rattle.coap_types.specs.declared.message.Kind.TheVariants.{Con, Non, Ack, Rst}
use Rattle.coap_codec.specs.Message.{Message}
use Rattle.coap_codec.specs.declared.fault.Fault.{Fault}
use Rattle.coap_layer.specs.declared.arrival.Verdict.{Verdict}
use Rattle.coap_layer.specs.declared.would.Would.{Would}
use Rattle.coap_layer.specs.Arrivals.{Arrival, Unreadable, Faulted, Whole, arrival_at, by_head}
use Rattle.coap_layer.specs.Machine.Arriving.{of_head, shown_by}
use Rattle.coap_layer.specs.Machine.State.{State, answer_to, forgotten, is_free, is_live, is_of, is_outstanding}
use Rattle.coap_layer.specs.Machine.State.{is_remembered}
use Rattle.coap_layer.specs.Machine.Table.{up_of}
use Rattle.coap_layer.specs.Machine.Verdicts.{answer_by}
use Rattle.coap_layer.specs.Machine.Would.{placed_to, would_at, would_by}
use Rattle.coap_layer.specs.Trace.{Answer, Becomes, Disposition, Dropped, Receive}
use Rattle.coap_layer.proofs.ListLemmas.{any_implied}
use Rattle.coap_layer.proofs.Machine.Forgetting.{live_before, of_live, same_answer}

abbrev told : Answer → Disposition
told (Becomes d) = d
told _ = Dropped

module _ (h : State) (at : ℕ) (le : h.clock ≤ at) where
  same_placed : (from : Endpoint) (what : Arrival) → placed_to (forgotten h) at from what ≡ placed_to h at from what
  same_placed from Unreadable = refl
  same_placed from (Faulted kind id) = refl
  same_placed from (Whole m) =
      ap (λ r. up_of m.kind (role_of m.code) m (is_outstanding from m.id h.open_cons) r false
      (is_free at h.upcoming h.last_used))
      (any_implied (is_live h.clock) (is_of at from m.id)
      (λ a k. live_before h.clock at a le (of_live at from m.id a k)) h.arrived)

  pub same_would : (from : Endpoint) (bytes : List ℕ)
      → would_at (forgotten h) at from (arrival_at bytes) ≡ would_at h at from (arrival_at bytes)
  same_would from bytes =
      ap (λ could. would_by could (answer_to (forgotten h) at from (arrival_at bytes)))
      (same_placed from (arrival_at bytes))
      ∙ ap (λ does. would_by (placed_to h at from (arrival_at bytes)) does)
      (ap told (same_answer h at le (Receive from bytes)))

-- a message whose verdict says what becomes of it, whatever the message
abbrev some_message : Message
some_message = record { kind = Con; code = 0; id = 0; token = []; options = []; payload = [] }

-- what spells no message would be what its verdict says
head_would : (s : State) (at : ℕ) (from : Endpoint) (head : Option (Kind × Id)) (v : Verdict) (w : Would)
    → v ≡ (of_head head).verdict → ((m : Message) → w ≡ would_by (answer_by v m) (answer_by v m))
    → w ≡ would_at s at from (by_head head)
head_would s at from None v w is by = by some_message ∙ ap (λ x. would_by (answer_by x some_message)
    (answer_by x some_message)) is
head_would s at from (Some (Con, id)) v w is by = by some_message ∙ ap (λ x. would_by (answer_by x some_message)
    (answer_by x some_message)) is
head_would s at from (Some (Non, id)) v w is by = by some_message ∙ ap (λ x. would_by (answer_by x some_message)
    (answer_by x some_message)) is
head_would s at from (Some (Ack, id)) v w is by = by some_message ∙ ap (λ x. would_by (answer_by x some_message)
    (answer_by x some_message)) is
head_would s at from (Some (Rst, id)) v w is by = by some_message ∙ ap (λ x. would_by (answer_by x some_message)
    (answer_by x some_message)) is

pub fault_would : (s : State) (at : ℕ) (from : Endpoint) (read : Result Message Fault) (f : Fault) (v : Verdict)
    (w : Would) → read ≡ Err f → v ≡ (of_head f.head).verdict
    → ((m : Message) → w ≡ would_by (answer_by v m) (answer_by v m)) → w ≡ would_at s at from (shown_by read)
fault_would s at from read f v w is verdict by = rw is (head_would s at from f.head v w verdict by)
