-- A Reset of what is outstanding to a peer leaves nothing of it at the message layer but what waits to be taken.
use Rattle.std.proofs.Common.{◌≡◌, ℕ, ◌<◌, max, Bool, true, false, Option, Some, None, List, [], ◌∷◌, ◌++◌, refl, ap}
use Rattle.std.proofs.Common.{sym, subst, ◌∙◌, cond, ◌==◌, ◌||◌}
use Rattle.std.specs.Cmp.{unsigned_Decides}
use Rattle.std.proofs.lemmas.List.{append-nil}
use Rattle.std.specs.List.{list_any}
use Rattle.coap_types.specs.declared.endpoint.Endpoint.{Endpoint}
use Rattle.coap_types.specs.declared.message.Id.{Id}
use Rattle.coap_types.specs.declared.message.Kind.TheVariants.{Rst}
use Rattle.coap_types.specs.SameEndpoint.{same_endpoint}
use Rattle.coap_codec.specs.Message.{Message}
use Rattle.coap_layer.specs.Arrivals.{Whole, arrival_at}
use Rattle.coap_layer.specs.Machine.State as L
use Rattle.coap_layer.specs.Machine.State.{answer_to, is_outstanding, made, out_to}
use Rattle.coap_layer.specs.Machine.Steps.{Steps}
use Rattle.coap_layer.specs.Machine.Ups.{IsQuiet}
use Rattle.coap_layer.specs.Trace as T
use Rattle.coap_layer.specs.Words.{awaited_of, from_there, handed_by}
use Rattle.coap_layer.specs.declared.setup.Setup.{Setup}
use Rattle.coap_layer.proofs.Facts.Arrivals.{one_arrival}
use Rattle.coap_layer.proofs.Facts.StepsOfLayer.{steps_split}
use Rattle.coap_exchange.specs.declared.answerer.Asked.{Asked}
use Rattle.coap_exchange.specs.declared.separate.Separate.{Separate}
use Rattle.coap_exchange.specs.AnswererTrace.{Call, Incoming, Own}
use Rattle.coap_exchange.specs.AnswererSteps.{asked_in, goes_to, handed_up, is_waited_for, reject_by, separate_after}
use Rattle.coap_exchange.specs.AnswererSteps.{without_separate}
use Rattle.coap_exchange.specs.AnswererLaw.{Led, State, Step, own_of}
use Rattle.coap_exchange.specs.AskerArrivals.{id_in, replying}
use Rattle.coap_exchange.specs.AskerRequests.{asked}
use Rattle.coap_exchange.specs.EmptyMessages.{reset_bytes}
use Rattle.coap_exchange.specs.Peers.{id_or_zero, outstanding_to, reset_to}
use Rattle.coap_exchange.proofs.EndsSaid.AreOutstanding.{waits_for}
use Rattle.coap_exchange.proofs.EndsSaid.OneForAPeer.{none_waited, one_for_a_peer, still_none}
use Rattle.coap_exchange.proofs.Facts.AskerReplies.{empty_of, reset_spells}
use Rattle.coap_exchange.proofs.Leading.ServerLeads.{led_law}

abbrev ends_by : Bool → ℕ → T.Disposition
ends_by true id = T.Reset id
ends_by false id = T.Unmatched id

-- at the layer, a Reset ends the CON that it is to, or is of nothing; nothing is sent
module _ (s : L.State) (at : ℕ) (from : Endpoint) (id : ℕ) (small : id < 65536) where
  arrives : Whole (empty_of Rst id) ≡ arrival_at (reset_bytes id)
  arrives = one_arrival (reset_bytes id) (Whole (empty_of Rst id)) (reset_spells id small)

  answer_by : (o : Bool) → is_outstanding from id s.open_cons ≡ o
      → answer_to s at from (Whole (empty_of Rst id)) ≡ ends_by o id
  answer_by true is = rw is refl
  answer_by false is = rw is refl

  answer_is : answer_to s at from (arrival_at (reset_bytes id)) ≡ ends_by (is_outstanding from id s.open_cons) id
  answer_is = ap (answer_to s at from) (sym arrives) ∙ answer_by (is_outstanding from id s.open_cons) refl

  out_by : (o : Bool) → is_outstanding from id s.open_cons ≡ o → out_to s at from (Whole (empty_of Rst id)) ≡ []
  out_by true is = rw is refl
  out_by false is = rw is refl

  out_is : out_to s at from (arrival_at (reset_bytes id)) ≡ []
  out_is = ap (out_to s at from) (sym arrives) ∙ out_by (is_outstanding from id s.open_cons) refl

  none_handed : (o : Bool) → from_there from (handed_by (T.Becomes (ends_by o id))) ≡ None
  none_handed true = refl
  none_handed false = refl

  handed_is : from_there from (handed_by (T.Becomes (answer_to s at from (arrival_at (reset_bytes id))))) ≡ None
  handed_is = ap (λ d. from_there from (handed_by (T.Becomes d))) answer_is
      ∙ none_handed (is_outstanding from id s.open_cons)

-- so it takes no memory
pub reset_quiet : (s : L.State) (now : ℕ) (from : Endpoint) (id : ℕ) → id < 65536
    → IsQuiet (made s now (T.Receive from (reset_bytes id)))
reset_quiet s now from id small =
    (handed_is s (max s.clock now) from id small, out_is s (max s.clock now) from id small)

-- the one that is found is outstanding
module _ (peer : Endpoint) (id : Id) where
  either : (x y : Bool) → y ≡ true → (x || y) ≡ true
  either true y e = refl
  either false y e = e

  goes_by : (x : Separate) (xs : List Separate) (b : Bool) → same_endpoint x.to peer ≡ b
      → (outstanding_to peer xs ≡ Some id → list_any (goes_to peer id.0) xs ≡ true)
      → cond b (Some x.id) (outstanding_to peer xs) ≡ Some id → list_any (goes_to peer id.0) (x ∷ xs) ≡ true
  goes_by x xs true of ih is =
      let one : x.id ≡ id = cc is in
      let yes : (x.id.0 == id.0) ≡ true = (unsigned_Decides x.id.0 id.0).1 (ap (λ (i : Id). i.0) one) in
      let here : goes_to peer id.0 x ≡ true = cc (of, yes) in
      ap (λ b. b || list_any (goes_to peer id.0) xs) here
  goes_by x xs false of ih is = either (goes_to peer id.0 x) (list_any (goes_to peer id.0) xs) (ih is)

  some_goes : (xs : List Separate) → outstanding_to peer xs ≡ Some id → list_any (goes_to peer id.0) xs ≡ true
  some_goes [] is = absurd (cc is)
  some_goes (x ∷ xs) is = goes_by x xs (same_endpoint x.to peer) refl (some_goes xs) is

-- no request is handed up, and what is left of the peer
pub record Freed (peer : Endpoint) (old new : State) (answer : Option (Asked × Message)) : Type 0 where
  pub none : answer ≡ None
  pub waited : is_waited_for peer new.own.separate ≡ false
  pub pending : new.own.pending ≡ None
  pub awaits : new.layer.awaits ≡ None
  pub queue : new.layer.queue ≡ old.layer.queue
  pub deferred : new.own.deferred ≡ old.own.deferred

none_replied : (from : Endpoint) (o : Bool) (id : ℕ)
    → replying from (id_in (T.Becomes (ends_by o id))) (reject_by (T.Becomes (ends_by o id))) ≡ []
none_replied from true id = refl
none_replied from false id = refl

not_handed : (from : Endpoint) (o : Bool) (id : ℕ) → handed_up from (T.Becomes (ends_by o id)) ≡ None
not_handed from true id = refl
not_handed from false id = refl

-- the first to the peer is taken off, and none is left
module _ (peer : Endpoint) (xs : List Separate) (one : (id : Id) → outstanding_to peer xs ≡ Some id
    → is_waited_for peer (without_separate peer id.0 xs) ≡ false) where
  left_by : (found : Option Id) (o : Bool) → outstanding_to peer xs ≡ found
      → ((id : Id) → found ≡ Some id → o ≡ true)
      → is_waited_for peer (separate_after peer (T.Becomes (ends_by o (id_or_zero found))) xs) ≡ false
  left_by None true is some = still_none peer peer 0 xs (none_waited peer xs is)
  left_by None false is some = none_waited peer xs is
  left_by (Some id) true is some = one id is
  left_by (Some id) false is some = absurd (cc (some id refl))

module _ (setup : Setup) (t : List Call) (peer : Endpoint) (old new : State) (led : Led setup t old) where
  abbrev xs : List Separate
  xs = old.own.separate

  abbrev id : ℕ
  id = reset_to peer xs

  abbrev o : Bool
  o = is_outstanding peer id old.layer.open_cons

  same : xs ≡ (own_of t).separate
  same = ap (λ (s : Own). s.separate) led.own_is

  one : (i : Id) → outstanding_to peer xs ≡ Some i → is_waited_for peer (without_separate peer i.0 xs) ≡ false
  one i is =
      subst (λ ys. outstanding_to peer ys ≡ Some i → is_waited_for peer (without_separate peer i.0 ys) ≡ false)
      (sym same) (one_for_a_peer setup t (led_law setup t old led) peer i) is

  open_then : (i : Id) → outstanding_to peer xs ≡ Some i → o ≡ true
  open_then i is =
      let goes : list_any (goes_to peer i.0) (own_of t).separate ≡ true =
      subst (λ ys. list_any (goes_to peer i.0) ys ≡ true) same (some_goes peer i xs is) in
      let there : is_outstanding peer i.0 old.layer.open_cons ≡ true =
      sym (waits_for setup t old.layer led.layer peer i.0) ∙ goes in
      ap (λ f. is_outstanding peer (id_or_zero f) old.layer.open_cons) is ∙ there

  pub reset_frees : (now : ℕ) (up : T.Answer) (answer : Option (Asked × Message)) → id < 65536
      → Step old (Incoming now peer (reset_bytes id) up answer) new → Freed peer old new answer
  reset_frees now up answer small step =
      let call : T.Call = T.Receive peer (reset_bytes id) in
      let parts = steps_split old.layer new.layer (replying peer (id_in up) (reject_by up)) (asked now call up ∷ [])
      step.under in
      let at : ℕ = max parts.1.0.clock now in
      let up_is : up ≡ T.Becomes (ends_by o id) = parts.1.2.right
      ∙ (ap (λ d. T.Becomes d) (answer_is parts.1.0 at peer id small)
      ∙ ap (λ (s : L.State). T.Becomes (ends_by (is_outstanding peer id s.open_cons) id)) parts.1.1) in
      let quiet : replying peer (id_in up) (reject_by up) ≡ [] =
      ap (λ u. replying peer (id_in u) (reject_by u)) up_is ∙ none_replied peer o id in
      let layer_is : new.layer ≡ parts.0 = subst (λ calls. Steps parts.0 calls new.layer) quiet parts.2 in
      let left : is_waited_for peer (separate_after peer (T.Becomes (ends_by o id)) xs) ≡ false =
      left_by peer xs one (outstanding_to peer xs) o refl (λ i is. open_then i is) in
      let none : answer ≡ None = step.right ∙ (ap (handed_up peer) up_is ∙ not_handed peer o id) in
      record {
        waited = ap (λ (s : Own). is_waited_for peer s.separate) step.own_is
            ∙ (ap (λ u. is_waited_for peer (separate_after peer u xs)) up_is ∙ left);
        none = none;
        pending = ap (λ (s : Own). s.pending) step.own_is ∙ ap asked_in none;
        awaits = ap (λ (s : L.State). s.awaits) layer_is ∙ (ap (λ (s : L.State). s.awaits) parts.1.2.new_is
            ∙ ap awaited_of (handed_is parts.1.0 at peer id small));
        deferred = ap (λ (s : Own). s.deferred) step.own_is;
        queue = ap (λ (s : L.State). s.queue) layer_is ∙ (ap (λ (s : L.State). s.queue) parts.1.2.new_is
            ∙ (ap (λ ps. parts.1.0.queue ++ ps) (out_is parts.1.0 at peer id small) ∙ (append-nil parts.1.0.queue
            ∙ ap (λ (s : L.State). s.queue) parts.1.1)));
      }
