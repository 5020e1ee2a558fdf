-- A verdict on an arrival does what the table of arrivals says.
use Rattle.std.proofs.Common.{◌≡◌, ℕ, Bool, true, false, Option, Some, None, List, [], ◌∷◌, Result, Ok, Err, refl, ap}
use Rattle.std.proofs.Common.{sym, ◌∙◌, cond, ◌&&◌, IfOk, IfErr}
use Rattle.coap_types.specs.Roles.{role_of}
use Rattle.coap_types.specs.declared.endpoint.Endpoint.{Endpoint}
use Rattle.coap_types.specs.declared.message.Id.{Id}
use Rattle.coap_types.specs.declared.message.Kind.{Kind}
use Rattle.coap_types.specs.declared.message.Kind.TheVariants.{Con, Non, Ack, Rst}
use Rattle.coap_types.specs.declared.role.Role.{Role}
use Rattle.coap_types.specs.declared.role.Role.TheVariants as role
use Rattle.coap_codec.specs.Faulty.{Faulty, head_of}
use Rattle.coap_types.specs.Bytes.{AreBytes}
use Rattle.coap_codec.specs.Message.{Message, Spells}
use Rattle.coap_codec.specs.declared.fault.Fault.{Fault}
use Rattle.coap_layer.specs.declared.arrival.Verdict.{Verdict}
use Rattle.coap_layer.specs.declared.arriving.Arriving.{Arriving}
use Rattle.coap_layer.specs.declared.arrival.Verdict.TheVariants as verdict
use Rattle.coap_layer.specs.Arrivals.{Whole, by_head, arrival_at}
use Rattle.coap_layer.specs.Machine.Arriving.{IsArriving, shown_by, told_by, of_head, sends, ends, hands, keeps}
use Rattle.coap_layer.specs.Machine.State.{State, answer_to, replay, sorted_by, newly, is_remembered, is_outstanding}
use Rattle.coap_layer.specs.Machine.State.{is_full, is_free}
use Rattle.coap_layer.specs.Machine.Table.{up_of}
use Rattle.coap_layer.specs.Trace.{Answer, Becomes, Receive}
use Rattle.coap_layer.specs.Machine.Verdicts.{answer_by}
use Rattle.coap_layer.specs.Words.{Awaited, awaits_in, ends_in, is_con, handed_by, kept_by, from_there, same}
use Rattle.coap_layer.proofs.Facts.Arrivals.{faulty_shows, one_arrival}

-- what was read is what the datagram shows
pub read_shows : (bytes : List ℕ) (r : Result Message Fault) → AreBytes bytes → IfOk r (λ m. Spells bytes m)
    → IfErr r (λ f. Faulty bytes f.reason f.at) → IfErr r (λ f. f.head ≡ head_of f.reason bytes)
    → shown_by r ≡ arrival_at bytes
read_shows bytes (Ok m) are found faulty head = one_arrival bytes (Whole m) found
read_shows bytes (Err f) are found faulty head =
    one_arrival bytes (by_head f.head) (faulty_shows bytes f.reason f.at are faulty f.head (sym head))

-- a duplicate is not handed up
again_down : (kind : Kind) (role : Role) (m : Message) (o f i : Bool) → m.kind ≡ kind
    → handed_by (Becomes (up_of kind role m o true f i)) ≡ None
again_down Con role.Empty m o f i h = refl
again_down Con role.Reserved m o f i h = refl
again_down Con role.Request m o f i h = refl
again_down Con role.Response m o f i h = refl
again_down Non role.Empty m o f i h = refl
again_down Non role.Reserved m o f i h = refl
again_down Non role.Request m o f i h = refl
again_down Non role.Response m o f i h = refl
again_down Ack role.Empty m true f i h = refl
again_down Ack role.Empty m false f i h = refl
again_down Ack role.Response m true f i h = rw h refl
again_down Ack role.Response m false f i h = refl
again_down Ack role.Request m o f i h = refl
again_down Ack role.Reserved m o f i h = refl
again_down Rst role.Empty m true f i h = refl
again_down Rst role.Empty m false f i h = refl
again_down Rst role.Request m o f i h = refl
again_down Rst role.Response m o f i h = refl
again_down Rst role.Reserved m o f i h = refl

-- what a verdict hands up
handed_so : (v : Verdict) (m : Message) → handed_by (Becomes (answer_by v m)) ≡ cond (hands v m.kind) (Some m) None
handed_so verdict.Reject m = refl
handed_so verdict.Drop m = refl
handed_so verdict.TakeAck m = refl
handed_so verdict.TakeReset m = refl
handed_so verdict.PassReset m = refl
handed_so verdict.Replay m = refl
handed_so (verdict.HandUpRequest k) m = refl
handed_so verdict.HandUpResponse m = refl

new_so : (v : Verdict) (m : Message) (r : Bool) → (r ≡ true → handed_by (Becomes (answer_by v m)) ≡ None)
    → hands v m.kind ≡ true → r ≡ false
new_so v m false down h = refl
new_so v m true down h = let e = handed_so v m in let d = down refl in absurd (cc (e, d, h))

kept_so : (v : Verdict) (m : Message) → kept_by (Becomes (answer_by v m)) ≡ cond (keeps v m.kind) (Some m) None
kept_so verdict.Reject m = refl
kept_so verdict.Drop m = refl
kept_so verdict.TakeAck m = refl
kept_so verdict.TakeReset m = refl
kept_so verdict.PassReset m = refl
kept_so verdict.Replay m = refl
kept_so (verdict.HandUpRequest k) m = refl
kept_so verdict.HandUpResponse m = refl

newly_so : (at : ℕ) (from : Endpoint) (m : Message) (b : Bool)
    → newly at (from_there from (cond b (Some m) None))
    ≡ cond b (record { from = from; id = m.id; at = at; con = is_con m.kind; reply = None } ∷ []) []
newly_so at from m true = refl
newly_so at from m false = refl

awaits_so : (bytes : List ℕ) (old : Option Awaited) (from : Endpoint) (m : Message) (answer : Answer) (b : Bool)
    → handed_by answer ≡ cond b (Some m) None
    → awaits_in (Receive from bytes) answer old ≡ cond b (Some (record { from = from; id = m.id })) None
awaits_so bytes old from m answer true h = rw h refl
awaits_so bytes old from m answer false h = rw h refl

module _ (s : State) (at : ℕ) (from : Endpoint) (m : Message) where
  sent_so : (v : Verdict) → replay s at (record { from = from; message = m }) (answer_by v m)
      ≡ sends v m.kind m.id at from s.arrived
  sent_so verdict.Reject = refl
  sent_so verdict.Drop = refl
  sent_so verdict.TakeAck = refl
  sent_so verdict.TakeReset = refl
  sent_so verdict.PassReset = refl
  sent_so verdict.Replay = refl
  sent_so (verdict.HandUpRequest k) = refl
  sent_so verdict.HandUpResponse = refl

  ended_so : (v : Verdict) (bytes : List ℕ) (to : Endpoint) (id : ℕ)
      → ends_in (Receive from bytes) (Becomes (answer_by v m)) to id ≡ (ends v && same from m.id to id)
  ended_so verdict.Reject bytes to id = refl
  ended_so verdict.Drop bytes to id = refl
  ended_so verdict.TakeAck bytes to id = refl
  ended_so verdict.TakeReset bytes to id = refl
  ended_so verdict.PassReset bytes to id = refl
  ended_so verdict.Replay bytes to id = refl
  ended_so (verdict.HandUpRequest k) bytes to id = refl
  ended_so verdict.HandUpResponse bytes to id = refl

  pub message_arrives : (v : Verdict) → answer_by v m ≡ sorted_by s at (record { from = from; message = m })
      → IsArriving s at from (Whole m) (record { kind = m.kind; id = record { 0 = m.id }; verdict = v })
  message_arrives v e =
      let down : is_remembered at from m.id s.arrived ≡ true → handed_by (Becomes (answer_by v m)) ≡ None =
      λ r. ap (λ d. handed_by (Becomes d)) (e ∙ ap
      (λ b. up_of m.kind (role_of m.code) m (is_outstanding from m.id s.open_cons) b (is_full s.most at s.arrived)
      (is_free at s.upcoming s.last_used)) r)
      ∙ again_down m.kind (role_of m.code) m _ _ _ refl in
      record {
        out = ap (replay s at (record { from = from; message = m })) (sym e) ∙ sent_so v;
        taken = λ bytes. ap (λ d. newly at (from_there from (kept_by (Becomes d)))) (sym e)
            ∙ (ap (λ o. newly at (from_there from o)) (kept_so v m) ∙ newly_so at from m (keeps v m.kind));
        awaits = λ bytes old. awaits_so bytes old from m
            (Becomes (sorted_by s at (record { from = from; message = m }))) (hands v m.kind)
            (ap (λ d. handed_by (Becomes d)) (sym e) ∙ handed_so v m);
        ended = λ bytes to id. ap (λ d. ends_in (Receive from bytes) (Becomes d) to id) (sym e)
            ∙ ended_so v bytes to id;
        new = new_so v m _ down;
      }

  pub judged : (kind : Kind) (id : Id) (v : Verdict) (o r f i : Bool) → kind ≡ m.kind → id.0 ≡ m.id
      → answer_by v m ≡ up_of kind (role_of m.code) m o r f i
      → o ≡ is_outstanding from m.id s.open_cons → r ≡ is_remembered at from m.id s.arrived → f
      ≡ is_full s.most at s.arrived
      → i ≡ is_free at s.upcoming s.last_used
      → IsArriving s at from (Whole m) (record { kind = kind; id = id; verdict = v })
      × (answer_by v m ≡ sorted_by s at (record { from = from; message = m }))
  judged kind id v o r f i k n e ho hr hf hi =
      let sorted : answer_by v m ≡ sorted_by s at (record { from = from; message = m }) = cc (k, e, ho, hr, hf, hi) in
      let there : IsArriving s at from (Whole m) (record { kind = m.kind; id = record { 0 = m.id }; verdict = v }) =
      message_arrives v sorted in
      (rw (k, n) there, sorted)

pub fault_arrives : (s : State) (at : ℕ) (from : Endpoint) (f : Fault)
    → IsArriving s at from (by_head f.head) (of_head f.head)
    × (told_by (of_head f.head).verdict (Err f) ≡ answer_to s at from (by_head f.head))
fault_arrives s at from f = go f.head
  where
    go : (head : Option (Kind × Id)) → IsArriving s at from (by_head head) (of_head head)
        × (told_by (of_head head).verdict (Err f) ≡ answer_to s at from (by_head head))
    go None = (
      record {
        out = refl;
        taken = λ bytes. refl;
        awaits = λ bytes old. refl;
        ended = λ bytes to id. refl;
        new = λ h. absurd (cc h);
      },
      refl,
    )
    go (Some (Con, id)) = (
      record {
        out = refl;
        taken = λ bytes. refl;
        awaits = λ bytes old. refl;
        ended = λ bytes to id. refl;
        new = λ h. absurd (cc h);
      },
      refl,
    )
    go (Some (Non, id)) = (
      record {
        out = refl;
        taken = λ bytes. refl;
        awaits = λ bytes old. refl;
        ended = λ bytes to id. refl;
        new = λ h. absurd (cc h);
      },
      refl,
    )
    go (Some (Ack, id)) = (
      record {
        out = refl;
        taken = λ bytes. refl;
        awaits = λ bytes old. refl;
        ended = λ bytes to id. refl;
        new = λ h. absurd (cc h);
      },
      refl,
    )
    go (Some (Rst, id)) = (
      record {
        out = refl;
        taken = λ bytes. refl;
        awaits = λ bytes old. refl;
        ended = λ bytes to id. refl;
        new = λ h. absurd (cc h);
      },
      refl,
    )

pub fault_judged : (s : State) (at : ℕ) (from : Endpoint) (read : Result Message Fault) (f : Fault) (a : Arriving)
    → read ≡ Err f → a ≡ of_head f.head
    → IsArriving s at from (shown_by read) a × (told_by a.verdict read ≡ answer_to s at from (shown_by read))
fault_judged s at from read f a is e = rw (is, e) (fault_arrives s at from f)

-- what is remembered is handed up
pub kept_hands : (v : Verdict) (kind : Kind) → keeps v kind ≡ true → hands v kind ≡ true
kept_hands verdict.Reject kind h = h
kept_hands verdict.Drop kind h = h
kept_hands verdict.TakeAck kind h = h
kept_hands verdict.TakeReset kind h = h
kept_hands verdict.PassReset kind h = h
kept_hands verdict.Replay kind h = h
kept_hands (verdict.HandUpRequest k) kind h = refl
kept_hands verdict.HandUpResponse kind h = h
