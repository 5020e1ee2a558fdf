-- Where nothing was due at a tick, what is outstanding later began less than MAX_TRANSMIT_WAIT before that.
use Rattle.std.proofs.Common.{◌≡◌, ◌⊎◌, inl, inr, ⊎_elim, ℕ, ◌+◌, ◌*◌, ◌-◌, ◌%◌, ◌≤◌, ◌<◌, Option, Some, None, List, []}
use Rattle.std.proofs.Common.{◌∷◌}
use Rattle.std.proofs.Common.{ap, sym, subst, arith, option_to_list}
use Rattle.std.proofs.lemmas.Bool.{cases_lt}
use Rattle.std.proofs.lemmas.Nat.{mod_below}
use Rattle.std.specs.List.{filter_map}
use Rattle.coap_types.specs.Past.{Ever}
use Rattle.coap_types.proofs.Facts.Traces.{Ever_append, Ever_map}
use Rattle.coap_types.specs.declared.endpoint.Endpoint.{Endpoint}
use Rattle.coap_types.specs.declared.message.Kind.TheVariants.{Con}
use Rattle.coap_types.specs.declared.transmission.TheConstants.{ACK_TIMEOUT_MS as ack_timeout}
use Rattle.coap_types.specs.declared.transmission.TheConstants.{FAILURE_TIMEOUTS as failure_timeouts}
use Rattle.coap_types.specs.declared.transmission.TheConstants.{MAX_TRANSMIT_WAIT_MS as max_transmit_wait}
use Rattle.coap_types.specs.declared.transmission.TheConstants.{TIMEOUT_VALUES as timeout_values}
use Rattle.coap_codec.specs.Spelling.{message_bytes}
use Rattle.coap_layer.specs.Rested.{RestsFrom, RestedSince}
use Rattle.coap_layer.specs.Rows.{LayerLaw, Row, Turns, HasStep, copies, expires, rests}
use Rattle.coap_layer.specs.Sends.{IsIn, as_begun}
use Rattle.coap_layer.specs.Trace.{Setup, Content, with_head, Call, Confirm}
use Rattle.coap_layer.specs.Trace.{Answer, Entry}
use Rattle.coap_layer.specs.Words.{Open, begun, begun_in, clock, left_by, open_of, outstanding, sent_by}
use Rattle.coap_layer.proofs.Copies.CopiesInTime.{begun_fresh, in_filter_map, in_option, left_same, was_begun}

-- the greatest initial timeout
timeout_of : (at : ℕ) (to : Endpoint) (content : Content) (wish : ℕ) (o : Option ℕ) (c : Open)
    → open_of at to content wish o ≡ Some c → c.timeout ≤ 3000
timeout_of at to content wish None c h = absurd (cc h)
timeout_of at to content wish (Some id) c h =
    let new : Open = record {
      to = to;
      id = id;
      bytes = message_bytes (with_head Con id content);
      timeout = ack_timeout + wish % timeout_values;
      first = at;
      last = at;
    } in
    let e : new ≡ c = cc h in
    let same : ack_timeout + wish % timeout_values ≡ c.timeout = ap (λ (x : Open). x.timeout) e in
    let small : wish % timeout_values < timeout_values = mod_below wish timeout_values (omega arith) in
    omega (arith, same, small)

begun_timeout : (at : ℕ) (call : Call) (answer : Answer) (c : Open) → begun_in at call answer ≡ Some c
    → c.timeout ≤ 3000
begun_timeout at (Confirm to content wish) answer c h = timeout_of at to content wish (sent_by answer) c h
begun_timeout at _ answer c h = absurd (cc h)

was_timeout : (t : List Entry) (c : Open) → Ever (λ b. begun b ≡ Some c) t → c.timeout ≤ 3000
was_timeout [] c h = absurd h
was_timeout (e ∷ past) c (inl h) = begun_timeout e.at e.call e.answer c h
was_timeout (e ∷ past) c (inr h) = was_timeout past c h

open_timeout : (t : List Entry) (c : Open) → IsIn c (outstanding t) → c.timeout ≤ 3000
open_timeout t c h = was_timeout t (as_begun c) (was_begun t c h)

-- the layer has come as far
rested_by : (setup : Setup) (t : List Entry) (when : ℕ) → LayerLaw setup t → Ever (RestsFrom when) t → when ≤ clock t
rested_by setup [] when law h = absurd h
rested_by setup (e ∷ past) when law (inl h) = h.from
rested_by setup (e ∷ past) when law (inr h) =
    let k = rested_by setup past when law.1 h in let l = law.0.time in omega (arith, k, l)

-- what is outstanding here has not failed
not_failed : (setup : Setup) (past : List Entry) (e : Entry) (when : ℕ) → LayerLaw setup (e ∷ past) → RestsFrom when e
    → (c : Open) → IsIn c (outstanding past) → when < c.first + max_transmit_wait
not_failed setup past e when law h c there = by (subst (Row setup past e) h.call law.0.row)
  where
    short : c.timeout ≤ 3000
    short = open_timeout past c there

    -- it waits still
    waits : (Ever (HasStep e.at) (outstanding past) → ⊥) → (e.at - c.first < c.timeout * failure_timeouts)
        ⊎ (c.timeout * failure_timeouts ≤ e.at - c.first) → when < c.first + max_transmit_wait
    waits none (inl less) = let f = h.from in let s = short in omega (arith, less, f, s)
    waits none (inr fails) = absurd (none (Ever_map (λ x. x ≡ c) (HasStep e.at)
        (λ x is. subst (HasStep e.at) (sym is) (inl fails)) (outstanding past) there))

    by : Turns past e → when < c.first + max_transmit_wait
    by (copies x) = let a = h.answer in let b = x.answer in absurd (cc (a, b))
    by (expires x) = let a = h.answer in let b = x.answer in absurd (cc (a, b))
    by (rests x) = waits x.none (cases_lt (e.at - c.first) (c.timeout * failure_timeouts))

module _ (setup : Setup) (con : Open) (when : ℕ) where
  -- one that begins here
  of_new : (past : List Entry) (e : Entry) → LayerLaw setup (e ∷ past) → Ever (RestsFrom when) (e ∷ past)
      → begun e ≡ Some con → when < con.first + max_transmit_wait
  of_new past e law h is =
      let by = rested_by setup (e ∷ past) when law h in
      let f = (begun_fresh e.at e.call e.answer con is).0 in
      omega (arith, by, f)

  same_first : (c : Open) → as_begun c ≡ as_begun con → when < c.first + max_transmit_wait
      → when < con.first + max_transmit_wait
  same_first c same h = let f : c.first ≡ con.first = ap (λ (x : Open). x.first) same in omega (arith, f, h)

pub rested_since : (setup : Setup) (t : List Entry) → LayerLaw setup t → RestedSince t
rested_since setup [] law con when h r = absurd h
rested_since setup (e ∷ past) law con when h r = elim (Ever_append (λ y. y ≡ con)
    (filter_map (left_by e) (outstanding past))
    (option_to_list (begun e)) h) [
      | inl old ↦ (
          let q = in_filter_map (left_by e) con (outstanding past) old in
          same_first setup con when q.0 (left_same e q.0 con q.2)
          (⊎_elim (λ now. not_failed setup past e when law now q.0 q.1)
          (λ before. rested_since setup past law.1 q.0 when q.1 before) r))
      | inr new ↦ of_new setup con when past e law r (in_option con (begun e) new)
    ]
