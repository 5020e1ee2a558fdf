-- The layer's clock and its outstanding CON are those of the client's side, and ends come in time.
use Rattle.std.proofs.Common.{◌≡◌, ◌⊎◌, inl, inr, ℕ, ◌+◌, ◌%◌, max, Bool, true, false, Option, Some, None, List, []}
use Rattle.std.proofs.Common.{◌++◌, refl, ap, sym, subst, ◌∙◌, cond, option_to_list}
use Rattle.std.proofs.lemmas.List.{append-nil}
use Rattle.coap_types.specs.declared.endpoint.Endpoint.{Endpoint}
use Rattle.coap_types.proofs.Facts.Endpoints.{same_endpoint_is}
use Rattle.coap_layer.specs.Machine.State as L
use Rattle.coap_layer.specs.Machine.State.{out_of}
use Rattle.coap_layer.specs.Machine.Steps.{Steps}
use Rattle.coap_layer.specs.Trace as T
use Rattle.coap_layer.specs.Words.{Open, open_of, begun_in, left_by}
use Rattle.coap_exchange.specs.declared.asker.Event.TheVariants as event
use Rattle.coap_exchange.specs.declared.asker.Turn.TheVariants as turn
use Rattle.coap_exchange.specs.declared.matching.Opening.{Opening}
use Rattle.coap_exchange.specs.declared.matching.Opening.TheVariants.{Running, Spent, Sends}
use Rattle.coap_exchange.specs.declared.matching.Verdict.{Verdict}
use Rattle.coap_exchange.specs.declared.matching.Verdict.TheVariants.{Ignore, AnswerCon, Answer}
use Rattle.coap_exchange.specs.declared.matching.Verdict.TheVariants.{Await, EndByReset}
use Rattle.coap_exchange.specs.declared.asker.Exchange.{Exchange}
use Rattle.coap_exchange.specs.AskerTrace.{Request, Own}
use Rattle.coap_exchange.specs.AskerRequests.{beneath, opening_of, opened, sent_as, request_token, content_of}
use Rattle.coap_exchange.specs.AskerArrivals.{is_of_request, verdict_on, settles, replying, settling, running_after}
use Rattle.coap_exchange.specs.AskerArrivals.{running_unless, turn_of, has_waited, acked_in}
use Rattle.coap_exchange.specs.AskerFollows.{Begun}
use Rattle.coap_layer.specs.Machine.Calls.{opens_then, entry_of}
use Rattle.coap_layer.proofs.Facts.CallsOfLayer.{step_clock, step_opens, left_same, left_same_nil}
use Rattle.coap_exchange.specs.Machine.Outstanding.{Lone}
use Rattle.coap_exchange.proofs.Ending.LoneRequest.{without, ends_of, other_left, copied_left}
use Rattle.coap_exchange.proofs.Facts.Verdicts as match
use Rattle.coap_exchange.proofs.Facts.Verdicts.{OfRequest, of_request}
use Rattle.coap_exchange.proofs.Facts.Moves.{not_running, opened_none, opened_some}

-- a request

pub record Opens (mid h : L.State) (now : ℕ) (server : Endpoint) (content : T.Content) (w : ℕ)
    (sent : Option ℕ) : Type 0 where
  pub clock : h.clock ≡ max mid.clock now
  pub opens : h.open_cons ≡ mid.open_cons ++ option_to_list (open_of (max mid.clock now) server content w sent)

pub ask_opens : (o : Opening) (mid h : L.State) (now : ℕ) (server : Endpoint) (content : T.Content) (w : ℕ)
    (below : T.Answer) → L.Step mid now (beneath o server content w) below h
    → Opens mid h now server content w (sent_as o below)
ask_opens Running mid h now server content w below step = record {
  clock = step_clock mid h now T.Pass below step;
  opens = step_opens mid h now T.Pass below step
      ∙ ap (λ x. x ++ []) (left_same (entry_of (max mid.clock now) T.Pass below (out_of mid (max mid.clock now) T.Pass))
      (λ c. refl) mid.open_cons);
}
ask_opens Spent mid h now server content w below step = record {
  clock = step_clock mid h now T.AsksFree below step;
  opens = step_opens mid h now T.AsksFree below step
      ∙ ap (λ x. x ++ []) (left_same (entry_of (max mid.clock now) T.AsksFree below
      (out_of mid (max mid.clock now) T.AsksFree)) (λ c. refl) mid.open_cons);
}
ask_opens Sends mid h now server content w below step = record {
  clock = step_clock mid h now (T.Confirm server content w) below step;
  opens = step_opens mid h now (T.Confirm server content w) below step
      ∙ ap (λ x. x ++ option_to_list (begun_in (max mid.clock now) (T.Confirm server content w) below))
      (left_same (entry_of (max mid.clock now) (T.Confirm server content w) below
      (out_of mid (max mid.clock now) (T.Confirm server content w))) (λ c. refl) mid.open_cons);
}

module _ (s : Own) (r : Request) (now w : ℕ) (below : T.Answer) (mid h : L.State) (b : Option Begun) where
  abbrev pub content : T.Content
  content = content_of (request_token s r) r

  pub refused_lone : sent_as (opening_of s r) below ≡ None
      → Opens mid h now s.server content w (sent_as (opening_of s r) below) → Lone s.server s.running b mid.open_cons
      → Lone (opened s r (sent_as (opening_of s r) below)).server
      (opened s r (sent_as (opening_of s r) below)).running b h.open_cons
  refused_lone none o lone =
      let same : h.open_cons ≡ mid.open_cons = o.opens
      ∙ (ap (λ z. mid.open_cons ++ option_to_list (open_of (max mid.clock now) s.server content w z)) none
      ∙ append-nil mid.open_cons) in
      subst (λ (x : Own). Lone x.server x.running b h.open_cons) (sym (opened_none s r below none))
      (subst (Lone s.server s.running b) (sym same) lone)

  pub sent_lone : (id : ℕ) → sent_as (opening_of s r) below ≡ Some id → opening_of s r ≡ Sends
      → Opens mid h now s.server content w (sent_as (opening_of s r) below) → mid.clock ≡ s.clock
      → Lone s.server s.running b mid.open_cons
      → Lone (opened s r (sent_as (opening_of s r) below)).server (opened s r (sent_as (opening_of s r) below)).running
      (Some (record { at = max s.clock now; timeout = 2000 + w % 1001 })) h.open_cons
  sent_lone id some opens o clock lone =
      let none : mid.open_cons ≡ [] = subst (λ x. Lone s.server x b mid.open_cons) (not_running s r opens) lone in
      let all : h.open_cons ≡ option_to_list (open_of (max mid.clock now) s.server content w (Some id)) =
      o.opens ∙ (ap (λ z. mid.open_cons ++ option_to_list (open_of (max mid.clock now) s.server content w z)) some
      ∙ ap (λ z. z ++ option_to_list (open_of (max mid.clock now) s.server content w (Some id))) none) in
      subst (λ (x : Own). Lone x.server x.running
      (Some (record { at = max s.clock now; timeout = 2000 + w % 1001 })) h.open_cons)
      (sym (opened_some s r below id some)) (inl (record {
        con = _;
        only = all;
        to_is = refl;
        id_is = refl;
        unheard = refl;
        begun = record { at = max s.clock now; timeout = 2000 + w % 1001 };
        last = refl;
        first = ap (λ z. max z now) clock;
        timeout = refl;
      }))

-- an arrival

-- a verdict that neither acknowledges nor ends the exchange by a Reset
abbrev Quiet : Verdict → Type 0
Quiet Await = ⊥
Quiet EndByReset = ⊥
Quiet _ = Unit {0}

module _ (s : Own) (b : Option Begun) (at : ℕ) (from : Endpoint) (bytes : List ℕ) (out : List T.Packet) (cs : List Open)
    (lone : Lone s.server s.running b cs) where
  abbrev then_opens : T.Answer → List Open
  then_opens up = opens_then at (T.Receive from bytes) up out cs

  plain_lone : (up : T.Answer) → ((c : Open) → left_by (entry_of at (T.Receive from bytes) up out) c ≡ Some c)
      → Lone s.server s.running b (then_opens up)
  plain_lone up f = subst (Lone s.server s.running b)
      (sym (left_same_nil (entry_of at (T.Receive from bytes) up out) f cs)) lone

  quiet_by : (id : ℕ) (v : Verdict) (w : Bool) → is_of_request s from id ≡ w → (v ≡ Ignore → ⊥)
      → Quiet (cond w v Ignore) → ((v ≡ Await) ⊎ (v ≡ EndByReset)) → Lone s.server s.running b (without from id cs)
  quiet_by id v false is ne q e = other_left s b cs from id is lone
  quiet_by id v true is ne q (inl e) = absurd (subst Quiet e q)
  quiet_by id v true is ne q (inr e) = absurd (subst Quiet e q)

  quiet_lone : (up : T.Answer) → Quiet (verdict_on s from up) → Lone s.server s.running b (then_opens up)
  quiet_lone (T.Becomes (T.Acked id)) q = quiet_by id Await (is_of_request s from id) refl (λ e. cc e) q (inl refl)
  quiet_lone (T.Becomes (T.Reset id)) q = quiet_by id EndByReset (is_of_request s from id) refl (λ e. cc e) q (inr refl)
  quiet_lone up q = plain_lone up (λ c. refl)

  -- the request is acknowledged or rejected: none is outstanding
  gone : (id : ℕ) (o : OfRequest s from id) → without from id cs ≡ []
  gone id o = ends_of s.server o.exchange b cs from id (same_endpoint_is from s.server o.there) o.id_is
      (subst (λ x. Lone s.server x b cs) o.runs lone)

-- what follows an arrival
abbrev pub settled_opens : Bool → Endpoint → Option Exchange → List Open → List Open
settled_opens true server (Some x) cs = without server x.id.0 cs
settled_opens true server None cs = cs
settled_opens false server running cs = cs

pub replying_opens : (from : Endpoint) (id : ℕ) (o : Option (List ℕ)) (old new : L.State)
    → Steps old (replying from id o) new → (new.clock ≡ old.clock) × (new.open_cons ≡ old.open_cons)
replying_opens from id None old new h = (ap (λ (x : L.State). x.clock) h, ap (λ (x : L.State). x.open_cons) h)
replying_opens from id (Some bytes) old new h = (
  step_clock h.0 new 0 (T.Reply from id bytes) T.Nothing h.2 ∙ ap (λ (x : L.State). x.clock) h.1,
  step_opens h.0 new 0 (T.Reply from id bytes) T.Nothing h.2
      ∙ (left_same_nil (entry_of h.0.clock (T.Reply from id bytes) T.Nothing
      (out_of h.0 h.0.clock (T.Reply from id bytes))) (λ c. refl) h.0.open_cons
      ∙ ap (λ (x : L.State). x.open_cons) h.1),
)

pub settling_opens : (v : Bool) (server : Endpoint) (running : Option Exchange) (settled : Bool) (old new : L.State)
    → Steps old (settling v server running settled) new
    → (new.clock ≡ old.clock) × (new.open_cons ≡ settled_opens v server running old.open_cons)
settling_opens true server (Some x) settled old new h = (
  step_clock h.0 new 0 (T.Settle server x.id.0) (T.Is settled) h.2 ∙ ap (λ (s : L.State). s.clock) h.1,
  step_opens h.0 new 0 (T.Settle server x.id.0) (T.Is settled) h.2
      ∙ ap (λ (s : L.State). without server x.id.0 s.open_cons) h.1,
)
settling_opens _ server _ settled old new h = (ap (λ (x : L.State). x.clock) h, ap (λ (x : L.State). x.open_cons) h)

module _ (s : Own) (b : Option Begun) (at now : ℕ) (from : Endpoint) (bytes : List ℕ) (out : List T.Packet)
    (cs : List Open) (lone : Lone s.server s.running b cs) (up : T.Answer) where
  abbrev pub heard : List Open
  heard = opens_then now (T.Receive from bytes) up out cs

  settled_none : Lone s.server s.running b heard → (x : Exchange) → s.running ≡ Some x
      → settled_opens true s.server s.running heard ≡ []
  settled_none here x is =
      ap (λ r. settled_opens true s.server r heard) is
      ∙ ends_of s.server x b heard s.server x.id.0 refl refl (subst (λ r. Lone s.server r b heard) is here)

  pub left_by_verdict : (v : Verdict) → verdict_on s from up ≡ v → match.Fits s from up v
      → Lone s.server (running_after at v s.running) b (settled_opens (settles v) s.server s.running heard)
  left_by_verdict AnswerCon is f = settled_none
      (quiet_lone s b now from bytes out cs lone up (subst Quiet (sym is) tt)) f.exchange f.runs
  left_by_verdict Answer is f = settled_none (quiet_lone s b now from bytes out cs lone up (subst Quiet (sym is) tt))
      f.exchange f.runs
  left_by_verdict EndByReset is f = ap (λ u. opens_then now (T.Receive from bytes) u out cs) f.1
      ∙ gone s b now from bytes out cs lone f.0 f.2
  left_by_verdict Await is f =
      let none : heard ≡ [] = ap (λ u. opens_then now (T.Receive from bytes) u out cs) f.1
      ∙ gone s b now from bytes out cs lone f.0 f.2 in
      subst (λ r. Lone s.server (running_after at Await r) b heard) (sym f.2.runs)
      (inr (record { none = none; at = record { 0 = at }; since = refl }))
  left_by_verdict _ is f = quiet_lone s b now from bytes out cs lone up (subst Quiet (sym is) tt)

-- time passes
module _ (s : Own) (b : Option Begun) (at l_at : ℕ) (out : List T.Packet) (cs : List Open)
    (lone : Lone s.server s.running b cs) where
  abbrev pub later : T.Answer → List Open
  later below = opens_then l_at T.Ticks below out cs

  still : (below : T.Answer) → ((c : Open) → left_by (entry_of l_at T.Ticks below out) c ≡ Some c)
      → Lone s.server s.running b (later below)
  still below f = subst (Lone s.server s.running b) (sym (left_same_nil (entry_of l_at T.Ticks below out) f cs)) lone

  expired_lone : (to : Endpoint) (id : ℕ) (w : Bool) → is_of_request s to id ≡ w
      → Lone s.server (running_unless (cond w (turn.End event.Timeout) turn.Idle) s.running) b (without to id cs)
  expired_lone to id true is = let o = of_request s to id is in ends_of s.server o.exchange b cs to id
      (same_endpoint_is to s.server o.there) o.id_is (subst (λ x. Lone s.server x b cs) o.runs lone)
  expired_lone to id false is = other_left s b cs to id is lone

  none_outstanding : (running : Option Exchange) → Lone s.server running b cs → has_waited at (acked_in running) ≡ true
      → cs ≡ []
  none_outstanding None l h = l
  none_outstanding (Some x) (inl z) h = absurd (cc (h, ap (has_waited at) z.unheard))
  none_outstanding (Some x) (inr z) h = z.none

  waited_lone : (w : Bool) → has_waited at (acked_in s.running) ≡ w
      → Lone s.server (running_unless (cond w (turn.End event.NoResponse) turn.Idle) s.running) b (later T.Idle)
  waited_lone true is = left_same_nil (entry_of l_at T.Ticks T.Idle out) (λ c. refl) cs
      ∙ none_outstanding s.running lone is
  waited_lone false is = still T.Idle (λ c. refl)

  pub turned_lone : (below : T.Answer) → Lone s.server (running_unless (turn_of s at below) s.running) b (later below)
  turned_lone (T.Expired to id) = expired_lone to id (is_of_request s to id) refl
  turned_lone (T.Copied to id) = copied_left s.server s.running b cs l_at to id lone
  turned_lone T.Idle = waited_lone (has_waited at (acked_in s.running)) refl
  turned_lone below = still below (λ c. refl)
