-- In a smooth run no notification to the client is given up: its Confirmable message is acknowledged before (RFC 7252,
-- section 4.2).
use Rattle.std.proofs.Common.{◌≡◌, ◌≤◌, ◌*◌, ◌+◌, ◌-◌, ◌==◌, ◌&&◌, Bool, true, false, cond, option_map, ℕ, Option, Some}
use Rattle.std.proofs.Common.{None, List, [], ◌∷◌, refl, ap, sym, subst}
use Rattle.std.proofs.Common.{◌∙◌, arith, inl, inr}
use Rattle.coap_types.specs.Past.{Ever}
use Rattle.coap_types.specs.SameEndpoint.{same_endpoint}
use Rattle.coap_types.proofs.Facts.Endpoints.{same_endpoint_is}
use Rattle.coap_types.proofs.Facts.Traces.{Always_back}
use Rattle.coap_types.specs.declared.endpoint.Endpoint.{Endpoint}
use Rattle.coap_layer.specs.Rows.{HasStep, IsFirst, LayerLaw, Row, Turns, copies, expires, rests}
use Rattle.coap_layer.specs.Sends.{IsOpen, as_begun}
use Rattle.coap_layer.specs.Trace as L
use Rattle.coap_layer.specs.Words.{Open, begun, begun_in, open_of, outstanding, sent_by}
use Rattle.coap_exchange.specs.declared.answerer.Ended.{Ended}
use Rattle.coap_exchange.specs.declared.separate.Separate.{Separate}
use Rattle.coap_exchange.specs.AnswererSteps.{ended_as, failed_by, found}
use Rattle.coap_server.specs.Follows.Observes.{ends_in}
use Rattle.coap_server.specs.Law.{ServerLaw, own_of}
use Rattle.coap_server.specs.Trace as S
use Rattle.coap_record.specs.Events.{Config}
use Rattle.coap_record.specs.Record.{Entry, server_trace}
use Rattle.coap_promise.proofs.Facts.Delivery.EntriesInTime.{Every, Timely}
use Rattle.coap_promise.proofs.Facts.Delivery.HopsAreEntries.{server_layer}
use Rattle.coap_smooth.proofs.Smoothly.Requests.RequestOpen.{open_was_begun}
use Rattle.coap_smooth.proofs.Watching.StillThere.FirstEntry.{failure_begins}
use Rattle.coap_smooth.proofs.Watching.StillThere.OpenYoung.{IsTimely}

-- an initial timeout is ACK_TIMEOUT at least

least : (at : ℕ) (to : Endpoint) (content : L.Content) (word : ℕ) (o : Option ℕ) (c : Open)
    → open_of at to content word o ≡ Some c → 2000 ≤ c.timeout
least at to content word None c h = absurd (cc h)
least at to content word (Some id) c h =
    let t = ap {B = ℕ} (λ (z : Option Open). elim z [ Some y ↦ y.timeout | None ↦ 0 ]) h in omega (arith, t)

timeout_least : (e : L.Entry) (c : Open) → begun e ≡ Some c → 2000 ≤ c.timeout
timeout_least e c h = by e.call h
  where
    by : (call : L.Call) → begun_in e.at call e.answer ≡ Some c → 2000 ≤ c.timeout
    by (L.Confirm to content word) k = least e.at to content word (sent_by e.answer) c k
    by (L.Receive from bytes) k = absurd (cc k)
    by (L.Reply to id bytes) k = absurd (cc k)
    by (L.Plain to content) k = absurd (cc k)
    by (L.Settle to id) k = absurd (cc k)
    by L.Ticks k = absurd (cc k)
    by L.Take k = absurd (cc k)
    by (L.Room to) k = absurd (cc k)
    by L.AsksFree k = absurd (cc k)
    by L.Pass k = absurd (cc k)

begun_least : (t : List L.Entry) (c : Open) → Ever (λ b. begun b ≡ Some c) t → 2000 ≤ c.timeout
begun_least [] c h = absurd h
begun_least (e ∷ t) c (inl h) = timeout_least e c h
begun_least (e ∷ t) c (inr h) = begun_least t c h

in_first : (Q : Open → Type 0) (c : Open) (cs : List Open) → IsFirst Q c cs → Ever (λ y. as_begun y ≡ as_begun c) cs
in_first Q c [] h = absurd h
in_first Q c (y ∷ cs) (inl h) = inl (ap as_begun h.0)
in_first Q c (y ∷ cs) (inr h) = inr (in_first Q c cs h.1)

-- what has failed is old
record OpenOld (to : Endpoint) (at : ℕ) (t : List L.Entry) : Type 0 where
  con : Open
  there : con.to ≡ to
  is_open : IsOpen t con
  old : con.first + 62000 ≤ at

failed : (setup : _) (t : List L.Entry) (e : L.Entry) (to : Endpoint) (id : ℕ) → LayerLaw setup (e ∷ t)
    → e.call ≡ L.Ticks → e.answer ≡ L.Expired to id → OpenOld to e.at t
failed setup t e to id law call answer = by row
  where
    row : Turns t e
    row = subst (Row setup t e) call law.0.row

    by : Turns t e → OpenOld to e.at t
    by (copies r) = let z = sym r.answer ∙ answer in absurd (cc z)
    by (rests r) = let z = sym r.answer ∙ answer in absurd (cc z)
    by (expires r) =
        let z : L.Expired r.con.to r.con.id ≡ L.Expired to id = sym r.answer ∙ answer in
        let o = in_first (HasStep e.at) r.con (outstanding t) r.first in
        let least = begun_least t (as_begun r.con) (open_was_begun t (as_begun r.con) o) in
        let fails = r.fails in
        record {
          con = as_begun r.con;
          there = cc z;
          is_open = o;
          old = old_by r.con.timeout r.con.first e.at least fails;
        }
      where
        old_by : (timeout first at : ℕ) → 2000 ≤ timeout → timeout * 31 ≤ at - first → first + 62000 ≤ at
        old_by timeout first at h k = omega (arith, h, k)

-- where it went that is told to have failed
gone_case : (to : Endpoint) (id : ℕ) (s : Separate) (xs : List Separate) (x : Ended)
    → (option_map ended_as (found to id xs) ≡ Some x → x.to ≡ to) → (a b : Bool) → same_endpoint s.to to ≡ a
    → (s.id.0 == id) ≡ b → option_map ended_as (cond (a && b) (Some s) (found to id xs)) ≡ Some x → x.to ≡ to
gone_case to id s xs x older true true p q k =
    let z : ended_as s ≡ x = cc k in
    sym (ap (λ (w : Ended). w.to) z) ∙ same_endpoint_is s.to to p
gone_case to id s xs x older true false p q k = older k
gone_case to id s xs x older false b p q k = older k

gone_to : (to : Endpoint) (id : ℕ) (xs : List Separate) (x : Ended) → failed_by (L.Expired to id) xs ≡ Some x → x.to
    ≡ to
gone_to to id [] x h = absurd (cc h)
gone_to to id (s ∷ xs) x h =
    gone_case to id s xs x (gone_to to id xs x) (same_endpoint s.to to) (s.id.0 == id) refl refl h

module _ (config : Config) (past : List Entry) where
  abbrev t : List S.Call
  t = server_trace config past

  expired_is : (below : L.Answer) (xs : List Separate) (x : Ended) → failed_by below xs ≡ Some x
      → (to : Endpoint) × (id : ℕ) × (below ≡ L.Expired to id)
  expired_is (L.Expired to id) xs x h = (to, id, refl)
  expired_is _ xs x h = absurd (cc h)

  expires_not : (now w : ℕ) (to : Endpoint) (id : ℕ) (room : _) (d : _) (passed : ℕ) (h : S.Handling) (number : ℕ)
      (answer : _)
      (x : Ended)
      → ServerLaw config.limits config.server_szx config.server_setup
      (S.Ticks now w (L.Expired to id) room d passed h number answer ∷ t)
      → IsTimely config past (S.Ticks now w (L.Expired to id) room d passed h number answer)
      → ends_in (own_of config.limits config.server_szx t) (S.Ticks now w (L.Expired to id) room d passed h number
      answer)
      ≡ Some x → x.to ≡ config.addresses.client → ⊥
  expires_not now w to id room d passed h number answer x law timely is there =
      let k = failure_begins config t now w to id room d passed h number answer law in
      let o = failed config.server_setup (server_layer config t) k.entry to id k.law k.call_is k.answer_is in
      let place : to ≡ config.addresses.client =
      sym (gone_to to id (own_of config.limits config.server_szx t).exchanges.separate x is) ∙ there in
      let young = timely.young o.con (o.there ∙ place) o.is_open in
      let old = o.old in
      let till = (Always_back _ k.newer (k.entry ∷ []) (subst (Every (Timely timely.at _)) k.adds
      timely.timely)).0.till in
      absurd (omega (arith, young, old, till))

  pub never_fails : (now w : ℕ) (below : L.Answer) (room : _) (d : _) (passed : ℕ) (h : S.Handling) (number : ℕ)
      (answer : _)
      (x : Ended)
      → ServerLaw config.limits config.server_szx config.server_setup
      (S.Ticks now w below room d passed h number answer ∷ t)
      → IsTimely config past (S.Ticks now w below room d passed h number answer)
      → ends_in (own_of config.limits config.server_szx t) (S.Ticks now w below room d passed h number answer) ≡ Some x
      → x.to ≡ config.addresses.client → ⊥
  never_fails now w below room d passed h number answer x law timely is there =
      let k = expired_is below (own_of config.limits config.server_szx t).exchanges.separate x is in
      by k.0 k.1 k.2
    where
      by : (to : Endpoint) (id : ℕ) → below ≡ L.Expired to id → ⊥
      by to id same =
          let c : L.Answer → S.Call = λ z. S.Ticks now w z room d passed h number answer in
          expires_not now w to id room d passed h number answer x
          (subst (λ z. ServerLaw config.limits config.server_szx config.server_setup (c z ∷ t)) same law)
          (subst (λ z. IsTimely config past (c z)) same timely)
          (subst (λ z. ends_in (own_of config.limits config.server_szx t) (c z) ≡ Some x) same is) there
