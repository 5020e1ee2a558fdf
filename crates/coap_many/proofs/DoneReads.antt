-- What was done is read by whoever asks after its report.
use Rattle.std.proofs.Common.{◌≡◌, ◌+◌, inl, inr, ℕ, Some, List, [], ◌∷◌, ◌++◌, sym, subst}
use Rattle.coap_types.specs.Past.{Sometime, Always}
use Rattle.coap_resource.specs.Content.{Held}
use Rattle.coap_client.specs.Trace.{Request, Done}
use Rattle.coap_client_laws.specs.Follows.Numbers.{NumbersOnce}
use Rattle.coap_server.proofs.Facts.Holds.{held_is}
use Rattle.coap_many.proofs.Promises.{Promises}
use Rattle.coap_promise.specs.Applied.{Does}
use Rattle.coap_many.specs.Clients.{Client, Config, IsClient, world_of}
use Rattle.coap_many.specs.DoneReads.{IsDoneAt, IsNoOlder, LeavesNoNewer, ReadsWhatWasDone, ObservesWhatWasDone}
use Rattle.coap_many.specs.Entries.{Entry, client_of, server_trace}
use Rattle.coap_many.specs.Points.{Effect}
use Rattle.coap_many.specs.Reads.{NotCalled, NotObserved, Reads, Tells}
use Rattle.coap_many.specs.View.{view_entries}
use Rattle.coap_many.specs.Words.{WasCalled, ReportsAt, AppliesFor, holds_at, last_at, changes_in}
use Rattle.coap_many.proofs.Entries.{client_view}
use Rattle.coap_many.proofs.InOrder.{HoldsV, in_order, no_older}
use Rattle.coap_many.proofs.OneRequest.{one_request, numbers_back, called_still}
use Rattle.coap_many.proofs.Pointed.{has_point}
use Rattle.coap_many.proofs.Pointing as pointing
use Rattle.coap_many.proofs.Pointing.{law_of, reads_there, tells_there, Seen, observed_still}
use Rattle.coap_many.proofs.RealTime.{was_applied}
use Rattle.coap_many.proofs.ServerTrace.{Rows, Stamped, rows_back, stamped_back, rows_of}
use Rattle.coap_many.proofs.Wholes.{Law, wholes}

module _ (config : Config) (all : List Entry)
    (agrees : (k : Client) → IsClient config k → Promises (world_of config k) (view_entries k.at all)) where
  module _ (k : Client) (m : ℕ) where
    -- a request of the call is applied here, and does this
    record Did (r : Request) (past : List Entry) (e : Entry) : Type 0 where
      applies : AppliesFor config k m all past e
      does : Does r.method r r.body (changes_in config past + 1) (holds_at config r.path past)
          (holds_at config r.path (e ∷ past))

    record DidOne (es : List Entry) : Type 0 where
      r : Request
      called : WasCalled k m r es
      there : Sometime (Did r) es

    did_one : (es : List Entry) → Always (Law config k m all) es → Sometime (AppliesFor config k m all) es → DidOne es
    did_one [] law h = absurd h
    did_one (e ∷ past) law (inl a) =
        let w = law.0 a in
        record {
          r = w.request;
          called = called_still k m w.request e past w.called;
          there = inl (record { applies = a; does = w.does });
        }
    did_one (e ∷ past) law (inr h) =
        let o = did_one past law.1 h in
        record { r = o.r; called = called_still k m o.r e past o.called; there = inr o.there }

    -- it is what the call asks
    did : (r : Request) (past : List Entry) → NumbersOnce (client_of k.at past) → Always (Law config k m all) past
        → WasCalled k m r past → Sometime (AppliesFor config k m all) past → Sometime (Did r) past
    did r past once law called h =
        let o = did_one past law h in
        let same : o.r ≡ r = one_request (client_of k.at past) once m o.r r o.called called in
        subst (λ q. Sometime (Did q) past) same o.there

    abbrev Points : List Entry → Type 0
    Points es = (code : ℕ) → Always (λ past e. ReportsAt k (record { number = m; report = Done code }) past e
        → Sometime (Effect config k m (Done code) all) past) es

    -- before the report
    earlier : (r : Request) (T N : List Entry → Type 0) → ((t : List Entry) → N t → T t → ⊥) → (es : List Entry)
        → Points es → NumbersOnce (client_of k.at es) → Always (Law config k m all) es
        → Sometime (λ before b. IsDoneAt k m r before b × N (b ∷ before)) es
        → Sometime (λ before b. Sometime (Did r) before × (T (b ∷ before) → ⊥)) es
    earlier r T N none [] points once law h = h
    earlier r T N none (e ∷ past) points once law (inl h) = inl (
      did r past (numbers_back k e past once) law.1 h.0.called
          (was_applied config all agrees k m h.0.code past ((points h.0.code).0 h.0.here)),
      none (e ∷ past) h.1,
    )
    earlier r T N none (e ∷ past) points once law (inr h) =
        inr (earlier r T N none past (λ code. (points code).1) (numbers_back k e past once) law.1 h)

    -- what is held later is no older
    leaves : (r : Request) (w : ℕ) (mid : List Entry) (f : Entry) (q : List Entry) → Rows config (mid ++ f ∷ q)
        → Stamped config (mid ++ f ∷ q) → Did r q f → (g : Held) → last_at config r.path (mid ++ f ∷ q) ≡ Some g
        → g.version ≡ w → LeavesNoNewer config k m r w all q f
    leaves r w mid f q rows stamps d g there is = record {
      applies = d.applies;
      does = d.does;
      no_older = subst (IsNoOlder (holds_at config r.path (f ∷ q)) (changes_in config (f ∷ q))) is
          (no_older config r.path mid f q rows stamps g there (holds_at config r.path (f ∷ q))
          (sym (held_is config.limits config.szx (server_trace config (f ∷ q)) (rows_of config mid (f ∷ q) rows)
          r.path)));
    }

  numbers : (k : Client) → IsClient config k → NumbersOnce (client_of k.at all)
  numbers k client = subst NumbersOnce (client_view k.at all) (agrees k client).one_number

  points : (k : Client) → IsClient config k → (m : ℕ) → Points k m all
  points k client m code = has_point config k all (agrees k client) m (Done code) tt

  pub reads_what_was_done : Rows config all → Stamped config all → ReadsWhatWasDone config all
  reads_what_was_done rows stamps k l of_k of_l m n r w = go all rows stamps (points k of_k m) (numbers k of_k)
      (wholes config k m all (agrees k of_k)) (law_of config all agrees l of_l n)
    where
      go : (es : List Entry) → Rows config es → Stamped config es → Points k m es → NumbersOnce (client_of k.at es)
          → Always (Law config k m all) es → Always (pointing.Law config all agrees l n) es
          → Always (λ past e. Reads l n r.path w past e
          → Sometime (λ before b. IsDoneAt k m r before b × NotCalled l n (b ∷ before)) past
          → Sometime (LeavesNoNewer config k m r w all) past) es
      go [] rows stamps points once law b = tt
      go (e ∷ past) rows stamps points once law b = (
        (λ x before.
            in_order config r.path (λ p. WasCalled l n x.request p) (λ y t h. called_still l n x.request y t h) w
            (Did k m r) (LeavesNoNewer config k m r w all) (leaves k m r w) past
            (rows_back config e past rows) (stamped_back config e past stamps)
            (reads_there config all agrees l n r.path w past e (stamped_back config e past stamps) b.0 x)
            (earlier k m r (λ p. WasCalled l n x.request p) (NotCalled l n) (λ t none h. none x.request h) past
            (λ code. (points code).1) (numbers_back k e past once) law.1 before)),
        go past (rows_back config e past rows) (stamped_back config e past stamps) (λ code. (points code).1)
            (numbers_back k e past once) law.1 b.1,
      )

  pub observes_what_was_done : Rows config all → Stamped config all → ObservesWhatWasDone config all
  observes_what_was_done rows stamps k l of_k of_l m n r w = go all rows stamps (points k of_k m) (numbers k of_k)
      (wholes config k m all (agrees k of_k)) (law_of config all agrees l of_l n)
    where
      go : (es : List Entry) → Rows config es → Stamped config es → Points k m es → NumbersOnce (client_of k.at es)
          → Always (Law config k m all) es → Always (pointing.Law config all agrees l n) es
          → Always (λ past e. Tells l n r.path w past e
          → Sometime (λ before b. IsDoneAt k m r before b × NotObserved l n (b ∷ before)) past
          → Sometime (LeavesNoNewer config k m r w all) past) es
      go [] rows stamps points once law b = tt
      go (e ∷ past) rows stamps points once law b = (
        (λ x before.
            in_order config r.path (Seen config all agrees l n r.path)
            (λ y t h. observed_still config all agrees l n r.path y t h) w
            (Did k m r) (LeavesNoNewer config k m r w all) (leaves k m r w) past
            (rows_back config e past rows) (stamped_back config e past stamps)
            (tells_there config all agrees l n r.path w past e (stamped_back config e past stamps) b.0 x)
            (earlier k m r (Seen config all agrees l n r.path) (NotObserved l n) (λ t none h. none r.path h) past
            (λ code. (points code).1) (numbers_back k e past once) law.1 before)),
        go past (rows_back config e past rows) (stamped_back config e past stamps) (λ code. (points code).1)
            (numbers_back k e past once) law.1 b.1,
      )
