-- What becomes of a path that is read again and again, from the calls of its client to the status of the program.
use Rattle.std.proofs.Common.{◌≡◌, ◌++◌, ◌∷◌, [], ℕ, ◌+◌, List, Option, Some, None, Result, Ok, Err, IfOk, length}
use Rattle.std.proofs.Common.{◌∙◌, ap, sym, refl, subst, arith}
use Rattle.std.specs.List.{Contains}
use Rattle.std.proofs.lemmas.List.{append_assoc, append-nil}
use Rattle.std.proofs.lemmas.List.Elements.{Contains-append_left, Contains-append_right}
use Rattle.coap_types.specs.declared.endpoint.Endpoint.{Endpoint}
use Rattle.coap_layer.specs.declared.setup.Setup.{Setup}
use Rattle.coap_block.specs.Sizes.{Sizes}
use Rattle.coap_client.specs.Led.{Led, State, Step}
use Rattle.coap_client.specs.Object.Shown.{number_of, shown_report}
use Rattle.coap_client.specs.Trace.{Call, Calls, Report, Request}
use Rattle.coap_client.specs.declared.client.report.CallId.{CallId}
use Rattle.coap_client.specs.declared.client.report.Report as R
use Rattle.coap_client.specs.declared.refusals.CallRefusal.{CallRefusal}
use Rattle.std.specs.declared.alloc.Global.{Global}
use Rattle.coap_arguments.specs.declared.orders.AskOptions.{AskOptions}
use Rattle.coap_waits.specs.Asks.{AsksNothing, Chain, Each, Turned, TurnsAt, TurnsInTime, got_status, takes_report}
use Rattle.coap_asking.specs.Polls.{Closes, Follows, Goes, HasCome, HasRead, IsLeft, IsNext, IsPending}
use Rattle.coap_asking.specs.Polls.{AreWritten, IsThrough, Polls, Reading, Reads, WritesAs, calls_of, pending_after}
use Rattle.coap_asking.specs.Polls.{read_status}
use Rattle.coap_wires.specs.Waiting.{HasPassed}
use Rattle.coap_waits.specs.declared.calling.Outcome.{Outcome}
use Rattle.coap_waits.specs.declared.calling.Outcome.TheVariants.{GaveUp, Refused, Reported}
use Rattle.coap_status.specs.declared.status.Status.{Status}
use Rattle.coap_status.specs.declared.status.Stop.{Stop}
use Rattle.coap_waits.proofs.Facts.{chain_join, each_as, each_join, led_on, nothing_at, nothing_in_time}

-- ---- calls that are added

contains_first : (c : Call) (earlier : List Call) → Contains (c ∷ earlier) c
contains_first c earlier = (0, omega arith, refl)

-- .. behind others
on_top : (more later behind calls : List Call) → later ≡ behind ++ calls → more ++ later ≡ (more ++ behind) ++ calls
on_top more later behind calls is = ap (λ t. more ++ t) is ∙ sym (append_assoc more behind calls)

come_on : (give_up : Option ℕ) (begin : ℕ) (answer : Result ℕ CallRefusal) (more earlier : List Call) (came : Outcome)
    → HasCome give_up begin answer earlier came → HasCome give_up begin answer (more ++ earlier) came
come_on give_up begin answer more earlier (Refused why) h = h
come_on give_up begin answer more earlier (Reported report) h = (
  h.0,
  h.1,
  more ++ h.2,
  h.3,
  on_top more earlier h.2 (takes_report h.0 (shown_report report) ∷ h.3) h.4,
  h.5,
  h.6,
)
come_on give_up begin answer more earlier (GaveUp seconds) h =
    (h.0, h.1, more ++ h.2, h.3, on_top more earlier h.2 h.3 h.4, h.5, h.6, h.7, h.8)

through_on : (answer : Result ℕ CallRefusal) (more earlier : List Call) → IsThrough answer earlier
    → IsThrough answer (more ++ earlier)
through_on (Err why) more earlier h = h
through_on (Ok number) more earlier h = (h.0, Contains-append_right more earlier (takes_report number h.0) h.1)

through_now : (answer : Result ℕ CallRefusal) (id : CallId) (more earlier : List Call) → answer ≡ Ok id.0
    → Closes (Some id) more → IsThrough answer (more ++ earlier)
through_now answer id more earlier is h =
    subst (λ a. IsThrough a (more ++ earlier)) (sym is)
    (h.0, Contains-append_left more earlier (takes_report id.0 h.0) h.1)

closes_on : (pending : Option CallId) (more earlier : List Call) → Closes pending earlier
    → Closes pending (more ++ earlier)
closes_on None more earlier h = h
closes_on (Some id) more earlier h = (h.0, Contains-append_right more earlier (takes_report id.0 h.0) h.1)

closes_now : (pending : Option CallId) (more earlier : List Call) → Closes pending more
    → Closes pending (more ++ earlier)
closes_now None more earlier h = h
closes_now (Some id) more earlier h = (h.0, Contains-append_left more earlier (takes_report id.0 h.0) h.1)

-- ---- one reading

-- turns in time, and then one more, ask the client for nothing
nothing_asked : (give_up : Option ℕ) (begin at : ℕ) (old waited turned : State)
    (h : Turned (TurnsInTime give_up begin) old waited) (k : Turned (TurnsAt at) waited turned)
    → Each AsksNothing (k.0 ++ h.0)
nothing_asked give_up begin at old waited turned h k =
    each_join AsksNothing k.0 h.0 (each_as (TurnsAt at) AsksNothing (nothing_at at) k.0 k.1)
    (each_as (TurnsInTime give_up begin) AsksNothing (nothing_in_time give_up begin) h.0 h.1)

module _ (give_up : Option ℕ) (begin : ℕ) (id : CallId) where
  -- a report of the call comes
  pub come_report : (report : R.Report Global) (old waited turned new : State) (at : ℕ)
      → Turned (TurnsInTime give_up begin) old waited → Turned (TurnsAt at) waited turned
      → Step turned (takes_report id.0 (shown_report report)) new
      → Goes (λ calls. HasCome give_up begin (Ok id.0) calls (Reported report)) old new
  come_report report old waited turned new at h k step = (
    takes_report id.0 (shown_report report) ∷ (k.0 ++ h.0),
    (tt, nothing_asked give_up begin at old waited turned h k),
    (id.0, refl, [], k.0 ++ h.0, refl, at, (k.0, h.0, refl, k.1, h.1)),
    (turned, chain_join old waited turned k.0 h.0 h.2 k.2, step),
  )

  -- .. or it is given up
  pub come_given_up : (seconds : ℕ) (old waited turned : State) (at : ℕ) → give_up ≡ Some seconds
      → HasPassed seconds begin at → Turned (TurnsInTime give_up begin) old waited → Turned (TurnsAt at) waited turned
      → Goes (λ calls. HasCome give_up begin (Ok id.0) calls (GaveUp seconds)) old turned
  come_given_up seconds old waited turned at is passed h k = (
    k.0 ++ h.0,
    nothing_asked give_up begin at old waited turned h k,
    (id.0, refl, [], k.0 ++ h.0, refl, is, at, passed, (k.0, h.0, refl, k.1, h.1)),
    chain_join old waited turned k.0 h.0 h.2 k.2,
  )

  is_pending : (answer : Result ℕ CallRefusal) (later : List Call) (came : Outcome) → answer ≡ Ok id.0
      → HasCome give_up begin answer later came → IsPending (pending_after came id) answer later
  is_pending answer later (Refused why) is h = absurd (cc (sym is, h))
  is_pending answer later (Reported report) is h =
      let taken : Call = takes_report h.0 (shown_report report) in
      let there = subst (λ calls. Contains calls taken) (sym h.4)
      (Contains-append_right h.2 (taken ∷ h.3) taken (contains_first taken h.3)) in
      subst (λ a. IsThrough a later) (sym h.1) (shown_report report, there)
  is_pending answer later (GaveUp seconds) is h = is

module _ (give_up : Option ℕ) (request : Request) (now : ℕ) (answer : Result CallId CallRefusal) (old : State) where
  -- the call is taken
  pub reads_taken : (id : CallId) (came : Outcome) (mid new : State) → answer ≡ Ok id
      → Step old (Calls now request (number_of answer)) mid
      → Goes (λ calls. HasCome give_up now (Ok id.0) calls came) mid new
      → Reads give_up request now came (pending_after came id) old new
  reads_taken id came mid new is step goes =
      let taken = subst (λ (a : Result CallId CallRefusal). Step old (Calls now request (number_of a)) mid) is step in (
        record { now = now; answer = Ok id.0; later = goes.0; outcome = came },
        refl,
        refl,
        (goes.1, goes.2),
        is_pending give_up now id (Ok id.0) goes.0 came refl goes.2,
        chain_join old mid new goes.0 (Calls now request (Ok id.0) ∷ []) (old, refl, taken) goes.3,
      )

  -- .. or refused
  pub reads_refused : (why : CallRefusal) (new : State) → answer ≡ Err why
      → Step old (Calls now request (number_of answer)) new → Reads give_up request now (Refused why) None old new
  reads_refused why new is step = (
    record { now = now; answer = Err why; later = []; outcome = Refused why },
    refl,
    refl,
    (tt, refl),
    tt,
    (old, refl, subst (λ (a : Result CallId CallRefusal). Step old (Calls now request (number_of a)) new) is step),
  )

-- the same, by what the client answered, and of the request that was to be made
pub reads_ended : (give_up : Option ℕ) (request asked : Request) (now : ℕ) (answer : Result CallId CallRefusal)
    (id : CallId) (old mid new : State) (ended : Result (Outcome × Option CallId) Stop) → request ≡ asked
    → answer ≡ Ok id → Step old (Calls now request (number_of answer)) mid
    → IfOk ended (λ made. Goes (λ calls. HasCome give_up now (Ok id.0) calls made.0) mid new
    × (made.1 ≡ pending_after made.0 id))
    → IfOk ended (λ made. Reads give_up asked now made.0 made.1 old new)
reads_ended give_up request asked now answer id old mid new (Ok made) same is step h =
    subst (λ (r : Request). Reads give_up r now made.0 made.1 old new) same
    (subst (λ (p : Option CallId). Reads give_up request now made.0 p old new) (sym h.1)
    (reads_taken give_up request now answer old id made.0 mid new is step h.0))
reads_ended give_up request asked now answer id old mid new (Err stop) same is step h = tt

pub refused_ended : (give_up : Option ℕ) (request asked : Request) (now : ℕ) (answer : Result CallId CallRefusal)
    (why : CallRefusal) (old new : State) → request ≡ asked → answer ≡ Err why
    → Step old (Calls now request (number_of answer)) new → Reads give_up asked now (Refused why) None old new
refused_ended give_up request asked now answer why old new same is step =
    subst (λ (r : Request). Reads give_up r now (Refused why) None old new) same
    (reads_refused give_up request now answer old why new is step)

-- ---- between two readings

pub left_here : (pending : Option CallId) (s : State) → Goes (IsLeft pending pending) s s
left_here None s = ([], tt, tt, refl)
left_here (Some id) s = ([], tt, refl, refl)

pub left_none : (pending : Option CallId) (s : State) → pending ≡ None → Goes (IsLeft pending None) s s
left_none pending s is = ([], tt, subst (λ (o : Option CallId). Closes o []) (sym is) tt, refl)

-- where a call is pending, its report is taken
pub left_closed : (pending : Option CallId) (id : CallId) (report : Report) (old new : State) → pending ≡ Some id
    → Step old (takes_report id.0 report) new → Goes (IsLeft pending None) old new
left_closed pending id report old new is step = (
  takes_report id.0 report ∷ [],
  (tt, tt),
  subst (λ (o : Option CallId). Closes o (takes_report id.0 report ∷ [])) (sym is)
      (report, contains_first (takes_report id.0 report) []),
  (old, refl, step),
)

pub left_waiting : (pending : Option CallId) (id : CallId) (old new : State) → pending ≡ Some id
    → Turned AsksNothing old new → Goes (IsLeft pending (Some id)) old new
left_waiting pending id old new is turned = (turned.0, turned.1, is, turned.2)

left_join : (pending left last : Option CallId) (first turns after : List Call) → IsLeft pending left first
    → IsLeft left last after → IsLeft pending last (after ++ turns ++ first)
left_join pending None None first turns after h k = closes_on pending (after ++ turns) first h
left_join pending None (Some id) first turns after h k = absurd (cc k)
left_join pending (Some id) None first turns after h k =
    subst (λ o. Closes o (after ++ turns ++ first)) (sym h)
    (closes_now (Some id) (after ++ turns) first (closes_now (Some id) after turns k))
left_join pending (Some id) (Some other) first turns after h k = h ∙ k

pub left_on : (pending left last : Option CallId) (old mid turned new : State) → Goes (IsLeft pending left) old mid
    → Turned AsksNothing mid turned → Goes (IsLeft left last) turned new → Goes (IsLeft pending last) old new
left_on pending left last old mid turned new h t k = (
  (k.0 ++ t.0) ++ h.0,
  each_join AsksNothing (k.0 ++ t.0) h.0 (each_join AsksNothing k.0 t.0 k.1 t.1) h.1,
  left_join pending left last h.0 t.0 k.0 h.2 k.2,
  chain_join old mid new (k.0 ++ t.0) h.0 h.3 (chain_join mid turned new k.0 t.0 t.2 k.3),
)

-- where none is pending, it is closed
pub left_through : (pending left : Option CallId) (old mid new : State) → Goes (IsLeft pending left) old mid
    → left ≡ None → new ≡ mid → Goes (Closes pending) old new
left_through pending None old mid new h none is = subst (λ (s : State). Goes (Closes pending) old s) (sym is) h
left_through pending (Some id) old mid new h none is = cc none

-- ---- one reading after the other

-- the client is through with a reading
closed : (pending : Option CallId) (answer : Result ℕ CallRefusal) (more earlier : List Call)
    → IsPending pending answer earlier → Closes pending more → IsThrough answer (more ++ earlier)
closed None answer more earlier h k = through_on answer more earlier h
closed (Some id) answer more earlier h k = through_now answer id more earlier h k

pub none_read : (options : AskOptions) (every : ℕ) (request : Request) (now : ℕ) (s : State) (out : Option (List ℕ))
    → IsNext options every request 0 now s s out out
none_read options every request now s out = ([], refl, tt, (tt, refl), refl)

module _ (options : AskOptions) (every : ℕ) (request : Request) (count now : ℕ) (came : Outcome)
    (pending : Option CallId) (old mid new : State) (out between after : Option (List ℕ))
    (before : IsNext options every request count now old mid out between)
    (reads : Reads options.give_up request now came pending mid new)
    (written : WritesAs options.json options.hex between after came)
  where
    -- all calls, with others behind them
    all_calls : (calls : List Call) (last : State) → Chain new calls last
        → Chain old
        ((calls ++ reads.0.later) ++ Calls reads.0.now request reads.0.answer ∷ calls_of request before.0) last
    all_calls calls last chain =
        let call : List Call = Calls reads.0.now request reads.0.answer ∷ [] in
        subst (λ t. Chain old t last)
        (ap (λ t. calls ++ t) (append_assoc reads.0.later call (calls_of request before.0))
        ∙ sym (append_assoc calls reads.0.later (call ++ calls_of request before.0)))
        (chain_join old new last calls ((reads.0.later ++ call) ++ calls_of request before.0)
        (chain_join old mid new (reads.0.later ++ call) (calls_of request before.0) before.3.1 reads.5) chain)

    follows : Follows every before.0 reads.0.now
    follows = subst (Follows every before.0) (sym reads.1) before.2

    -- what is written of it
    written_on : WritesAs options.json options.hex between after reads.0.outcome
    written_on = subst (WritesAs options.json options.hex between after) (sym reads.2) written

    -- one more
    pub read_on : (readings : List Reading) × (length readings ≡ count + 1) × (got_status came ≡ read_status readings)
        × HasRead options.give_up every request readings old new × AreWritten options readings out after
    read_on = (
      reads.0 ∷ before.0,
      omega (arith, before.1),
      ap got_status (sym reads.2),
      ((reads.3, follows, before.3.0), all_calls [] new refl),
      (between, before.4, written_on),
    )

    -- .. and it was the last
    pub ends_by : (times : Option ℕ) (status : Status) → times ≡ Some (count + 1) → status ≡ got_status came
        → (readings : List Reading) × (times ≡ Some (length readings)) × (status ≡ read_status readings)
        × (s : State) × HasRead options.give_up every request readings old s × AreWritten options readings out after
    ends_by times status is done =
        (read_on.0, is ∙ ap Some (sym read_on.1), done ∙ read_on.2, new, read_on.3, read_on.4)

    -- .. and then the next may begin
    pub next_on : (next : ℕ) (last : State) → HasPassed every now next → Goes (Closes pending) new last
        → IsNext options every request (count + 1) next old last out after
    next_on next last passed goes =
        let r = reads.0 in (
          record { now = r.now; answer = r.answer; later = goes.0 ++ r.later; outcome = r.outcome } ∷ before.0,
          omega (arith, before.1),
          (
            closed pending r.answer goes.0 r.later reads.4 goes.2,
            subst (λ at. HasPassed every at next) (sym reads.1) passed,
          ),
          (
            (
              (
                each_join AsksNothing goes.0 r.later goes.1 reads.3.0,
                come_on options.give_up r.now r.answer goes.0 r.later r.outcome reads.3.1,
              ),
              follows,
              before.3.0,
            ),
            all_calls goes.0 last goes.3,
          ),
          (between, before.4, written_on),
        )

-- ---- from the client's beginning

pub polled_by : (old new : Option (List ℕ)) (server : Endpoint) (sizes : Sizes) (setup : Setup) (request : Request)
    (every : ℕ) (options : AskOptions) (client : State) (ended : Result Status Stop) → Led server sizes setup [] client
    → IfOk ended (λ status. (readings : List Reading) × (options.times ≡ Some (length readings))
    × (status ≡ read_status readings) × (s : State) × HasRead options.give_up every request readings client s
    × AreWritten options readings old new)
    → IfOk ended (Polls old new server sizes setup request every options)
polled_by old new server sizes setup request every options client (Ok status) led h =
    let read = h.4 in (
      h.0,
      read.0,
      h.1,
      h.2,
      h.3,
      subst (λ t. Led server sizes setup t h.3) (append-nil (calls_of request h.0))
          (led_on server sizes setup [] (calls_of request h.0) client h.3 led read.1),
      h.5,
    )
polled_by old new server sizes setup request every options client (Err stop) led h = tt
