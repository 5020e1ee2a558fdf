-- What becomes of a path that is observed anew, from the calls of its clients to the status of the program.
use Rattle.std.proofs.Common.{◌≡◌, ◌+◌, ◌∙◌, ◌↔◌, ℕ, Bool, List, Option, Some, None, ap, sym, subst, true, false}
use Rattle.std.proofs.Common.{Result, Ok, Err, IfOk}
use Rattle.std.specs.declared.alloc.Global.{Global}
use Rattle.coap_types.specs.declared.endpoint.Endpoint.{Endpoint}
use Rattle.coap_types.specs.declared.endpoint.Moment.{Moment}
use Rattle.coap_client.specs.Led.{State, Step}
use Rattle.coap_client.specs.Object.Shown.{shown_report}
use Rattle.coap_client.specs.Trace.{Report, is_value}
use Rattle.coap_client.specs.declared.client.report.Report as R
use Rattle.coap_arguments.specs.declared.orders.AskOptions.{AskOptions}
use Rattle.coap_waits.specs.Asks.{Turned, TurnsAt, takes_report}
use Rattle.coap_asking.specs.Observes.{IsOver, WritesTaken}
use Rattle.coap_asking.specs.Watches.{Again, Follows, Goes, IsFollowed, IsLeft, IsNoEnd, IsRegisteredNext, LastTurn}
use Rattle.coap_asking.specs.Watches.{LeavesAt, TakesReport, Watches, WritesLeft, anew, further, heard_at, taken}
use Rattle.coap_asking.specs.Watches.{verdict}
use Rattle.coap_waits.specs.declared.calling.Outcome.TheVariants.{GaveUp, Refused, Reported}
use Rattle.coap_asking.specs.declared.leaving.Heard.{Heard}
use Rattle.coap_asking.specs.declared.anew.Left.{Left}
use Rattle.coap_asking.specs.declared.anew.Left.TheVariants.{Ended, Silent}
use Rattle.coap_status.specs.declared.status.Status.{Status}
use Rattle.coap_status.specs.declared.status.Stop.{Stop}

-- what a turn takes behind it and writes, where that is no last report: of what was heard before it and after it
abbrev pub More : AskOptions → ℕ → Moment → (old new : Option (List ℕ)) → Heard → Heard → State → State → Type 0
More options number now old new before after t n =
    (took : Option Report) × TakesReport number took t n × IsNoEnd took
    × (after.values ≡ before.values + taken took) × (after.last.0 ≡ heard_at now.0 took before.last.0)
    × (after.since ≡ before.since) × WritesTaken options before.since.0 before.values now old new took

module _ (options : AskOptions) (again number : ℕ) (first : Heard) (s : State) (start : Option (List ℕ)) where
  -- so far it goes on, this was heard, and a writer has this
  abbrev pub Going : Heard → State → Option (List ℕ) → Type 0
  Going heard m held =
      Goes options again first.since.0 number first.last.0 first.values s start heard.values heard.last.0 m held
      × (heard.since ≡ first.since)

  -- since the first registration
  written_since : (heard : Heard) (m : State) (held new : Option (List ℕ)) (now : Moment) (took : Option Report)
      → Going heard m held → WritesTaken options heard.since.0 heard.values now held new took
      → WritesTaken options first.since.0 heard.values now held new took
  written_since heard m held new now took going =
      subst (λ (since : ℕ). WritesTaken options since heard.values now held new took) (ap (λ i. i.0) going.1)

  module _ (heard after : Heard) (now : Moment) (m t n : State) (held new : Option (List ℕ))
      (going : Going heard m held)
      (turned : Turned (TurnsAt now.0) m t)
    where
      -- a turn more
      pub turn_on : (o : State) → More options number now held new heard after t n
          → LeavesAt options again after.since.0 number after.values after.last.0 now.0 n None o → Going after o new
      turn_on o more on = (
        further heard.values heard.last.0 m held now more.0 n after.values after.last.0 o new going.0
            (t, turned, more.1) more.2 more.3 more.4 (written_since heard m held new now more.0 going more.6)
            (subst (λ (since : ℕ). LeavesAt options again since number after.values after.last.0 now.0 n None o)
            (ap (λ i. i.0) (more.5 ∙ going.1)) on),
        more.5 ∙ going.1,
      )

      -- .. which is the last one
      last_turn : More options number now held new heard after t n
          → LastTurn options again first.since.0 number first.last.0 first.values s start after.values after.last.0 now
          n new
      last_turn more = (
        heard.values,
        heard.last.0,
        m,
        held,
        going.0,
        more.0,
        (t, turned, more.1),
        more.2,
        more.3,
        more.4,
        written_since heard m held new now more.0 going more.6,
      )

      left_so : (ended : Left) (o : State) → More options number now held new heard after t n
          → LeavesAt options again first.since.0 number after.values after.last.0 now.0 n (Some ended) o
          → IsLeft options again first.since.0 number first.last.0 first.values s start ended after.values new
      left_so Silent o more leaves = (after.last.0, now, n, last_turn more, o, leaves)
      left_so (Ended (Refused why)) o more leaves = absurd leaves
      left_so (Ended (Reported r)) o more leaves = absurd leaves
      left_so (Ended (GaveUp seconds)) o more leaves = (after.last.0, now, n, last_turn more, o, leaves)

      pub left_in_turn : (ended : Left) (o : State) → More options number now held new heard after t n
          → LeavesAt options again after.since.0 number after.values after.last.0 now.0 n (Some ended) o
          → IsLeft options again first.since.0 number first.last.0 first.values s start ended after.values new
      left_in_turn ended o more leaves =
          left_so ended o more
          (subst (λ (since : ℕ). LeavesAt options again since number after.values after.last.0 now.0 n (Some ended) o)
          (ap (λ i. i.0) (more.5 ∙ going.1)) leaves)

      -- .. with the last report
      pub left_reported : (report : R.Report Global) → Step t (takes_report number (shown_report report)) n
          → is_value (shown_report report) ≡ false → after ≡ heard
          → WritesTaken options heard.since.0 heard.values now held new (Some (shown_report report))
          → IsLeft options again first.since.0 number first.last.0 first.values s start (Ended (Reported report))
          after.values new
      left_reported report step is same written =
          subst (λ (h : Heard). IsLeft options again first.since.0 number first.last.0 first.values s start
          (Ended (Reported report)) h.values new) (sym same) (
            heard.last.0,
            m,
            held,
            going.0,
            now,
            n,
            (t, turned, step),
            is,
            written_since heard m held new now (Some (shown_report report)) going written,
          )

-- ---- in one turn

pub valued : (r : Report) → is_value r ≡ true → taken (Some r) ≡ 1
valued r is = rw is

heard_now : (now heard : ℕ) (r : Report) → is_value r ≡ true → heard_at now (Some r) heard ≡ now
heard_now now heard r is = rw is

-- a value is taken, written and counted
pub more_value : (options : AskOptions) (number : ℕ) (before after : Heard) (now : Moment) (old new : Option (List ℕ))
    (t n : State) (r : Report) → Step t (takes_report number r) n → is_value r ≡ true
    → after ≡ record before { values = before.values + 1; last = now }
    → WritesTaken options before.since.0 before.values now old new (Some r)
    → More options number now old new before after t n
more_value options number before after now old new t n r step is same written = (
  Some r,
  step,
  is,
  ap (λ (h : Heard). h.values) same ∙ ap (λ (k : ℕ). before.values + k) (sym (valued r is)),
  ap (λ (h : Heard). h.last.0) same ∙ sym (heard_now now.0 before.last.0 r is),
  ap (λ (h : Heard). h.since) same,
  written,
)

-- the observation is not left
pub not_left : (options : AskOptions) (again since number values heard now : ℕ) (s t : State) (r : Option Left)
    → LeavesAt options again since number values heard now s r t → r ≡ None
    → LeavesAt options again since number values heard now s None t
not_left options again since number values heard now s t r h is =
    subst (λ (o : Option Left). LeavesAt options again since number values heard now s o t) is h

-- .. or it is
pub left_by : (options : AskOptions) (again since number values heard now : ℕ) (s t : State) (r : Option Left)
    (ended : Left) → LeavesAt options again since number values heard now s r t → r ≡ Some ended
    → LeavesAt options again since number values heard now s (Some ended) t
left_by options again since number values heard now s t r ended h is =
    subst (λ (o : Option Left). LeavesAt options again since number values heard now s o t) is h

-- ---- one registration after the other

pub followed : (options : AskOptions) (again : ℕ) (since : Moment) (begin : ℕ) (ended : Left) (heard after : Heard)
    (v w : Option Status) (now : ℕ) (is_over : Bool) (held new : Option (List ℕ)) → heard.since ≡ since
    → ((is_over ≡ true) ↔ IsOver options heard.since.0 heard.values now) → v ≡ verdict ended is_over
    → (w ≡ v) × Follows again begin v after.last.0 → after.values ≡ heard.values
    → WritesLeft options.json v held new ended
    → IsFollowed options again since.0 begin ended heard.values w after.values after.last.0 held new
followed options again since begin ended heard after v w now is_over held new same over is follows values written = (
  now,
  is_over,
  subst (λ (m : Moment). (is_over ≡ true) ↔ IsOver options m.0 heard.values now) same over,
  follows.0 ∙ is,
  values,
  subst (λ (o : Option Status). Follows again begin o after.last.0) (sym follows.0) follows.1,
  subst (λ (o : Option Status). WritesLeft options.json o held new ended) (sym follows.0) written,
)

pub told_followed : (Is : Left → ℕ → Option (List ℕ) → Type 0) (options : AskOptions) (again : ℕ) (since : Moment)
    (begin : ℕ) (left : Left) (heard after : Heard) (v : Option Status) (ended : Result (Option Status) Stop) (now : ℕ)
    (is_over : Bool) (held new : Option (List ℕ)) → Is left heard.values held → heard.since ≡ since
    → ((is_over ≡ true) ↔ IsOver options heard.since.0 heard.values now) → v ≡ verdict left is_over
    → IfOk ended (λ w. (w ≡ v) × Follows again begin v after.last.0) → after.values ≡ heard.values
    → WritesLeft options.json v held new left
    → IfOk ended (λ w. (l : Left) × (values : ℕ) × (mid : Option (List ℕ)) × Is l values mid
    × IsFollowed options again since.0 begin l values w after.values after.last.0 mid new)
told_followed Is options again since begin left heard after v (Ok w) now is_over held new registered same over is
    follows values written = (
      left,
      heard.values,
      held,
      registered,
      followed options again since begin left heard after v w now is_over held new same over is follows values written,
    )
told_followed Is options again since begin left heard after v (Err stop) now is_over held new registered same over is
    follows values written = tt

module _ (IsServer : Endpoint → Type 0) (word : ℕ) (path : List (List ℕ)) (options : AskOptions) (again : ℕ) where
  -- the registration after so many, and what follows it
  abbrev pub NextOf : Moment → ℕ → Heard → Option (List ℕ) → Option Status → Heard → Option (List ℕ) → Type 0
  NextOf since n heard old v after new =
      (left : Left) × (values : ℕ) × (held : Option (List ℕ))
      × IsRegisteredNext IsServer word path options again since.0 n heard.last.0 heard.values old left values held
      × IsFollowed options again since.0 heard.last.0 left values v after.values after.last.0 held new

  next_as : (since other : Moment) (n : ℕ) (heard after : Heard) (old new : Option (List ℕ)) (v w : Option Status)
      → other ≡ since → v ≡ w → NextOf other n heard old v after new → NextOf since n heard old w after new
  next_as since other n heard after old new v w same is h =
      subst (λ (o : Option Status). NextOf since n heard old o after new) is
      (subst (λ (m : Moment). NextOf m n heard old v after new) same h)

  module _ (start : Option (List ℕ)) where
    -- so many are left, this was heard, and a writer has this
    abbrev pub AgainAt : Moment → ℕ → Heard → Option (List ℕ) → Type 0
    AgainAt since n heard held =
        Again IsServer word path options again since.0 start n heard.values heard.last.0 held × (heard.since ≡ since)

    pub again_on : (since : Moment) (n : ℕ) (heard after : Heard) (old new : Option (List ℕ)) (v : Option Status)
        → AgainAt since n heard old → NextOf heard.since n heard old v after new → after.since ≡ heard.since → v ≡ None
        → AgainAt since (n + 1) after new
    again_on since n heard after old new v before h same is =
        let k : NextOf since n heard old None after new =
        next_as since heard.since n heard after old new v None before.1 is h in (
          anew n heard.values heard.last.0 old k.0 k.1 k.2 after.values after.last.0 new before.0 k.3 k.4,
          same ∙ before.1,
        )

    pub ends : (since : Moment) (n : ℕ) (heard after : Heard) (old new : Option (List ℕ)) (v : Option Status)
        (s : Status) → AgainAt since n heard old → NextOf heard.since n heard old v after new → v ≡ Some s
        → Watches start new IsServer word path options again s
    ends since n heard after old new v s before h is =
        let k : NextOf since n heard old (Some s) after new =
        next_as since heard.since n heard after old new v (Some s) before.1 is h in (
          since.0,
          (
            n,
            heard.values,
            heard.last.0,
            old,
            before.0,
            k.0,
            k.1,
            k.2,
            k.3,
            after.values,
            after.last.0,
            k.4,
          ),
        )
