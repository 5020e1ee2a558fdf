-- With which status words are answered that ask for an order, or have something wrong.
use Rattle.std.proofs.Common.{◌≡◌, ◌≢◌, ◌∙◌, inl, inr, ap, sym, subst, ℕ, ◌≤◌, List, [], ◌∷◌, Option, None, Some}
use Rattle.std.proofs.Common.{refl, ◌⊎◌, ◌++◌, arith, Result, Ok, Err, IfOk, Bool, true, false, if◌then◌else◌}
use Rattle.std.specs.Borrow.{Bor}
use Rattle.std.specs.Option.{IsSome}
use Rattle.clap.specs.Words.{Text}
use Rattle.std.specs.declared.alloc.Global.{Global}
use Rattle.coap_types.specs.declared.request.Method.{Method}
use Rattle.coap_types.specs.declared.request.Method.TheVariants as method
use Rattle.coap_client.specs.declared.client.report.Report as R
use Rattle.coap_client.specs.declared.client.report.Report.TheVariants as report
use Rattle.coap_waits.specs.Asks.{changed_report, changed_status, got_report, got_status, status_after}
use Rattle.coap_asking.specs.Discovers.{IsShown, Shows}
use Rattle.coap_wires.specs.Hosts.{IsServer}
use Rattle.coap_asking.specs.Observes.{observed_report, observed_status}
use Rattle.coap_commands.specs.Pairs.{IsPaired}
use Rattle.coap_asking.specs.Polls.{Reading, read_status}
use Rattle.coap_server.specs.Led.{State}
use Rattle.coap_wires.specs.Words.{IsOrigin}
use Rattle.coap_serving.specs.Kept.{IsGoneOn, IsServedAsSaid, IsServedOn}
use Rattle.coap_serving.specs.Served.{IsServed, IsServedFrom}
use Rattle.coap_serving.specs.ScriptSettings.{AnyText, AreOfScriptIn, IsBadInScript}
use Rattle.coap_scripts.specs.Settings.{Setting as SettingSpec}
use Rattle.coap_asking.specs.Tasks.{Does, IsAsked, IsDiscovered}
use Rattle.coap_asking.specs.Watches.{reported, verdict}
use Rattle.coap_asking.specs.declared.asking.Task.{Task}
use Rattle.coap_asking.specs.declared.asking.Task.TheVariants as tasks
use Rattle.coap_asking.specs.declared.anew.Left.{Left}
use Rattle.coap_asking.specs.declared.anew.Left.TheVariants.{Ended, Silent}
use Rattle.coap_arguments.specs.declared.hosts.Server.{Server as ServerSpec}
use Rattle.coap_types.specs.declared.endpoint.Endpoint.{Endpoint}
use Rattle.coap_client.specs.Object.CallShown.{shown_request}
use Rattle.coap_waits.specs.declared.calling.Outcome.{Outcome}
use Rattle.coap_waits.specs.declared.calling.Outcome.TheVariants as outcome
use Rattle.coap_commands.specs.Statuses.{CarriesOut, Ends, IsAnswered, IsCarriedTo, IsTold, ReadsText}
use Rattle.coap_answers.specs.Statuses.{IsCarriedOut}
use Rattle.coap_commands.specs.Statuses.{status_of}
use Rattle.coap_status.specs.StatusNumbers.{status_number}
use Rattle.coap_arguments.specs.Words.{AsksFor, EntersWrong, IsWrong}
use Rattle.coap_status.specs.declared.status.Status.{Status}
use Rattle.coap_status.specs.declared.status.Status.TheVariants as status
use Rattle.coap_status.specs.declared.status.Stop.{Stop}
use Rattle.coap_status.specs.declared.status.Stop.TheVariants as stop
use Rattle.coap_arguments.specs.declared.orders.Journal.{Journal}
use Rattle.coap_arguments.specs.declared.orders.Order.{Order}
use Rattle.coap_arguments.specs.declared.orders.Order.TheVariants.{Version, Show, Dump, Answer, Pair, Serve, Ask}
use Rattle.coap_arguments.specs.declared.orders.Order.TheVariants.{Discover, DumpCapture, Ping, Sim}
use Rattle.coap_arguments.specs.declared.orders.AskOptions.{AskOptions}
use Rattle.coap_arguments.specs.declared.orders.ServeOptions.{ServeOptions}
use Rattle.coap_arguments.specs.declared.orders.WordChoice.{WordChoice}
use Rattle.coap_arguments.specs.declared.orders.What.{What}
use Rattle.coap_arguments.specs.declared.orders.Wrong.{Wrong}
use Rattle.coap_arguments.specs.declared.orders.Wrong.TheVariants.{Words, Path, Number, Word, Address, Size, Tags}
use Rattle.coap_arguments.specs.declared.orders.Wrong.TheVariants.{Setting, Body, Store, Plains, Ends as NoEnds}
use Rattle.coap_arguments.specs.declared.orders.Wrong.TheVariants.{Together, NoPath, Uri, Beside, Hex, Memory}
use Rattle.coap_layer.specs.Machine.State.{usual}
use Rattle.coap_record.specs.declared.addresses.TheConstants.{CLIENT_END as client_end}
use Rattle.coap_types.specs.declared.body_limit.TheConstants.{DEFAULT_BODY_LIMIT as default_limit}
use Rattle.coap_answers.specs.Answering.{PrintsAnswer}
use Rattle.coap_answers.specs.Shown as shown
use Rattle.coap_answers.specs.Ends.{server_limits}
use Rattle.coap_asking.specs.PingLines.{EndWith, IsPinged}
use Rattle.coap_arguments.specs.declared.orders.PingOptions.{PingOptions}
use Rattle.coap_commands.proofs.PairCalls.{paired_carried}
use Rattle.coap_answers.proofs.SentTexts.{carried}
use Rattle.coap_arguments.proofs.Facts.OneAnswer.{hex_or_wrong, order_or_wrong}

-- ---- the statuses

abbrev number : Result Status Stop → ℕ
number ended = status_number (status_of ended)

pub at_most : (s : Status) → status_number s ≤ 4
at_most status.Done = omega arith
at_most status.Refused = omega arith
at_most status.Words = omega arith
at_most status.Failed = omega arith
at_most status.Memory = omega arith

with_2 : (wrong : Wrong) (n : ℕ) → n ≡ 2 → IsAnswered wrong n
with_2 (Words error) n is = inl is
with_2 (Path why) n is = inl is
with_2 (Number why) n is = inl is
with_2 Word n is = inl is
with_2 (Address why) n is = inl is
with_2 Size n is = inl is
with_2 (Tags why) n is = inl is
with_2 (Setting why) n is = inl is
with_2 Body n is = inl is
with_2 Store n is = inl is
with_2 Plains n is = inl is
with_2 (NoEnds why) n is = inl is
with_2 (Together why) n is = inl is
with_2 NoPath n is = inl is
with_2 (Uri why) n is = inl is
with_2 (Beside why) n is = inl is
with_2 Hex n is = inl is
with_2 Memory n is = tt

with_4 : (wrong : Wrong) (n : ℕ) → n ≡ 4 → IsAnswered wrong n
with_4 (Words error) n is = inr is
with_4 (Path why) n is = inr is
with_4 (Number why) n is = inr is
with_4 Word n is = inr is
with_4 (Address why) n is = inr is
with_4 Size n is = inr is
with_4 (Tags why) n is = inr is
with_4 (Setting why) n is = inr is
with_4 Body n is = inr is
with_4 Store n is = inr is
with_4 Plains n is = inr is
with_4 (NoEnds why) n is = inr is
with_4 (Together why) n is = inr is
with_4 NoPath n is = inr is
with_4 (Uri why) n is = inr is
with_4 (Beside why) n is = inr is
with_4 Hex n is = inr (inr is)
with_4 Memory n is = tt

-- bad hex that can't be printed, and nothing else is wrong
with_3 : (words : List Text) (wrong : Wrong) (n : ℕ) → EntersWrong words Hex → IsWrong words wrong → n ≡ 3
    → IsAnswered wrong n
with_3 words wrong n bad is three = elim (hex_or_wrong words wrong bad is) [
  | inl hex ↦ subst (λ (w : Wrong). IsAnswered w n) (sym hex) (inr (inl three))
  | inr memory ↦ subst (λ (w : Wrong). IsAnswered w n) (sym memory) tt
]

-- an order is asked for, and nothing is wrong
order_answered : (words : List Text) (order : Order) (wrong : Wrong) (n : ℕ) → AsksFor words order → IsWrong words wrong
    → IsAnswered wrong n
order_answered words order wrong n asks is =
    subst (λ (w : Wrong). IsAnswered w n) (sym (order_or_wrong words order wrong asks is)) tt

wrong_answered : (words : List Text) (ended : Result Status Stop) (own wrong : Wrong) → IsWrong words own
    → IsTold own ended → IsWrong words wrong → IsAnswered wrong (number ended)
wrong_answered words ended (Words error) wrong own told is = with_2 wrong _ (ap number told)
wrong_answered words ended (Path why) wrong own told is = with_2 wrong _ (ap number told)
wrong_answered words ended (Number why) wrong own told is = with_2 wrong _ (ap number told)
wrong_answered words ended Word wrong own told is = with_2 wrong _ (ap number told)
wrong_answered words ended (Address why) wrong own told is = with_2 wrong _ (ap number told)
wrong_answered words ended Size wrong own told is = with_2 wrong _ (ap number told)
wrong_answered words ended (Tags why) wrong own told is = with_2 wrong _ (ap number told)
wrong_answered words ended (Setting why) wrong own told is = with_2 wrong _ (ap number told)
wrong_answered words ended Body wrong own told is = with_2 wrong _ (ap number told)
wrong_answered words ended Store wrong own told is = with_2 wrong _ (ap number told)
wrong_answered words ended Plains wrong own told is = with_2 wrong _ (ap number told)
wrong_answered words ended (NoEnds why) wrong own told is = with_2 wrong _ (ap number told)
wrong_answered words ended (Together why) wrong own told is = with_2 wrong _ (ap number told)
wrong_answered words ended NoPath wrong own told is = with_2 wrong _ (ap number told)
wrong_answered words ended (Uri why) wrong own told is = with_2 wrong _ (ap number told)
wrong_answered words ended (Beside why) wrong own told is = with_2 wrong _ (ap number told)
wrong_answered words ended Hex wrong own (inl told) is = with_2 wrong _ (ap number told)
wrong_answered words ended Hex wrong own (inr told) is = with_3 words wrong _ own is (ap number told)
wrong_answered words ended Memory wrong own told is = with_4 wrong _ (ap number told)

-- what is wrong is answered so
pub answered : (old new : Option (List ℕ)) (words : List Text) (ended : Result Status Stop) → Ends old new words ended
    → (wrong : Wrong)
    → IsWrong words wrong → IsAnswered wrong (number ended)
answered old new words ended (inl h) wrong is = order_answered words h.0 wrong _ h.1 is
answered old new words ended (inr h) wrong is = wrong_answered words ended h.0 wrong h.1 h.2 is

carried_out : (ended : Result Status Stop) → IfOk ended IsCarriedOut → number ended ≡ 2 → ⊥
carried_out (Ok s) (inl is) h = absurd (let n : 0 ≡ 2 = sym (ap status_number is) ∙ h in omega (arith, n))
carried_out (Ok s) (inr is) h = absurd (let n : 1 ≡ 2 = sym (ap status_number is) ∙ h in omega (arith, n))
carried_out (Err stop.Failed) c h = absurd (let n : 3 ≡ 2 = h in omega (arith, n))
carried_out (Err stop.Memory) c h = absurd (let n : 4 ≡ 2 = h in omega (arith, n))

of_words : (words : List Text) (ended : Result Status Stop) (wrong : Wrong) → IsWrong words wrong → IsTold wrong ended
    → number ended ≡ 2 → (wrong : Wrong) × IsWrong words wrong × (wrong ≢ Memory)
of_words words ended (Words error) is told h = (Words error, is, λ e. cc e)
of_words words ended (Path why) is told h = (Path why, is, λ e. cc e)
of_words words ended (Number why) is told h = (Number why, is, λ e. cc e)
of_words words ended Word is told h = (Word, is, λ e. cc e)
of_words words ended (Address why) is told h = (Address why, is, λ e. cc e)
of_words words ended Size is told h = (Size, is, λ e. cc e)
of_words words ended (Tags why) is told h = (Tags why, is, λ e. cc e)
of_words words ended (Setting why) is told h = (Setting why, is, λ e. cc e)
of_words words ended Body is told h = (Body, is, λ e. cc e)
of_words words ended Store is told h = (Store, is, λ e. cc e)
of_words words ended Plains is told h = (Plains, is, λ e. cc e)
of_words words ended (NoEnds why) is told h = (NoEnds why, is, λ e. cc e)
of_words words ended (Together why) is told h = (Together why, is, λ e. cc e)
of_words words ended NoPath is told h = (NoPath, is, λ e. cc e)
of_words words ended (Uri why) is told h = (Uri why, is, λ e. cc e)
of_words words ended (Beside why) is told h = (Beside why, is, λ e. cc e)
of_words words ended Hex is told h = (Hex, is, λ e. cc e)
of_words words ended Memory is told h = absurd (let n : 4 ≡ 2 = sym (ap number told) ∙ h in omega (arith, n))

got_carried : (r : R.Report Global) → IsCarriedOut (got_report r)
got_carried (report.Body fetched) = inl refl
got_carried other = inr refl

changed_carried : (r : R.Report Global) → IsCarriedOut (changed_report r)
changed_carried (report.Done code) = inl refl
changed_carried other = inr refl

got_ends : (o : Outcome) → IsCarriedOut (got_status o)
got_ends (outcome.Refused why) = inr refl
got_ends (outcome.Reported r) = got_carried r
got_ends (outcome.GaveUp seconds) = inr refl

changed_ends : (o : Outcome) → IsCarriedOut (changed_status o)
changed_ends (outcome.Refused why) = inr refl
changed_ends (outcome.Reported r) = changed_carried r
changed_ends (outcome.GaveUp seconds) = inr refl

after_carried : (m : Method) (o : Outcome) → IsCarriedOut (status_after m o)
after_carried method.Get o = got_ends o
after_carried method.Post o = changed_ends o
after_carried method.Put o = changed_ends o
after_carried method.Delete o = changed_ends o

observed_carried : (r : R.Report Global) → IsCarriedOut (observed_report r)
observed_carried report.Cancelled = inl refl
observed_carried other = inr refl

observed_ends : (o : Outcome) → IsCarriedOut (observed_status o)
observed_ends (outcome.Refused why) = inr refl
observed_ends (outcome.Reported r) = observed_carried r
observed_ends (outcome.GaveUp seconds) = inr refl

read_ends : (readings : List Reading) → IsCarriedOut (read_status readings)
read_ends [] = inl refl
read_ends (r ∷ earlier) = got_ends r.outcome

shown_carried : (r : R.Report Global) (s : Status) → Shows r s → IsCarriedOut s
shown_carried (report.Body fetched) s h = elim h [
  | inl done ↦ inl done.0
  | inr bad ↦ inr bad.0
]
shown_carried (report.Valid tag) s h = inr h
shown_carried (report.Done code) s h = inr h
shown_carried (report.Value sequence fetched) s h = inr h
shown_carried (report.Ended code) s h = inr h
shown_carried report.Cancelled s h = inr h
shown_carried (report.Failed code) s h = inr h
shown_carried report.Timeout s h = inr h
shown_carried report.Reset s h = inr h
shown_carried report.NoResponse s h = inr h
shown_carried report.Changed s h = inr h
shown_carried report.BadBlock s h = inr h
shown_carried report.NoTag s h = inr h
shown_carried report.TooLarge s h = inr h
shown_carried report.NoIds s h = inr h

links_carried : (o : Outcome) (s : Status) → IsShown o s → IsCarriedOut s
links_carried (outcome.Refused why) s h = inr h
links_carried (outcome.Reported r) s h = shown_carried r s h
links_carried (outcome.GaveUp seconds) s h = inr h

if_carried : (is_over : Bool) (s : Status)
    → ◌≡◌ {A = Option Status} (Some s) (if is_over then Some status.Refused else None) → IsCarriedOut s
if_carried true s h = inr (cc h)
if_carried false s h = absurd (cc h)

reported_carried : (r : R.Report Global) (is_over : Bool) (s : Status) → Some s ≡ reported r is_over → IsCarriedOut s
reported_carried report.Cancelled is_over s h = inl (cc h)
reported_carried (report.Body fetched) is_over s h = if_carried is_over s h
reported_carried (report.Valid tag) is_over s h = if_carried is_over s h
reported_carried (report.Done code) is_over s h = if_carried is_over s h
reported_carried (report.Value sequence fetched) is_over s h = if_carried is_over s h
reported_carried (report.Ended code) is_over s h = if_carried is_over s h
reported_carried (report.Failed code) is_over s h = if_carried is_over s h
reported_carried report.Timeout is_over s h = if_carried is_over s h
reported_carried report.Reset is_over s h = if_carried is_over s h
reported_carried report.NoResponse is_over s h = if_carried is_over s h
reported_carried report.Changed is_over s h = if_carried is_over s h
reported_carried report.BadBlock is_over s h = if_carried is_over s h
reported_carried report.NoTag is_over s h = if_carried is_over s h
reported_carried report.TooLarge is_over s h = if_carried is_over s h
reported_carried report.NoIds is_over s h = if_carried is_over s h

left_carried : (ended : Left) (is_over : Bool) (s : Status) → Some s ≡ verdict ended is_over → IsCarriedOut s
left_carried Silent is_over s h = if_carried is_over s h
left_carried (Ended (outcome.Refused why)) is_over s h = inr (cc h)
left_carried (Ended (outcome.Reported r)) is_over s h = reported_carried r is_over s h
left_carried (Ended (outcome.GaveUp seconds)) is_over s h = inr (cc h)

-- a task that a client is handed
does_carried : (old new : Option (List ℕ)) (Stands : Endpoint → Type 0) (options : AskOptions) (word : ℕ) (task : Task)
    (s : Status)
    → Does old new Stands options word task s → IsCarriedOut s
does_carried old new Stands options word (tasks.Request made) s h =
    let asks = h.2 in
    subst IsCarriedOut (sym asks.2) (after_carried (shown_request made).method asks.0)
does_carried old new Stands options word (tasks.Observation of) s h =
    let observes = h.2 in
    subst IsCarriedOut (sym observes.2) (observed_ends observes.0)
does_carried old new Stands options word (tasks.Watch of again) s h =
    let followed = h.1.11 in
    left_carried h.1.5 followed.1 s followed.3
does_carried old new Stands options word (tasks.Polling of every) s h =
    let polls = h.2 in
    subst IsCarriedOut (sym polls.3) (read_ends polls.0)
does_carried old new Stands options word (tasks.Discovery made) s h =
    let discovers = h.2 in
    links_carried discovers.0 s discovers.2

asked_carried : (old new : Option (List ℕ)) (ended : Result Status Stop) (server : ServerSpec) (path : List (List ℕ))
    (what : What)
    (options : AskOptions) → IfOk ended (IsAsked old new server path what options) → IfOk ended IsCarriedOut
asked_carried old new (Ok s) server path what options h = does_carried old new (IsServer server) options h.0 h.2 s h.4
asked_carried old new (Err stop) server path what options h = tt

discovered_carried : (old new : Option (List ℕ)) (ended : Result Status Stop) (server : ServerSpec)
    (options : AskOptions)
    → IfOk ended (IsDiscovered old new server options) → IfOk ended IsCarriedOut
discovered_carried old new (Ok s) server options h = does_carried old new (IsServer server) options h.0 h.2 s h.4
discovered_carried old new (Err stop) server options h = tt

paired_done : (old new : Option (List ℕ)) (ended : Result Status Stop) (path : List (List ℕ)) (body : List ℕ)
    (word : WordChoice)
    (limit remembered : ℕ)
    → IfOk ended (IsPaired old new path body word limit remembered) → IfOk ended IsCarriedOut
paired_done old new (Ok s) path body word limit remembered h = paired_carried h.4
paired_done old new (Err stop) path body word limit remembered h = tt

-- where one of the settings isn't made, settings are there
some_settings : (settings made rest : List SettingSpec) (s : SettingSpec) → settings ≡ made ++ s ∷ rest
    → settings ≢ []
some_settings settings [] rest s is = λ none. cc (is, none)
some_settings settings (m ∷ made) rest s is = λ none. cc (is, none)

-- a server that is set up, or is not, comes to 2 only where settings are there
served_settings : (old new : Option (List ℕ)) (s : Status) (count : ℕ) (options : ServeOptions)
    (settings : List SettingSpec)
    → IsServedFrom (IsOrigin options.word) old new count options settings s → status_number s ≡ 2 → settings ≢ []
served_settings old new s count options settings (inl is) h =
    absurd (let n : 1 ≡ 2 = sym (ap status_number is.0) ∙ h in omega (arith, n))
served_settings old new s count options settings (inr (inl bad)) h =
    let first = bad.1.3.1.3 in some_settings settings first.0 first.2 first.1 first.3
served_settings old new s count options settings (inr (inr done)) h =
    absurd (let n : 0 ≡ 2 = sym (ap status_number done.0) ∙ h in omega (arith, n))

-- .. and so only where a script is named
scripted : (script : Option (Bor (List ℕ))) (settings : List SettingSpec) → AreOfScriptIn AnyText script settings
    → settings ≢ [] → IsSome script
scripted None settings none some = absurd (some none)
scripted (Some name) settings of some = refl

bad_scripted : (script : Option (Bor (List ℕ))) (number : ℕ) → IsBadInScript AnyText script number → IsSome script
bad_scripted None number bad = absurd bad
bad_scripted (Some name) number bad = refl

served_ends : (old new : Option (List ℕ)) (s : Status) (count : ℕ) (options : ServeOptions)
    (script : Option (Bor (List ℕ)))
    → IsServed old new count options script s → status_number s ≡ 2 → IsSome script
served_ends old new s count options script (inl bad) h = bad_scripted script bad.1 bad.2
served_ends old new s count options script (inr (settings, of, served)) h =
    scripted script settings of (served_settings old new s count options settings served h)

served_done : (old new : Option (List ℕ)) (ended : Result Status Stop) (count : ℕ) (options : ServeOptions)
    (script : Option (Bor (List ℕ)))
    → IfOk ended (IsServed old new count options script) → number ended ≡ 2 → IsSome script
served_done old new (Ok s) count options script c h = served_ends old new s count options script c h
served_done old new (Err stop.Failed) count options script c h = absurd (let n : 3 ≡ 2 = h in omega (arith, n))
served_done old new (Err stop.Memory) count options script c h = absurd (let n : 4 ≡ 2 = h in omega (arith, n))

-- a server that goes on from a journal comes to no status of wrong words
gone_ends : (old new : Option (List ℕ)) (s : Status) (count : ℕ) (options : ServeOptions) (at : ℕ) (start : State)
    → IsGoneOn old new count options at start s → IsCarriedOut s
gone_ends old new s count options at start (inl refused) = inr refused.0
gone_ends old new s count options at start (inr done) = inl done.0

kept_ends : (old new : Option (List ℕ)) (s : Status) (count : ℕ) (options : ServeOptions) (journal : Journal)
    → IsServedOn old new count options journal s → IsCarriedOut s
kept_ends old new s count options journal served = gone_ends old new s count options served.3 served.6 served.9

kept_carried : (old new : Option (List ℕ)) (ended : Result Status Stop) (count : ℕ) (options : ServeOptions)
    (journal : Journal)
    → IfOk ended (IsServedOn old new count options journal) → IfOk ended IsCarriedOut
kept_carried old new (Ok s) count options journal c = kept_ends old new s count options journal c
kept_carried old new (Err stop) count options journal c = tt

as_said : (old new : Option (List ℕ)) (ended : Result Status Stop) (count : ℕ) (options : ServeOptions)
    (script : Option (Bor (List ℕ)))
    (journal : Option Journal) → IfOk ended (IsServedAsSaid old new count options script journal) → number ended ≡ 2
    → IsSome script
as_said old new ended count options script None c h = served_done old new ended count options script c h
as_said old new ended count options script (Some journal) c h =
    absurd (carried_out ended (kept_carried old new ended count options journal c) h)

version_done : (ended : Result Status Stop) → IfOk ended (λ s. s ≡ status.Done) → IfOk ended IsCarriedOut
version_done (Ok s) is = inl is
version_done (Err stop) is = tt

-- a datagram that is shown, and one that is answered
datagram_carried : (datagram : List ℕ) (s : Status) → shown.IsShown datagram s → IsCarriedOut s
datagram_carried datagram status.Done h = inl refl
datagram_carried datagram status.Refused h = inr refl
datagram_carried datagram status.Words h = absurd h
datagram_carried datagram status.Failed h = absurd h
datagram_carried datagram status.Memory h = absurd h

shown_done : (datagram : List ℕ) (ended : Result Status Stop) → IfOk ended (shown.IsShown datagram)
    → IfOk ended IsCarriedOut
shown_done datagram (Ok s) h = datagram_carried datagram s h
shown_done datagram (Err stop) h = tt

answered_done : (old new : Option (List ℕ)) (path : List (List ℕ)) (body datagram : List ℕ)
    (ended : Result Status Stop)
    → IfOk ended (PrintsAnswer (server_limits default_limit) (usual 0) path body old new 0 client_end 0 datagram)
    → IfOk ended IsCarriedOut
answered_done old new path body datagram (Ok s) h =
    carried (server_limits default_limit) (usual 0) path body old new 0 client_end 0 datagram s h
answered_done old new path body datagram (Err stop) h = tt

-- pings
ended_carried : (count : ℕ) (ends : List (Option ℕ)) (s : Status) → EndWith count ends s → IsCarriedOut s
ended_carried count ends s (inl done) = inl done.0
ended_carried count ends s (inr refused) = inr refused.0

pinged_done : (old new : Option (List ℕ)) (ended : Result Status Stop) (options : PingOptions)
    → IfOk ended (IsPinged old new options) → IfOk ended IsCarriedOut
pinged_done old new (Ok s) options h = ended_carried _ h.0 s h.1
pinged_done old new (Err stop) options h = tt

-- an order that is carried out comes to 2 only where it reads a text
text_only : (old new : Option (List ℕ)) (order : Order) (ended : Result Status Stop)
    → IfOk ended (CarriesOut old new order) → number ended ≡ 2
    → ReadsText order
text_only old new Version ended c h = absurd (carried_out ended (version_done ended c) h)
text_only old new (Show datagram) ended c h = absurd (carried_out ended (shown_done datagram.items ended c) h)
text_only old new Dump ended c h = tt
text_only old new (DumpCapture file chart) ended c h = tt
text_only old new (Answer path body datagram) ended c h =
    absurd (carried_out ended (answered_done old new path body.now datagram.items ended c) h)
text_only old new (Pair path body word limit remembered) ended c h =
    absurd (carried_out ended (paired_done old new ended path body.now word limit remembered c) h)
text_only old new (Serve port count options script pcap journal) ended c h =
    as_said old new ended count options script journal c h
text_only old new (Ask server path what options pcap) ended c h =
    absurd (carried_out ended (asked_carried old new ended server path what options c) h)
text_only old new (Discover server options pcap) ended c h =
    absurd (carried_out ended (discovered_carried old new ended server options c) h)
text_only old new (Ping server options pcap) ended c h =
    absurd (carried_out ended (pinged_done old new ended options c) h)
text_only old new (Sim file store plains remembered chart client server pcap) ended c h = tt

-- 2 says that something is wrong in the words, or that they have a text read
pub wrong_words : (old new : Option (List ℕ)) (words : List Text) (ended : Result Status Stop)
    → Ends old new words ended → number ended ≡ 2
    → ((wrong : Wrong) × IsWrong words wrong × (wrong ≢ Memory))
    ⊎ ((order : Order) × AsksFor words order × ReadsText order)
wrong_words old new words ended (inl e) h = inr (e.0, e.1, text_only old new e.0 ended e.2 h)
wrong_words old new words ended (inr e) h = inl (of_words words ended e.0 e.1 e.2 h)

told_more : (ended : Result Status Stop) (wrong : Wrong) → IsTold wrong ended → number ended ≤ 1 → ⊥
told_more ended (Words error) told h = absurd (let n : number ended ≡ 2 = ap number told in omega (arith, n, h))
told_more ended (Path why) told h = absurd (let n : number ended ≡ 2 = ap number told in omega (arith, n, h))
told_more ended (Number why) told h = absurd (let n : number ended ≡ 2 = ap number told in omega (arith, n, h))
told_more ended Word told h = absurd (let n : number ended ≡ 2 = ap number told in omega (arith, n, h))
told_more ended (Address why) told h = absurd (let n : number ended ≡ 2 = ap number told in omega (arith, n, h))
told_more ended Size told h = absurd (let n : number ended ≡ 2 = ap number told in omega (arith, n, h))
told_more ended (Tags why) told h = absurd (let n : number ended ≡ 2 = ap number told in omega (arith, n, h))
told_more ended (Setting why) told h = absurd (let n : number ended ≡ 2 = ap number told in omega (arith, n, h))
told_more ended Body told h = absurd (let n : number ended ≡ 2 = ap number told in omega (arith, n, h))
told_more ended Store told h = absurd (let n : number ended ≡ 2 = ap number told in omega (arith, n, h))
told_more ended Plains told h = absurd (let n : number ended ≡ 2 = ap number told in omega (arith, n, h))
told_more ended (NoEnds why) told h = absurd (let n : number ended ≡ 2 = ap number told in omega (arith, n, h))
told_more ended (Together why) told h = absurd (let n : number ended ≡ 2 = ap number told in omega (arith, n, h))
told_more ended NoPath told h = absurd (let n : number ended ≡ 2 = ap number told in omega (arith, n, h))
told_more ended (Uri why) told h = absurd (let n : number ended ≡ 2 = ap number told in omega (arith, n, h))
told_more ended (Beside why) told h = absurd (let n : number ended ≡ 2 = ap number told in omega (arith, n, h))
told_more ended Hex (inl told) h = absurd (let n : number ended ≡ 2 = ap number told in omega (arith, n, h))
told_more ended Hex (inr told) h = absurd (let n : number ended ≡ 3 = ap number told in omega (arith, n, h))
told_more ended Memory told h = absurd (let n : number ended ≡ 4 = ap number told in omega (arith, n, h))

-- 0 and 1 say that the words ask for an order, which was carried out
carried_to : (old new : Option (List ℕ)) (order : Order) (ended : Result Status Stop)
    → IfOk ended (CarriesOut old new order) → number ended ≤ 1
    → IsCarriedTo old new order (number ended)
carried_to old new order (Ok s) c h = (s, refl, c)
carried_to old new order (Err stop.Failed) c h = absurd (let n : 3 ≤ 1 = h in omega (arith, n))
carried_to old new order (Err stop.Memory) c h = absurd (let n : 4 ≤ 1 = h in omega (arith, n))

pub asked : (old new : Option (List ℕ)) (words : List Text) (ended : Result Status Stop) → Ends old new words ended
    → number ended ≤ 1
    → (order : Order) × AsksFor words order × IsCarriedTo old new order (number ended)
asked old new words ended (inl e) h = (e.0, e.1, carried_to old new e.0 ended e.2 h)
asked old new words ended (inr e) h = absurd (told_more ended e.0 e.2 h)
