-- Since a call was taken, in a smooth run in which nothing is observed: it is reported; or it waits or runs, where few
-- requests were sent since, an exchange that is open began soon, and where none is, the last one was over soon.
use Rattle.std.proofs.Common.{◌≡◌, ◌⊎◌, inl, inr, ⊎_elim, ◌≤◌, ℕ, ◌+◌, ◌*◌, Bool, true, false, Option, Some, None}
use Rattle.std.proofs.Common.{List, [], ◌∷◌, ◌++◌, length, refl, ap, sym, subst, ◌∙◌, arith, option_to_list}
use Rattle.std.proofs.Common.{append_assoc, Ok}
use Rattle.std.proofs.Math.Decide.{ℕ_discrete}
use Rattle.std.proofs.Math.Nat.{add-mul, mul-le-mul_right}
use Rattle.coap_types.specs.Past.{Ever, Always}
use Rattle.coap_types.proofs.Facts.Traces.{Always_back}
use Rattle.coap_types.specs.declared.endpoint.Endpoint.{Endpoint}
use Rattle.coap_block.specs.Sizes.{Sizes}
use Rattle.coap_layer.specs.declared.setup.Setup.{Setup}
use Rattle.coap_client_laws.specs.Follows.Answered.{AreAnswered, IsFinal}
use Rattle.coap_client_laws.specs.Follows.Open.{IsOpenSince}
use Rattle.coap_client.specs.Sendings.{Taken, takes, WasTaken}
use Rattle.coap_client.specs.Law.{ClientLaw, own_of}
use Rattle.coap_client.specs.Own.{Operation, Calling}
use Rattle.coap_client.specs.Queue.{transfer_of}
use Rattle.coap_client.specs.Steps.{reports}
use Rattle.coap_client.specs.Trace as C
use Rattle.coap_client_laws.proofs.Facts.Exchanges.{open_runs}
use Rattle.coap_record.specs.Events.{Config, What, TickClient}
use Rattle.coap_record.specs.Record.{Entry, OfClient, OfServer, Turn, entries_of, client_of}
use Rattle.coap_smooth.specs.Reported.{unfinished, further_in}
use Rattle.coap_record.specs.Legal.{NotBefore}
use Rattle.coap_smooth.specs.Smooth.{max_age, ClientRests, HasRested, HasTicked}
use Rattle.coap_smooth.specs.Young.{max_open, AreYoung}
use Rattle.coap_smooth.proofs.Reported.InTurn.{InTurn, in_all, sent_in, IsReported, AreQuiet, go_on, plain_of}
use Rattle.coap_smooth.proofs.Reported.InTurn.{linked_of}
use Rattle.coap_smooth.proofs.Reported.NeverRests.{never_rests}
use Rattle.coap_smooth.proofs.Reported.OpenNow.{IsOpen, IsShut, open_or_shut, since_by_clock, began_now}
use Rattle.coap_smooth.proofs.Reported.TakenBy.{CallAlone, taken_by}
use Rattle.coap_smooth.proofs.Reported.TickOpens.{IsTaking, still_open, was_open, turn_opens}
use Rattle.coap_smooth.proofs.Smoothly.Answers.ConsOfOpen.{until}
use Rattle.coap_smooth.proofs.Smoothly.Ticks.NothingIsLeft.{Stands, before, ran}

-- the calls of the client, of a turn and of what was before
pub client_join : (later es : List Entry) → client_of (later ++ es) ≡ client_of later ++ client_of es
client_join [] es = refl
client_join (OfClient c ∷ later) es = ap (λ t. c ∷ t) (client_join later es)
client_join (OfServer c ∷ later) es = client_join later es

tick_or_not : (w : What) → (w ≡ TickClient) ⊎ (w ≡ TickClient → ⊥)
tick_or_not TickClient = inl refl
tick_or_not _ = inr (λ h. cc h)

same_or_not : (m n : ℕ) → (m ≡ n) ⊎ (m ≡ n → ⊥)
same_or_not m n = elim (ℕ_discrete m n) [ yes h ↦ inl h | no h ↦ inr h ]

-- a number, often
pub more : (k : ℕ) (m n : ℕ) → m ≤ n → m * k ≤ n * k
more k m n h = mul-le-mul_right k h

with_one : (op : Operation) (ops : List Operation) → length (option_to_list (Some op) ++ ops) ≡ 1 + length ops
with_one op ops = omega arith

-- sums, whatever the products are

through_tick : (t at sent since age : ℕ) → t ≤ since + age → since ≤ at + sent → t ≤ at + sent + age
through_tick t at sent since age h k = omega (arith, h, k)

through_open : (t at sent since lasts age : ℕ) → t ≤ since + lasts → since + lasts ≤ at + sent → t ≤ at + sent + age
through_open t at sent since lasts age h k = omega (arith, h, k)

till_open : (t at sent since lasts : ℕ) → t ≤ since + lasts → since + lasts ≤ at + sent → t ≤ at + sent
till_open t at sent since lasts h k = omega (arith, h, k)

from_start : (t at sent age : ℕ) → t ≤ at + age → t ≤ at + sent + age
from_start t at sent age h = omega (arith, h)

longer : (a at p q : ℕ) → a ≤ at + p → p ≤ q → a ≤ at + q
longer a at p q h k = omega (arith, h, k)

began_soon : (since clock t at p q r lasts age : ℕ) → since ≤ clock → clock ≤ t → t ≤ at + p + age → r ≤ q
    → r ≡ (lasts + age) + p
    → since + lasts ≤ at + q
began_soon since clock t at p q r lasts age a b c d e = omega (arith, a, b, c, d, e)

waits_soon : (t at p q r lasts age : ℕ) → t ≤ at + p + age → p ≤ q → r ≡ (lasts + age) + q → t ≤ at + r
waits_soon t at p q r lasts age h k l = omega (arith, h, k, l)

pub too_late : (t a : ℕ) → t ≤ a → a + 1 ≤ t → ⊥
too_late t a h k = omega (arith, h, k)

once_more : (k s : ℕ) → (1 + s) * k ≡ k + s * k
once_more k s =
    let one : 1 * k ≡ k = omega arith in
    add-mul 1 s k ∙ ap (λ (z : ℕ). z + s * k) one

module _ (config : Config) where
  -- the longest way from one request to the next
  abbrev pub way : ℕ
  way = max_open config + max_age

  abbrev calls : List Turn → List C.Call
  calls turns = client_of (entries_of turns)

  -- after fewer turns than these there is no later moment at which the client had nothing to do
  abbrev RestsBy : ℕ → List Turn → Type 0
  RestsBy since past = Always (λ older (u : Turn). (now : ℕ) → NotBefore older now → now ≤ u.event.at
      → ClientRests config older now → now ≤ since) past

  rests_until : (since : ℕ) (us : List Turn) → Always (λ p (u : Turn). u.event.at ≤ since) us → RestsBy since us
  rests_until since [] h = tt
  rests_until since (u ∷ us) h =
      (λ now behind before_next rests. (let a = h.0 in omega (arith, a, before_next)), rests_until since us h.1)

  -- no exchange is open, since then at most, and after that the client did not tick, and had something to do
  pub record Rests (till : ℕ) (past : List Turn) : Type 0 where
    since : ℕ
    soon : since ≤ till
    shut : IsShut config.client_sizes (calls past)
    ticks : Always (λ older (u : Turn). u.event.what ≡ TickClient → u.event.at ≤ since) past
    rests : RestsBy since past

  -- it waits, or runs
  pub record Goes (number at most : ℕ) (past : List Turn) : Type 0 where
    pub sent : ℕ
    pub turn : InTurn number (own_of config.client_sizes (calls past)) sent most
    pub opened : (since : ℕ) → IsOpenSince config.client_sizes since (calls past)
        → since + max_open config ≤ at + sent * way
    pub rest : IsOpen config.client_sizes (calls past) ⊎ Rests (at + sent * way) past
    pub old : Ever (λ (u : Turn). u.event.at ≡ at) past

  -- decided: whether it is reported here, and at all
  abbrev ReportedNow : ℕ → List C.Call → C.Call → Type 0
  ReportedNow number t c =
      (x : C.Reported) × (x.number ≡ number) × IsFinal config.addresses.server config.client_sizes config.client_setup t
      c x

  now_or_not : (number : ℕ) (t : List C.Call) (c : C.Call) (x : C.Reported)
      → reports (own_of config.client_sizes t) c ≡ Some x → (b : Bool) → C.is_value x.report ≡ b
      → (x.number ≡ number) ⊎ (x.number ≡ number → ⊥) → ReportedNow number t c ⊎ (ReportedNow number t c → ⊥)
  now_or_not number t c x is false last (inl same) = inl (x, same, record { made = is; final = last })
  now_or_not number t c x is true value e =
      inr (λ k. (let both : Some x ≡ Some k.0 = sym is ∙ k.2.made in
      let one : x ≡ k.0 = cc both in
      let z = sym value ∙ (ap (λ (y : C.Reported). C.is_value y.report) one ∙ k.2.final) in cc z))
  now_or_not number t c x is false last (inr other) =
      inr (λ k. (let both : Some x ≡ Some k.0 = sym is ∙ k.2.made in
      let one : x ≡ k.0 = cc both in
      other (ap (λ (y : C.Reported). y.number) one ∙ k.1)))

  none_now : (number : ℕ) (t : List C.Call) (c : C.Call) → reports (own_of config.client_sizes t) c ≡ None
      → ReportedNow number t c → ⊥
  none_now number t c is k = let z = sym is ∙ k.2.made in cc z

  pub reported_or_not : (number : ℕ) (t : List C.Call) → IsReported config number t ⊎ (IsReported config number t → ⊥)
  reported_or_not number [] = inr (λ h. h)
  reported_or_not number (c ∷ t) = by (reports (own_of config.client_sizes t) c) refl (reported_or_not number t)
    where
      both : ReportedNow number t c ⊎ (ReportedNow number t c → ⊥) → (IsReported config number t → ⊥)
          → IsReported config number (c ∷ t) ⊎ (IsReported config number (c ∷ t) → ⊥)
      both (inl k) n = inl (inl k)
      both (inr never) n = inr (λ h. ⊎_elim never n h)

      by : (o : Option C.Reported) → reports (own_of config.client_sizes t) c ≡ o
          → IsReported config number t ⊎ (IsReported config number t → ⊥)
          → IsReported config number (c ∷ t) ⊎ (IsReported config number (c ∷ t) → ⊥)
      by o is (inl k) = inl (inr k)
      by None is (inr n) = both (inr (none_now number t c is)) n
      by (Some x) is (inr n) =
          both (now_or_not number t c x is (C.is_value x.report) refl (same_or_not x.number number)) n

  module _ (answered : (server : Endpoint) (sizes : Sizes) (setup : Setup) (t : List C.Call)
      → ClientLaw server sizes setup t
      → AreAnswered server sizes setup t) where
    -- the next event comes soon
    pub next_soon : (turn : Turn) (past : List Turn) → Stands config (turn ∷ past) → AreYoung config (turn ∷ past)
        → AreQuiet config (calls past) → (x : Taken) → WasTaken x (calls past)
        → (IsReported config x.number (calls past) → ⊥)
        → (at most : ℕ) (g : Goes x.number at most past) → turn.event.at ≤ at + g.sent * way + max_age
    next_soon turn past s young quiet x was untold at most g = by g.rest
      where
        -- after these turns it has something to do
        rested : (us : List Turn) (since next : ℕ)
            → ((now : ℕ) → NotBefore us now → now ≤ next → ClientRests config us now → now ≤ since)
            → RestsBy since us → HasRested (ClientRests config) turn.event.at next us
            → turn.event.at ≤ since + max_age
        rested [] since next here all h = absurd h
        rested (u ∷ us) since next here all (inl h) =
            let a = here h.now h.since h.before h.rests in let b = h.soon in omega (arith, a, b)
        rested (u ∷ us) since next here all (inr h) = rested us since u.event.at all.0 all.1 h

        rest_soon : (r : Rests (at + g.sent * way) past)
            → HasRested (ClientRests config) turn.event.at turn.event.at past
            → turn.event.at ≤ r.since + max_age
        rest_soon r h =
            rested past r.since turn.event.at
            (λ now behind before_next k. absurd (never_rests config answered (calls past) quiet r.shut x was untold now
            k.0 k.1 k.2)) r.rests h

        ticked : (older : List Turn) (since : ℕ)
            → Always (λ p (u : Turn). u.event.what ≡ TickClient → u.event.at ≤ since) older
            → Ever (λ (u : Turn). (u.event.what ≡ TickClient) × (turn.event.at ≤ u.event.at + max_age)) older
            → turn.event.at ≤ since + max_age
        ticked [] since all h = absurd h
        ticked (u ∷ older) since all (inl h) =
            let a = all.0 h.0 in let b = h.1 in omega (arith, a, b)
        ticked (u ∷ older) since all (inr h) = ticked older since all.1 h

        all_late : (older : List Turn) → Always (λ p (u : Turn). turn.event.at ≤ u.event.at + max_age) older
            → Ever (λ (u : Turn). u.event.at ≡ at) older → turn.event.at ≤ at + max_age
        all_late [] all h = absurd h
        all_late (u ∷ older) all (inl h) = let a = all.0 in omega (arith, a, h)
        all_late (u ∷ older) all (inr h) = all_late older all.1 h

        by : IsOpen config.client_sizes (calls past) ⊎ Rests (at + g.sent * way) past
            → turn.event.at ≤ at + g.sent * way + max_age
        by (inl o) =
            through_open turn.event.at at (g.sent * way) o.0 (max_open config) max_age (young.0 o.0 o.1)
            (g.opened o.0 o.1)
        by (inr r) = elim s.goes.0.client_keeps_up [
          | inl h ↦ by_tick r h
          | inr h ↦ through_tick turn.event.at at (g.sent * way) r.since max_age (rest_soon r h) r.soon
        ]
          where
            by_tick : (q : Rests (at + g.sent * way) past) → HasTicked TickClient past turn.event.at
                → turn.event.at ≤ at + g.sent * way + max_age
            by_tick q (inl h) =
                through_tick turn.event.at at (g.sent * way) q.since max_age (ticked past q.since q.ticks h) q.soon
            by_tick q (inr all) = from_start turn.event.at at (g.sent * way) max_age (all_late past all g.old)

    -- .. while it isn't reported
    pub in_bound : (turn : Turn) (past : List Turn) → Stands config (turn ∷ past) → AreYoung config (turn ∷ past)
        → AreQuiet config (calls past) → (x : Taken) → WasTaken x (calls past)
        → (IsReported config x.number (calls past) → ⊥) → (at most : ℕ) (g : Goes x.number at most past)
        → turn.event.at ≤ at + (1 + most) * way
    in_bound turn past s young quiet x was untold at most g = by g.rest g.turn
      where
        by : IsOpen config.client_sizes (calls past) ⊎ Rests (at + g.sent * way) past
            → InTurn x.number (own_of config.client_sizes (calls past)) g.sent most
            → turn.event.at ≤ at + (1 + most) * way
        by (inl o) t =
            longer turn.event.at at (g.sent * way) ((1 + most) * way)
            (till_open turn.event.at at (g.sent * way) o.0 (max_open config) (young.0 o.0 o.1) (g.opened o.0 o.1))
            (more way g.sent (1 + most) (in_all x.number (own_of config.client_sizes (calls past)) g.sent most t))
        by (inr r) (inr now) =
            let o = linked_of config (calls past) quiet (Calling x.number now.request now.transfer) now.running in
            absurd (r.shut o.0 o.1)
        by (inr r) (inl w) =
            let few : g.sent ≤ most = (let k = w.few in omega (arith, k)) in
            waits_soon turn.event.at at (g.sent * way) (most * way) ((1 + most) * way) (max_open config) max_age
            (next_soon turn past s young quiet x was untold at most g) (more way g.sent most few) (once_more way most)

    -- one turn more
    module _ (turn : Turn) (past : List Turn) (s : Stands config (turn ∷ past)) (young : AreYoung config (turn ∷ past))
        (quiet : AreQuiet config (calls (turn ∷ past))) (x : Taken) (was : WasTaken x (calls past))
        (untold_then : IsReported config x.number (calls past) → ⊥) (at most : ℕ)
        (g : Goes x.number at most past) where
      abbrev now : List C.Call
      now = client_of turn.entries

      abbrev old : List C.Call
      old = calls past

      joined : calls (turn ∷ past) ≡ now ++ old
      joined = client_join turn.entries (entries_of past)

      abbrev sent : ℕ
      sent = sent_in config now old + g.sent

      quiet_now : AreQuiet config (now ++ old)
      quiet_now = subst (AreQuiet config) joined quiet

      quiet_then : AreQuiet config old
      quiet_then = Always_back _ now old quiet_now

      clock_now : (own_of config.client_sizes (calls (turn ∷ past))).clock ≤ turn.event.at
      clock_now =
          let same : turn.event.at ≤ turn.event.at = omega arith in
          ((ran config (turn ∷ past) s).still turn.event.at same).client.own

      fewer : g.sent ≤ sent
      fewer = omega arith

      as_long : g.sent * way ≤ sent * way
      as_long = more way g.sent sent fewer

      opened : (since : ℕ) → IsOpenSince config.client_sizes since (calls (turn ∷ past))
          → since + max_open config ≤ at + sent * way
      opened since o =
          ⊎_elim
          (λ new. began_soon since (own_of config.client_sizes (calls (turn ∷ past))).clock turn.event.at at
          (g.sent * way)
          (sent * way) ((1 + g.sent) * way) (max_open config) max_age
          (since_by_clock config.client_sizes since (calls (turn ∷ past)) o) clock_now
          (next_soon turn past s young quiet_then x was untold_then at most g)
          (more way (1 + g.sent) sent (omega (arith, new)))
          (once_more way g.sent))
          (λ k. longer (since + max_open config) at (g.sent * way) (sent * way) (g.opened since k) as_long)
          (began_now config since now old (subst (IsOpenSince config.client_sizes since) joined o))

      all_by_now : Always (λ p (u : Turn). u.event.what ≡ TickClient → u.event.at ≤ turn.event.at) (turn ∷ past)
      all_by_now =
          let same : turn.event.at ≤ turn.event.at = omega arith in
          plain (turn ∷ past) (until config.addresses (turn ∷ past) s.legal turn.event.at same)
        where
          plain : (us : List Turn) → Always (λ p (u : Turn). u.event.at ≤ turn.event.at) us
              → Always (λ p (u : Turn). u.event.what ≡ TickClient → u.event.at ≤ turn.event.at) us
          plain [] h = tt
          plain (u ∷ us) h = (λ is. h.0, plain us h.1)

      until_now : Always (λ p (u : Turn). u.event.at ≤ turn.event.at) (turn ∷ past)
      until_now =
          let same : turn.event.at ≤ turn.event.at = omega arith in
          until config.addresses (turn ∷ past) s.legal turn.event.at same

      rest : (IsReported config x.number (calls (turn ∷ past)) → ⊥)
          → IsOpen config.client_sizes (calls (turn ∷ past)) ⊎ Rests (at + sent * way) (turn ∷ past)
      rest untold = by (open_or_shut config.client_sizes (calls (turn ∷ past))) g.rest
        where
          by : IsOpen config.client_sizes (calls (turn ∷ past)) ⊎ IsShut config.client_sizes (calls (turn ∷ past))
              → IsOpen config.client_sizes old ⊎ Rests (at + g.sent * way) past
              → IsOpen config.client_sizes (calls (turn ∷ past)) ⊎ Rests (at + sent * way) (turn ∷ past)
          by (inl o) r = inl o
          by (inr shut) (inl o) =
              inr (record {
                since = turn.event.at;
                soon = longer turn.event.at at (g.sent * way) (sent * way)
                    (till_open turn.event.at at (g.sent * way) o.0 (max_open config) (young.0 o.0 o.1)
                    (g.opened o.0 o.1))
                    as_long;
                shut = shut;
                ticks = all_by_now;
                rests = rests_until turn.event.at (turn ∷ past) until_now;
              })
          by (inr shut) (inr r) =
              ⊎_elim
              (λ is. (let o = turn_opens config answered turn past is s.goes.0.all_made s.made.0 x was s.client quiet
              untold in
              absurd (shut o.0 o.1)))
              (λ other. inr (record {
                since = r.since;
                soon = longer r.since at (g.sent * way) (sent * way) r.soon as_long;
                shut = shut;
                ticks = (λ is. absurd (other is), r.ticks);
                rests = (
                  λ at_rest behind before_it k. absurd (never_rests config answered old quiet_then r.shut x was
                      untold_then at_rest k.0 k.1 k.2),
                  r.rests,
                );
              }))
              (tick_or_not turn.event.what)

      pub one_more : IsReported config x.number (calls (turn ∷ past))
          ⊎ Goes x.number at (further_in config now old + most) (turn ∷ past)
      one_more =
          by (reported_or_not x.number (calls (turn ∷ past)))
          (go_on config x.number g.sent most now old quiet_now (plain_of config old quiet_then) g.turn).1
        where
          by : IsReported config x.number (calls (turn ∷ past)) ⊎ (IsReported config x.number (calls (turn ∷ past)) → ⊥)
              → InTurn x.number (own_of config.client_sizes (now ++ old)) sent (further_in config now old + most)
              ⊎ IsReported config x.number (now ++ old)
              → IsReported config x.number (calls (turn ∷ past))
              ⊎ Goes x.number at (further_in config now old + most) (turn ∷ past)
          by (inl told) t = inl told
          by (inr untold) (inr told) = inl (subst (IsReported config x.number) (sym joined) told)
          by (inr untold) (inl t) = inr (record {
            sent = sent;
            turn = subst (λ l. InTurn x.number (own_of config.client_sizes l) sent (further_in config now old + most))
                (sym joined) t;
            opened = opened;
            rest = rest untold;
            old = inr g.old;
          })

    -- the turn in which it is taken
    module _ (turn : Turn) (past : List Turn) (s : Stands config (turn ∷ past)) (x : Taken)
        (taken : Ever (λ c. takes c ≡ Some x) (client_of turn.entries)) (others : ℕ)
        (behind : unfinished config (calls past) ≡ others) where
      abbrev before_it : List C.Call
      before_it = calls past

      abbrev call : C.Call
      call = C.Calls turn.event.at x.request (Ok x.number)

      k : CallAlone x turn.event.at (client_of turn.entries)
      k = taken_by config.addresses x turn.event.at turn.event.word turn.entries past turn.refused turn.event.what
          s.made.0 taken

      is : calls (turn ∷ past) ≡ k.later ++ (call ∷ before_it)
      is = client_join turn.entries (entries_of past)
          ∙ (ap (λ l. l ++ before_it) k.is ∙ append_assoc k.later (call ∷ []) before_it)

      -- what is taken after it leaves what waits and what runs
      after_it : (later t : List C.Call) → Always (λ p c. IsTaking c) later
          → ((own_of config.client_sizes (later ++ t)).queue ≡ (own_of config.client_sizes t).queue)
      after_it [] t h = refl
      after_it (C.NextOut answer ∷ later) t h = after_it later t h.1
      after_it (C.NextReport answer ∷ later) t h = after_it later t h.1
      after_it (_ ∷ later) t h = absurd h.0

      waits : (n : ℕ) → n + length (own_of config.client_sizes before_it).queue ≤ others
          → InTurn x.number (own_of config.client_sizes (calls (turn ∷ past))) n others
      waits n few = inl (record {
        ahead = (own_of config.client_sizes before_it).queue;
        behind = [];
        request = record x.request { body = [] };
        transfer = transfer_of (own_of config.client_sizes before_it).sizes x.request x.request.method;
        queue = ap (λ l. (own_of config.client_sizes l).queue) is ∙ after_it k.later (call ∷ before_it) k.taking;
        few = few;
      })

      law_before : ClientLaw config.addresses.server config.client_sizes config.client_setup before_it
      law_before = (before config turn past s).client

      -- an exchange was open before, or none was
      was : (since : ℕ) → IsOpenSince config.client_sizes since (calls (turn ∷ past))
          → IsOpenSince config.client_sizes since before_it
      was since o =
          elim (was_open config.client_sizes since k.later (call ∷ before_it) k.taking
          (subst (IsOpenSince config.client_sizes since) is o)) [
            | inl b ↦ (let z = b.sends_it in absurd (cc z))
            | inr r ↦ r.2
          ]

      still : (since : ℕ) → IsOpenSince config.client_sizes since before_it
          → IsOpenSince config.client_sizes since (calls (turn ∷ past))
      still since o = subst (IsOpenSince config.client_sizes since) (sym is)
          (still_open config.client_sizes since k.later (call ∷ before_it) k.taking (inr (refl, refl, o)))

      clock_then : (own_of config.client_sizes before_it).clock ≤ turn.event.at
      clock_then =
          ((ran config past (before config turn past s)).still turn.event.at s.legal.0.later).client.own

      all_by_then : Always (λ p (u : Turn). u.event.what ≡ TickClient → u.event.at ≤ turn.event.at) (turn ∷ past)
      all_by_then =
          let same : turn.event.at ≤ turn.event.at = omega arith in
          plain (turn ∷ past) (until config.addresses (turn ∷ past) s.legal turn.event.at same)
        where
          plain : (us : List Turn) → Always (λ p (u : Turn). u.event.at ≤ turn.event.at) us
              → Always (λ p (u : Turn). u.event.what ≡ TickClient → u.event.at ≤ turn.event.at) us
          plain [] h = tt
          plain (u ∷ us) h = (λ is. h.0, plain us h.1)

      ran_then : IsOpen config.client_sizes before_it
          → 1 + length (own_of config.client_sizes before_it).queue ≤ others
      ran_then o =
          let r = (open_runs config.addresses.server config.client_sizes config.client_setup before_it law_before).runs
          o.0 o.1 in
          let two : unfinished config before_it ≡ 1 + length (own_of config.client_sizes before_it).queue =
          ap (λ (q : Option Operation). length (option_to_list q ++ (own_of config.client_sizes before_it).queue))
          r.operates
          ∙ with_one r.operation (own_of config.client_sizes before_it).queue in
          omega (arith, two, behind)

      some_then : length (own_of config.client_sizes before_it).queue ≤ others
      some_then = by (own_of config.client_sizes before_it).running refl
        where
          by : (q : Option Operation) → (own_of config.client_sizes before_it).running ≡ q
              → length (own_of config.client_sizes before_it).queue ≤ others
          by None e =
              let one : unfinished config before_it ≡ length (own_of config.client_sizes before_it).queue =
              ap (λ (q : Option Operation). length (option_to_list q ++ (own_of config.client_sizes before_it).queue))
              e in
              omega (arith, one, behind)
          by (Some op) e =
              let two : unfinished config before_it ≡ 1 + length (own_of config.client_sizes before_it).queue =
              ap (λ (q : Option Operation). length (option_to_list q ++ (own_of config.client_sizes before_it).queue)) e
              ∙ with_one op (own_of config.client_sizes before_it).queue in
              omega (arith, two, behind)

      until_then : Always (λ p (u : Turn). u.event.at ≤ turn.event.at) (turn ∷ past)
      until_then =
          let same : turn.event.at ≤ turn.event.at = omega arith in
          until config.addresses (turn ∷ past) s.legal turn.event.at same

      pub begins : Goes x.number turn.event.at others (turn ∷ past)
      begins = by (open_or_shut config.client_sizes before_it)
        where
          by : IsOpen config.client_sizes before_it ⊎ IsShut config.client_sizes before_it
              → Goes x.number turn.event.at others (turn ∷ past)
          by (inl o) = record {
            sent = 1;
            turn = waits 1 (ran_then o);
            opened = λ since h. (let a = since_by_clock config.client_sizes since before_it (was since h) in
                let b = clock_then in
                let c : 1 * way ≡ way = omega arith in
                omega (arith, a, b, c));
            rest = inl (o.0, still o.0 o.1);
            old = inl refl;
          }
          by (inr shut) = record {
            sent = 0;
            turn = waits 0 (let few = some_then in omega (arith, few));
            opened = λ since h. absurd (shut since (was since h));
            rest = inr (record {
              since = turn.event.at;
              soon = omega arith;
              shut = λ since h. shut since (was since h);
              ticks = all_by_then;
              rests = rests_until turn.event.at (turn ∷ past) until_then;
            });
            old = inl refl;
          }
