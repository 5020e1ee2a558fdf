-- A call takes its turn: how many requests are sent before it is reported.
use Rattle.std.proofs.Common.{◌≡◌, ◌⊎◌, inl, inr, ◌≤◌, ℕ, ◌+◌, ◌*◌, Bool, true, false, cond, not}
use Rattle.std.proofs.Common.{◌&&◌, is_some, Option, Some, None, List, [], ◌∷◌, ◌++◌, length, refl, ap, sym, subst, ◌∙◌}
use Rattle.std.proofs.Common.{arith, Ok}
use Rattle.std.proofs.Math.Nat.{mul-le-mul_right}
use Rattle.std.proofs.lemmas.List.{append_assoc}
use Rattle.std.specs.Prelude.{◌==◌, drop}
use Rattle.std.specs.Option.{option_map}
use Rattle.coap_types.specs.declared.endpoint.Endpoint.{Endpoint}
use Rattle.coap_layer.specs.declared.setup.Setup.{Setup}
use Rattle.coap_block.specs.Sizes.{Sizes}
use Rattle.coap_codec.specs.Message.{Message}
use Rattle.coap_client.specs.Law.{ClientLaw, own_of}
use Rattle.coap_client.specs.Own.{Operation, Own, Transfer, Calling, Registering, Fetching, Cancelling, Dropped}
use Rattle.coap_client.specs.Places.{final_of, hit}
use Rattle.coap_client.specs.Sendings.{Taken, Sending, takes, sends, hears}
use Rattle.coap_client.specs.Steps.{reports}
use Rattle.coap_client.specs.Trace.{Request, Reported, NoIds, is_value, Call, Calls, Feeds}
use Rattle.coap_client.proofs.Facts.Places.PlaceLemmas.{same_number, hits}
use Rattle.coap_client.proofs.Facts.Turning.Leading.{client_back}
use Rattle.coap_client_laws.specs.Follows.Answered.{HasReport}
use Rattle.coap_client_laws.specs.Follows.Ends.{Unsent, unsent, reported_of, report_to}
use Rattle.coap_client_laws.specs.Follows.Taken.{Waiting, ACall, waiting_of, added}
use Rattle.coap_client_laws.specs.Follows.Taken.{starts, over_in, is_cancel, without, waiting_in, StartsFirst}
use Rattle.coap_client_laws.proofs.Facts.EachCall.{all_taken, all_ends}
use Rattle.coap_client_laws.proofs.Queueing.OneByOne.{sent_now}
use Rattle.coap_client_laws.proofs.Turning.Fates.{Fate, runs_on, goes_on, ends_it, fate}
use Rattle.coap_given_back.specs.GivenBack.{one_sent, one_further, TakenSince, TakenBehind, FetchesNone, MakeAtMost}
use Rattle.coap_given_back.specs.KeepsUp as client
use Rattle.coap_given_back.proofs.GivenBack.Counted.{Counted, begin, next_turn, no_more, one_goes_on}

-- what leaves the queue is no call

kept_in : (o : Option ℕ) (n : ℕ) (ahead behind : List Waiting)
    → without o (ahead ++ ACall n ∷ behind) ≡ without o ahead ++ ACall n ∷ without o behind
kept_in None n ahead behind = refl
kept_in (Some k) n [] behind = refl
kept_in (Some k) n (w ∷ ahead) behind = by (is_cancel k w) (kept_in (Some k) n ahead behind)
  where
    by : (b : Bool) → without (Some k) (ahead ++ ACall n ∷ behind)
        ≡ without (Some k) ahead ++ ACall n ∷ without (Some k) behind
        → cond (not b) (w ∷ without (Some k) (ahead ++ ACall n ∷ behind)) (without (Some k) (ahead ++ ACall n ∷ behind))
        ≡ cond (not b) (w ∷ without (Some k) ahead) (without (Some k) ahead) ++ ACall n ∷ without (Some k) behind
    by true ih = ih
    by false ih = ap (λ l. w ∷ l) ih

fewer : (o : Option ℕ) (ws : List Waiting) → length (without o ws) ≤ length ws
fewer None ws = omega arith
fewer (Some k) [] = omega arith
fewer (Some k) (w ∷ ws) = by (is_cancel k w) (fewer (Some k) ws)
  where
    by : (b : Bool) → length (without (Some k) ws) ≤ length ws
        → length (cond (not b) (w ∷ without (Some k) ws) (without (Some k) ws)) ≤ length (w ∷ ws)
    by true ih = omega (arith, ih)
    by false ih = omega (arith, ih)

is_calling : (op : Operation) (n : ℕ) → waiting_of op ≡ Some (ACall n)
    → (r : Request) × (t : Transfer) × (op ≡ Calling n r t)
is_calling (Calling k r t) n h = let e : k ≡ n = cc h in (r, t, ap (λ i. Calling i r t) e)
is_calling (Registering k path) n h = absurd (cc h)
is_calling (Cancelling k) n h = absurd (cc h)
is_calling (Fetching k) n h = absurd (cc h)
is_calling Dropped n h = absurd (cc h)

heard_no_start : (s : Own) (c : Call) (m : Message) → hears c ≡ Some m → starts s c ≡ false
heard_no_start s (Feeds now from bytes w up settled event sent token kept) m h = refl
heard_no_start s _ m h = absurd (cc h)

counted : (a b : Bool) → cond a 1 0 ≤ 1 + 0
counted true b = omega arith
counted false b = omega arith

module _ (server : Endpoint) (sizes : Sizes) (setup : Setup) where
  abbrev IsReported : ℕ → List Call → Type 0
  IsReported n t = HasReport server sizes setup n t

  abbrev Law : List Call → Type 0
  Law t = ClientLaw server sizes setup t

  -- a last report
  final_now : (n : ℕ) (t : List Call) (c : Call) → 1 ≤ final_of n (reports (own_of sizes t) c) → IsReported n (c ∷ t)
  final_now n t c h = by (reports (own_of sizes t) c) refl
    where
      hits_it : (x : Reported) → reports (own_of sizes t) c ≡ Some x → (v : Bool) → is_value x.report ≡ v → (b : Bool)
          → (x.number == n) ≡ b → IsReported n (c ∷ t)
      hits_it x is false last true e = inl (x, same_number x.number n e, record { made = is; final = last })
      hits_it x is true last b e =
          let a = ap (final_of n) is in
          let d : final_of n (Some x) ≡ 0 = ap (λ v. cond v 0 (hit x.number n)) last in
          absurd (omega (arith, h, a, d))
      hits_it x is false last false e =
          let a = ap (final_of n) is in
          let d : final_of n (Some x) ≡ hit x.number n = ap (λ v. cond v 0 (hit x.number n)) last in
          let g = hits x.number n false e in
          absurd (omega (arith, h, a, d, g))

      by : (o : Option Reported) → reports (own_of sizes t) c ≡ o → IsReported n (c ∷ t)
      by None is = let a = ap (final_of n) is in absurd (omega (arith, h, a))
      by (Some x) is = hits_it x is (is_value x.report) refl (x.number == n) refl

  -- the call waits behind these, or runs
  pub record Waits (n : ℕ) (t : List Call) (ahead behind : List Waiting) : Type 0 where
    pub is : waiting_in sizes t ≡ ahead ++ ACall n ∷ behind

  pub record Runs (n : ℕ) (t : List Call) : Type 0 where
    pub request : Request
    pub transfer : Transfer
    pub running : (own_of sizes t).running ≡ Some (Calling n request transfer)

  -- so many of those that waited before it started
  pub record InLine (n waiting started : ℕ) (t : List Call) : Type 0 where
    pub place : ((ahead : List Waiting) × (behind : List Waiting) × Waits n t ahead behind
        × (started + length ahead ≤ waiting))
        ⊎ (Runs n t × (started ≤ waiting + 1))

  -- .. and so many are sent
  pub record Line (x : Taken) (at waiting further : ℕ) (t : List Call) : Type 0 where
    pub sent : ℕ
    pub since : TakenSince server sizes setup x at sent t
    pub started : ℕ
    pub sum : sent ≤ started + further
    pub counted : (most : ℕ) → 1 ≤ most → FetchesNone server sizes setup t → MakeAtMost server sizes setup most t
        → Counted server sizes setup most sent started t
    pub line : InLine x.number waiting started t

  -- a turn is no further request
  no_turn : (t : List Call) (c : Call) → starts (own_of sizes t) c ≡ false
      → one_sent server sizes setup t c ≡ one_further server sizes setup t c
  no_turn t c none =
      by (is_some (sends (own_of sizes t) c))
      ∙ ap (λ (b : Bool). cond {A = ℕ} (is_some (sends (own_of sizes t) c) && not b) 1 0) (sym none)
    where
      by : (b : Bool) → ◌≡◌ {A = ℕ} (cond b 1 0) (cond (b && true) 1 0)
      by true = refl
      by false = refl

  one_at_most : (t : List Call) (c : Call) → one_sent server sizes setup t c ≤ 1
  one_at_most t c = counted (is_some (sends (own_of sizes t) c)) true

  module _ (x : Taken) (at waiting : ℕ) (t : List Call) (c : Call) (law : Law (c ∷ t)) (before : ℕ)
      (l : Line x at waiting before t) (untold : IsReported x.number (c ∷ t) → ⊥) where
    abbrev n : ℕ
    n = x.number

    abbrev s : Own
    s = own_of sizes t

    abbrev further : ℕ
    further = one_further server sizes setup t c + before

    abbrev sent : ℕ
    sent = one_sent server sizes setup t c + l.sent

    since : TakenSince server sizes setup x at sent (c ∷ t)
    since = inr (l.sent, l.since, refl)

    -- the exchanges, counted

    abbrev Count : ℕ → Type 0
    Count started = (most : ℕ) → 1 ≤ most → FetchesNone server sizes setup (c ∷ t)
        → MakeAtMost server sizes setup most (c ∷ t) → Counted server sizes setup most sent started (c ∷ t)

    old_count : (most : ℕ) → 1 ≤ most → FetchesNone server sizes setup (c ∷ t)
        → MakeAtMost server sizes setup most (c ∷ t) → Counted server sizes setup most l.sent l.started t
    old_count most some none few =
        l.counted most some none.1 (λ y was. (let k = few y (inr was) in omega (arith, k)))

    count_next : Count (1 + l.started)
    count_next most some none few =
        next_turn server sizes setup most l.sent l.started t c (old_count most some none few)

    count_on : starts s c ≡ false → Count l.started
    count_on quiet most some none few =
        one_goes_on server sizes setup most l.sent l.started t c law few quiet none.0 (old_count most some none few)

    count_same : sends s c ≡ None → Count l.started
    count_same quiet most some none few =
        no_more server sizes setup most l.sent l.started t c quiet (old_count most some none few)

    -- it waits on
    waits_on : (ahead behind : List Waiting) → cond (starts s c) (drop 1 (waiting_in sizes t)) (waiting_in sizes t)
        ≡ ahead ++ ACall n ∷ behind
        → Waits n (c ∷ t) (without (over_in s c) ahead) (without (over_in s c) behind ++ added c)
    waits_on ahead behind is = record {
      is = ap (λ ws. without (over_in s c) ws ++ added c) is
          ∙ (ap (λ ws. ws ++ added c) (kept_in (over_in s c) n ahead behind)
          ∙ append_assoc (without (over_in s c) ahead) (ACall n ∷ without (over_in s c) behind) (added c));
    }

    still : (ahead behind : List Waiting) → Waits n t ahead behind → l.started + length ahead ≤ waiting
        → starts s c ≡ false → Line x at waiting further (c ∷ t)
    still ahead behind w few none =
        let is : cond (starts s c) (drop 1 (waiting_in sizes t)) (waiting_in sizes t) ≡ ahead ++ ACall n ∷ behind =
        ap (λ b. cond b (drop 1 (waiting_in sizes t)) (waiting_in sizes t)) none ∙ w.is in
        let less = fewer (over_in s c) ahead in
        let one = no_turn t c none in
        let sum = l.sum in
        record {
          sent = sent;
          since = since;
          started = l.started;
          sum = omega (arith, one, sum);
          counted = count_on none;
          line = record {
            place = inl (
              without (over_in s c) ahead,
              without (over_in s c) behind ++ added c,
              waits_on ahead behind is,
              omega (arith, few, less),
            );
          };
        }

    -- another takes its turn
    moves_up : (w : Waiting) (ahead behind : List Waiting) → Waits n t (w ∷ ahead) behind
        → l.started + length (w ∷ ahead) ≤ waiting → starts s c ≡ true → Line x at waiting further (c ∷ t)
    moves_up w ahead behind p few turn =
        let is : cond (starts s c) (drop 1 (waiting_in sizes t)) (waiting_in sizes t) ≡ ahead ++ ACall n ∷ behind =
        ap (λ b. cond b (drop 1 (waiting_in sizes t)) (waiting_in sizes t)) turn ∙ ap (drop 1) p.is in
        let less = fewer (over_in s c) ahead in
        let one = one_at_most t c in
        let sum = l.sum in
        record {
          sent = sent;
          since = since;
          started = 1 + l.started;
          sum = omega (arith, one, sum);
          counted = count_next;
          line = record {
            place = inl (
              without (over_in s c) ahead,
              without (over_in s c) behind ++ added c,
              waits_on ahead behind is,
              omega (arith, few, less),
            );
          };
        }

    runs_now : (op : Operation) → waiting_of op ≡ Some (ACall n) → (own_of sizes (c ∷ t)).running ≡ Some op
        → l.started ≤ waiting → Line x at waiting further (c ∷ t)
    runs_now op is runs few =
        let k = is_calling op n is in
        let one = one_at_most t c in
        let sum = l.sum in
        record {
          sent = sent;
          since = since;
          started = 1 + l.started;
          sum = omega (arith, one, sum);
          counted = count_next;
          line = record {
            place = inr (
              record { request = k.0; transfer = k.1; running = runs ∙ ap (λ o. Some o) k.2 },
              omega (arith, few),
            );
          };
        }

    -- it can't be sent, and that is reported
    unsent_told : (op : Operation) → waiting_of op ≡ Some (ACall n) → (u : Unsent) → unsent s c ≡ Some u
        → u.operation ≡ op → ⊥
    unsent_told op is u h same =
        let k = is_calling op n is in
        let e = (all_ends server sizes setup (c ∷ t) law).0.each_unsent u h in
        let of_it : reported_of u.operation ≡ Some n = ap reported_of (same ∙ k.2) in
        untold (inl (
          record { number = n; report = NoIds },
          refl,
          record { made = e.1 ∙ ap (report_to NoIds) of_it; final = refl },
        ))

    -- it takes its turn
    its_turn : (behind : List Waiting) → Waits n t [] behind → l.started + 0 ≤ waiting → starts s c ≡ true
        → Line x at waiting further (c ∷ t)
    its_turn behind p few turn = by (sends s c) refl (unsent s c) refl
      where
        f : StartsFirst sizes t c
        f = (all_taken server sizes setup (c ∷ t) law).0.in_order turn

        first_is : f.first ≡ ACall n
        first_is =
            let both : f.first ∷ f.rest ≡ ACall n ∷ behind = sym f.waits ∙ p.is in
            cc both

        is : waiting_of f.operation ≡ Some (ACall n)
        is = f.is ∙ ap (λ w. Some w) first_is

        asked_by : (o : Option Sending) → sends s c ≡ o → (u : Option Unsent) → unsent s c ≡ u
            → elim o [ Some y ↦ Some y.operation | None ↦ option_map (λ (v : Unsent). v.operation) u ]
            ≡ Some f.operation
        asked_by o is_sent u is_unsent =
            ap (λ (z : Option Unsent). elim o [
              | Some y ↦ Some y.operation
              | None ↦ option_map (λ (v : Unsent). v.operation) z
            ]) (sym is_unsent)
            ∙ (ap (λ (z : Option Sending). elim z [
              | Some y ↦ Some y.operation
              | None ↦ option_map (λ (v : Unsent). v.operation) (unsent s c)
            ]) (sym is_sent) ∙ f.asked)

        by : (o : Option Sending) → sends s c ≡ o → (u : Option Unsent) → unsent s c ≡ u
            → Line x at waiting further (c ∷ t)
        by (Some y) is_sent u is_unsent =
            let a = asked_by (Some y) is_sent u is_unsent in
            let same : y.operation ≡ f.operation = cc a in
            let r = (sent_now sizes t c y is_sent).runs in
            runs_now f.operation is (r ∙ ap (λ o. Some o) same) (omega (arith, few))
        by None is_sent (Some v) is_unsent =
            let a = asked_by None is_sent (Some v) is_unsent in
            let same : v.operation ≡ f.operation = cc a in
            absurd (unsent_told f.operation is v is_unsent same)
        by None is_sent None is_unsent =
            let a = asked_by None is_sent None is_unsent in absurd (cc a)

    -- it runs
    runs_still : (r : Runs n t) → l.started ≤ waiting + 1 → Line x at waiting further (c ∷ t)
    runs_still r few = by (fate sizes t c (Calling n r.request r.transfer) tt r.running)
      where
        by : Fate sizes t c (Calling n r.request r.transfer) → Line x at waiting further (c ∷ t)
        by (runs_on runs none) =
            let one : one_sent server sizes setup t c ≡ 0 = ap (λ (o : Option Sending). cond (is_some o) 1 0) none in
            let sum = l.sum in
            record {
              sent = sent;
              since = since;
              started = l.started;
              sum = omega (arith, one, sum);
              counted = count_same none;
              line = record {
                place = inr (
                  record { request = r.request; transfer = r.transfer; running = runs },
                  few,
                );
              };
            }
        by (goes_on k q tr next m y same heard asks is_sent op_is runs) =
            let none = heard_no_start s c m heard in
            let one = no_turn t c none in
            let sum = l.sum in
            let number_is : k ≡ n = cc same in
            record {
              sent = sent;
              since = since;
              started = l.started;
              sum = omega (arith, one, sum);
              counted = count_on none;
              line = record {
                place = inr (
                  record {
                    request = q;
                    transfer = next;
                    running = runs
                        ∙ ap (λ (i : ℕ). Some (Calling i q next)) number_is;
                  },
                  few,
                );
              };
            }
        by (ends_it k of_it last none) =
            let number_is : n ≡ k = cc of_it in
            absurd (untold (final_now n t c (subst (λ i. 1 ≤ final_of i (reports s c)) (sym number_is) last)))

    start_or_not : (b : Bool) → starts s c ≡ b → (ahead behind : List Waiting) → Waits n t ahead behind
        → l.started + length ahead ≤ waiting → Line x at waiting further (c ∷ t)
    start_or_not false is ahead behind w few = still ahead behind w few is
    start_or_not true is [] behind w few = its_turn behind w few is
    start_or_not true is (o ∷ ahead) behind w few = moves_up o ahead behind w few is

    pub one_more : Line x at waiting further (c ∷ t)
    one_more = elim l.line.place [
      | inl w ↦ start_or_not (starts s c) refl w.0 w.1 w.2 w.3
      | inr r ↦ runs_still r.0 r.1
    ]

  begins : (x : Taken) (at waiting : ℕ) (t : List Call) (c : Call) → takes c ≡ Some x
      → client.clock server sizes setup (c ∷ t) ≡ at → length (waiting_in sizes t) ≡ waiting
      → Line x at waiting 0 (c ∷ t)
  begins x at waiting t (Calls now r (Ok k)) h is few =
      let e : ◌≡◌ {A = Taken} (record { number = k; request = r }) x = cc h in
      let number_is : k ≡ x.number = ap (λ (y : Taken). y.number) e in
      record {
        sent = 0;
        since = inl (h, is, refl);
        started = 0;
        sum = omega arith;
        counted = λ most some none few. begin server sizes setup most some t (Calls now r (Ok k)) refl;
        line = record {
          place = inl (
            waiting_in sizes t,
            [],
            record { is = ap (λ i. waiting_in sizes t ++ ACall i ∷ []) number_is },
            omega (arith, few),
          );
        };
      }
  begins x at waiting t _ h is few = absurd (cc h)

  pub in_line : (x : Taken) (at waiting further : ℕ) (t : List Call) → Law t
      → TakenBehind server sizes setup x at waiting further t → (IsReported x.number t → ⊥)
      → Line x at waiting further t
  in_line x at waiting _ [] law h untold = absurd h
  in_line x at waiting more (c ∷ t) law (inl h) untold =
      let none = h.3 in
      subst (λ k. Line x at waiting k (c ∷ t)) (sym none) (begins x at waiting t c h.0 h.1 h.2)
  in_line x at waiting more (c ∷ t) law (inr h) untold =
      let l = in_line x at waiting h.0 t (client_back server sizes setup (c ∷ []) t law) h.1
      (λ told. untold (inr told)) in
      subst (λ k. Line x at waiting k (c ∷ t)) (sym h.2) (one_more x at waiting t c law h.0 l untold)

  -- so many requests, at most
  pub few_sent : (x : Taken) (at waiting further : ℕ) (t : List Call) → Line x at waiting further t
      → (sent : ℕ) × TakenSince server sizes setup x at sent t × (sent ≤ 1 + (waiting + further))
  few_sent x at waiting further t l = (l.sent, l.since, by l.line.place)
    where
      sum : l.sent ≤ l.started + further
      sum = l.sum

      by : ((ahead : List Waiting) × (behind : List Waiting) × Waits x.number t ahead behind
          × (l.started + length ahead ≤ waiting)) ⊎ (Runs x.number t × (l.started ≤ waiting + 1))
          → l.sent ≤ 1 + (waiting + further)
      by (inl w) = let few = w.3 in omega (arith, sum, few)
      by (inr r) = let few = r.1 in omega (arith, sum, few)

  -- .. and by the exchanges of each call
  pub few_counted : (x : Taken) (at waiting further : ℕ) (t : List Call) → Line x at waiting further t → (most : ℕ)
      → 1 ≤ most → FetchesNone server sizes setup t → MakeAtMost server sizes setup most t
      → (sent : ℕ) × TakenSince server sizes setup x at sent t × (1 + sent ≤ (2 + waiting) * most)
  few_counted x at waiting further t l most some none few = (l.sent, l.since, by l.line.place)
    where
      all : l.sent + 1 ≤ (1 + l.started) * most
      all = (l.counted most some none few).all

      up_to : l.started ≤ waiting + 1 → 1 + l.sent ≤ (2 + waiting) * most
      up_to le =
          let more : (1 + l.started) * most ≤ (2 + waiting) * most = mul-le-mul_right most (omega (arith, le)) in
          omega (arith, all, more)

      by : ((ahead : List Waiting) × (behind : List Waiting) × Waits x.number t ahead behind
          × (l.started + length ahead ≤ waiting)) ⊎ (Runs x.number t × (l.started ≤ waiting + 1))
          → 1 + l.sent ≤ (2 + waiting) * most
      by (inl w) = let few = w.3 in up_to (omega (arith, few))
      by (inr r) = up_to r.1
