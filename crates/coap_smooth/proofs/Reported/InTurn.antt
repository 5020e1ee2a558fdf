-- Where a call is that was taken: it waits behind fewer than before, or runs, or is reported; and how many requests
-- were sent since.
use Rattle.std.proofs.Common.{◌≡◌, ◌⊎◌, inl, inr, ◌≤◌, ℕ, ◌+◌, Bool, true, false, cond, ◌&&◌, Option, Some, None}
use Rattle.std.proofs.Common.{is_some}
use Rattle.std.proofs.Common.{List, [], ◌∷◌, ◌++◌, length, refl, ap, sym, subst, ◌∙◌, arith, append_assoc}
use Rattle.coap_types.specs.Past.{Always}
use Rattle.coap_codec.specs.Message.{Message}
use Rattle.coap_client_laws.specs.Follows.Answered.{HasReport}
use Rattle.coap_client_laws.specs.Follows.Clock.{moment_of}
use Rattle.coap_client_laws.specs.Follows.Ends.{ends_as}
use Rattle.coap_client_laws.specs.Follows.Open.{IsOpenSince}
use Rattle.coap_client.specs.Sendings.{Sending, sends, hears}
use Rattle.coap_client.specs.Law.{own_of}
use Rattle.coap_client.specs.Own.{Transfer, Operation, Calling, Own}
use Rattle.coap_client.specs.Trace.{Request, Call}
use Rattle.coap_record.specs.Events.{Config}
use Rattle.coap_smooth.specs.Reported.{is_further, further_in}
use Rattle.coap_smooth.proofs.Reported.Leaves.{Plain, Leaves, same, begins, goes_on, is_over, Quietly, leaves}

-- the call of a number waits, behind some; or it runs

pub record Waits (number : ℕ) (s : Own) (sent most : ℕ) : Type 0 where
  pub ahead : List Operation
  pub behind : List Operation
  pub request : Request
  pub transfer : Transfer
  pub queue : s.queue ≡ ahead ++ Calling number request transfer ∷ behind
  pub few : sent + length ahead ≤ most

pub record RunsNow (number : ℕ) (s : Own) (sent most : ℕ) : Type 0 where
  pub request : Request
  pub transfer : Transfer
  pub running : s.running ≡ Some (Calling number request transfer)
  pub few : sent ≤ 1 + most

abbrev pub InTurn : ℕ → Own → (sent most : ℕ) → Type 0
InTurn number s sent most = Waits number s sent most ⊎ RunsNow number s sent most

pub in_all : (number : ℕ) (s : Own) (sent most : ℕ) → InTurn number s sent most → sent ≤ 1 + most
in_all number s sent most (inl w) = let few = w.few in omega (arith, few)
in_all number s sent most (inr r) = r.few

unchanged : (a : ℕ) → a ≡ 0 + a
unchanged a = omega arith

together : (a b c : ℕ) → a + (b + c) ≡ (a + b) + c
together a b c = omega arith

module _ (config : Config) where
  abbrev own : List Call → Own
  own t = own_of config.client_sizes t

  -- how many requests these calls send, behind those before
  abbrev pub one_sent : List Call → Call → ℕ
  one_sent past c = cond (is_some (sends (own past) c)) 1 0

  abbrev pub sent_in : List Call → List Call → ℕ
  sent_in [] before = 0
  sent_in (c ∷ later) before = one_sent (later ++ before) c + sent_in later before

  abbrev pub IsReported : ℕ → List Call → Type 0
  IsReported number t = HasReport config.addresses.server config.client_sizes config.client_setup number t

  abbrev one_further : List Call → Call → ℕ
  one_further past c = cond (is_further config past c) 1 0

  some_sent : (past : List Call) (c : Call) (x : Sending) → sends (own past) c ≡ Some x → one_sent past c ≡ 1
  some_sent past c x is = ap (λ (o : Option Sending). cond (is_some o) 1 0) is

  none_sent : (past : List Call) (c : Call) → sends (own past) c ≡ None → one_sent past c ≡ 0
  none_sent past c is = ap (λ (o : Option Sending). cond (is_some o) 1 0) is

  a_further : (past : List Call) (c : Call) (x : Sending) (m : Message) → sends (own past) c ≡ Some x → hears c ≡ Some m
      → one_further past c ≡ 1
  a_further past c x m is heard =
      ap (λ (o : Option Message). cond (is_some o && is_some (sends (own past) c)) 1 0) heard
      ∙ ap (λ (o : Option Sending). cond (is_some o) 1 0) is

  -- one call
  step : (number sent most : ℕ) (past : List Call) (c : Call) → Leaves config.client_sizes past c
      → InTurn number (own past) sent most
      → InTurn number (own (c ∷ past)) (one_sent past c + sent) (one_further past c + most)
      ⊎ IsReported number (c ∷ past)
  step number sent most past c (same more queue running none quiet) (inl w) =
      let n = none_sent past c none in
      let few = w.few in
      inl (inl (record {
        ahead = w.ahead;
        behind = w.behind ++ more;
        request = w.request;
        transfer = w.transfer;
        queue = queue ∙ (ap (λ l. l ++ more) w.queue
            ∙ append_assoc w.ahead (Calling number w.request w.transfer ∷ w.behind) more);
        few = omega (arith, n, few);
      }))
  step number sent most past c (same more queue running none quiet) (inr r) =
      let n = none_sent past c none in
      let few = r.few in
      inl (inr (record {
        request = r.request;
        transfer = r.transfer;
        running = running ∙ r.running;
        few = omega (arith, n, few);
      }))
  step number sent most past c (begins op x none first runs out) (inr r) =
      let k = sym none ∙ r.running in absurd (cc k)
  step number sent most past c (begins op x none first runs out) (inl w) =
      by w.ahead (sym first ∙ w.queue) w.few
    where
      by : (ahead : List Operation)
          → op ∷ (own (c ∷ past)).queue ≡ ahead ++ Calling number w.request w.transfer ∷ w.behind
          → sent + length ahead ≤ most
          → InTurn number (own (c ∷ past)) (one_sent past c + sent) (one_further past c + most)
          ⊎ IsReported number (c ∷ past)
      by [] is few =
          let n = some_sent past c x out in
          let head : op ≡ Calling number w.request w.transfer = cc is in
          inl (inr (record {
            request = w.request;
            transfer = w.transfer;
            running = runs ∙ ap (λ (o : Operation). Some o) head;
            few = omega (arith, n, few);
          }))
      by (o ∷ ahead) is few =
          let n = some_sent past c x out in
          let one : length (o ∷ ahead) ≡ length ahead + 1 = omega arith in
          let tail : (own (c ∷ past)).queue ≡ ahead ++ Calling number w.request w.transfer ∷ w.behind = cc is in
          inl (inl (record {
            ahead = ahead;
            behind = w.behind;
            request = w.request;
            transfer = w.transfer;
            queue = tail;
            few = omega (arith, n, few, one);
          }))
  step number sent most past c (goes_on k r t next x m run queue runs out heard) (inl w) =
      let n = some_sent past c x out in
      let f = a_further past c x m out heard in
      let few = w.few in
      inl (inl (record {
        ahead = w.ahead;
        behind = w.behind;
        request = w.request;
        transfer = w.transfer;
        queue = queue ∙ w.queue;
        few = omega (arith, n, f, few);
      }))
  step number sent most past c (goes_on k r t next x m run queue runs out heard) (inr now) =
      let n = some_sent past c x out in
      let f = a_further past c x m out heard in
      let few = now.few in
      let both : Some (Calling k r t) ≡ Some (Calling number now.request now.transfer) = sym run ∙ now.running in
      let one : Calling k r t ≡ Calling number now.request now.transfer = cc both in
      let number_is : k ≡ number = cc one in
      inl (inr (record {
        request = r;
        transfer = next;
        running = runs ∙ ap (λ (i : ℕ). Some (Calling i r next)) number_is;
        few = omega (arith, n, f, few);
      }))
  step number sent most past c (is_over k r t report run queue none made last over) (inl w) =
      let n = none_sent past c none in
      let few = w.few in
      inl (inl (record {
        ahead = w.ahead;
        behind = w.behind;
        request = w.request;
        transfer = w.transfer;
        queue = queue ∙ w.queue;
        few = omega (arith, n, few);
      }))
  step number sent most past c (is_over k r t report run queue none made last over) (inr now) =
      let both : Some (Calling k r t) ≡ Some (Calling number now.request now.transfer) = sym run ∙ now.running in
      let one : Calling k r t ≡ Calling number now.request now.transfer = cc both in
      let number_is : k ≡ number = cc one in
      inr (inl (record { number = k; report = report }, number_is, record { made = made; final = last }))

  -- calls at which each is made so
  abbrev pub AreQuiet : List Call → Type 0
  AreQuiet t = Always (Quietly config.client_sizes) t

  further_one : (later before : List Call) (c : Call)
      → further_in config (c ∷ later) before ≡ one_further (later ++ before) c + further_in config later before
  further_one later before c = by (is_further config (later ++ before) c)
    where
      by : (b : Bool) → cond b (1 + further_in config later before) (further_in config later before)
          ≡ cond b 1 0 + further_in config later before
      by true = refl
      by false = omega arith

  -- counted together
  moved : (number sent most : ℕ) (later before : List Call) (c : Call)
      → InTurn number (own (c ∷ (later ++ before))) (one_sent (later ++ before) c + (sent_in later before + sent))
      (one_further (later ++ before) c + (further_in config later before + most))
      → InTurn number (own (c ∷ (later ++ before))) (sent_in (c ∷ later) before + sent)
      (further_in config (c ∷ later) before + most)
  moved number sent most later before c n =
      let a : one_sent (later ++ before) c + (sent_in later before + sent) ≡ sent_in (c ∷ later) before + sent =
      together (one_sent (later ++ before) c) (sent_in later before) sent in
      let b : one_further (later ++ before) c + (further_in config later before + most)
      ≡ further_in config (c ∷ later) before + most =
      together (one_further (later ++ before) c) (further_in config later before) most
      ∙ ap (λ (z : ℕ). z + most) (sym (further_one later before c)) in
      subst (λ (z : ℕ). InTurn number (own (c ∷ (later ++ before))) z (further_in config (c ∷ later) before + most)) a
      (subst (λ (z : ℕ). InTurn number (own (c ∷ (later ++ before)))
      (one_sent (later ++ before) c + (sent_in later before + sent)) z) b n)

  pub go_on : (number sent most : ℕ) (later before : List Call) → AreQuiet (later ++ before) → Plain (own before)
      → InTurn number (own before) sent most
      → Plain (own (later ++ before))
      × (InTurn number (own (later ++ before)) (sent_in later before + sent) (further_in config later before + most)
      ⊎ IsReported number (later ++ before))
  go_on number sent most [] before quiet plain turn = (
    plain,
    inl (subst (λ (z : ℕ). InTurn number (own before) z (0 + most)) (unchanged sent)
        (subst (λ (z : ℕ). InTurn number (own before) sent z) (unchanged most) turn)),
  )
  go_on number sent most (c ∷ later) before quiet plain turn =
      let k = go_on number sent most later before quiet.1 plain turn in
      let l = leaves config.client_sizes (later ++ before) c quiet.0 k.0 in
      (l.plain, by l.leaves k.1)
    where
      by : Leaves config.client_sizes (later ++ before) c
          → InTurn number (own (later ++ before)) (sent_in later before + sent) (further_in config later before + most)
          ⊎ IsReported number (later ++ before)
          → InTurn number (own (c ∷ (later ++ before))) (sent_in (c ∷ later) before + sent)
          (further_in config (c ∷ later) before + most) ⊎ IsReported number (c ∷ (later ++ before))
      by l (inr told) = inr (inr told)
      by l (inl now) =
          elim (step number (sent_in later before + sent) (further_in config later before + most) (later ++ before) c l
          now) [
            | inr told ↦ inr told
            | inl n ↦ inl (moved number sent most later before c n)
          ]

  -- from the beginning on nothing is observed, and no upload is held back
  pub plain_of : (t : List Call) → AreQuiet t → Plain (own t)
  plain_of [] quiet = record { none = refl; hold = refl }
  plain_of (c ∷ t) quiet = (leaves config.client_sizes t c quiet.0 (plain_of t quiet.1)).plain

  -- where a call runs its exchange is open

  abbrev pub IsLinked : List Call → Type 0
  IsLinked t = (op : Operation) → (own t).running ≡ Some op → (at : ℕ) × IsOpenSince config.client_sizes at t

  link : (past : List Call) (c : Call) → Leaves config.client_sizes past c → ends_as c ≡ None → IsLinked past
      → IsLinked (c ∷ past)
  link past c (same more queue running none quiet) ends k op is =
      let o = k op (sym running ∙ is) in (o.0, inr (heard quiet, ends, o.1))
    where
      heard : ((own past).running ≡ None) ⊎ (hears c ≡ None) → hears c ≡ None
      heard (inl n) = let z = sym n ∙ (sym running ∙ is) in absurd (cc z)
      heard (inr h) = h
  link past c (begins first x none queue runs out) ends k op is =
      (moment_of (own past) c, inl (record { sending = x; sends_it = out; moment = refl }))
  link past c (goes_on number r t next x m run queue runs out heard) ends k op is =
      (moment_of (own past) c, inl (record { sending = x; sends_it = out; moment = refl }))
  link past c (is_over number r t report run queue none made last over) ends k op is =
      let z = sym over ∙ is in absurd (cc z)

  pub linked_of : (t : List Call) → AreQuiet t → IsLinked t
  linked_of [] quiet = λ op is. absurd (cc is)
  linked_of (c ∷ t) quiet =
      link t c (leaves config.client_sizes t c quiet.0 (plain_of t quiet.1)).leaves quiet.0.by_answer
      (linked_of t quiet.1)
