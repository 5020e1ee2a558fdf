-- A record names the call to which a request belongs that is applied.
use Rattle.std.proofs.Common.{◌≡◌, ◌⊎◌, ◌↔◌, inl, inr, ℕ, Bool, true, false, Option, Some, None, List, [], ◌∷◌, refl}
use Rattle.std.proofs.Common.{ap, sym, subst, ◌∙◌}
use Rattle.std.specs.Cmp.Lexicographic.{bytes_decides}
use Rattle.std.specs.Option.{option_map}
use Rattle.coap_types.specs.Past.{Always}
use Rattle.coap_types.specs.SameEndpoint.{same_endpoint}
use Rattle.coap_types.proofs.Facts.Endpoints.{same_endpoint-decides}
use Rattle.coap_exchange.specs.Tokens.{same_token}
use Rattle.coap_exchange.specs.declared.answerer.Asked.{Asked}
use Rattle.coap_block.specs.Sizes.{Sizes}
use Rattle.coap_client_laws.specs.Follows.Begins.{WasSent}
use Rattle.coap_client.specs.Law.{own_of}
use Rattle.coap_client_laws.specs.Follows.Order.{call_of}
use Rattle.coap_client.specs.Own.{Operation, Calling, operation_number}
use Rattle.coap_client_laws.specs.Follows.Tokens.{Deregisters}
use Rattle.coap_client.specs.Trace as C
use Rattle.coap_client.specs.Sendings.{Sending, sends}
use Rattle.coap_server.specs.Serving.{is_applied}
use Rattle.coap_server.specs.Trace as S
use Rattle.coap_server.specs.Follows.Serves.{Serving}
use Rattle.coap_client_laws.proofs.Facts.Laws as client_facts
use Rattle.coap_server_laws.proofs.Facts.Laws as server_facts
use Rattle.coap_record.specs.Events.{Config}
use Rattle.coap_record.specs.Record.{Entry, OfClient, OfServer, client_of, server_trace}
use Rattle.coap_run.specs.Run.Log.{call_if}
use Rattle.coap_world.specs.Run.Named.{EachNamed, named}
use Rattle.coap_run.specs.Run.Senders.{noted, number_if, sender_of, sent_as}
use Rattle.coap_promise.specs.Words.{SentFor, ServesAt}
use Rattle.coap_promise.proofs.Facts.Requests.Belongs.{each_belongs}
use Rattle.coap_promise.proofs.Facts.Requests.OfACall.{Lawful, lawful_back, no_call, no_call_behind}
use Rattle.coap_promise.proofs.Facts.Requests.Traced.{traced, brought_in}
use Rattle.coap_promise.proofs.Facts.Requests.AtAnyTime.{at_any_time}

number_of_call : (op : Operation) (k : ℕ) → call_of op ≡ Some k → operation_number op ≡ Some k
number_of_call (Calling number r t) k is = is
number_of_call _ k is = cc is

noted_other : (token mine : List ℕ) (o before : Option ℕ) → same_token mine token ≡ false
    → noted token (option_map (λ (n : ℕ). record { number = n; token = mine }) o) before ≡ before
noted_other token mine None before other = refl
noted_other token mine (Some n) before other = ap (λ b. number_if b n before) other

noted_here : (token mine : List ℕ) (o before : Option ℕ) (k : ℕ) → same_token mine token ≡ true → o ≡ Some k
    → noted token (option_map (λ (n : ℕ). record { number = n; token = mine }) o) before ≡ Some k
noted_here token mine o before k same is = ap
    (λ o. noted token (option_map (λ (n : ℕ). record { number = n; token = mine }) o) before) is
    ∙ ap (λ b. number_if b k before) same

module _ (config : Config) (all : List Entry) (whole : Lawful config all) where
  -- a token of a call is of one request alone
  one_of :
      (x y : Sending) (k : ℕ) → WasSent config.client_sizes x (client_of all)
      → WasSent config.client_sizes y (client_of all) → call_of y.operation ≡ Some k → x.token ≡ y.token → x ≡ y
  one_of x y k sent there of token = by (client_facts.tokens config.addresses.server config.client_sizes
      config.client_setup
      (client_of all) whole.client x y sent there token)
    where
      by : (x ≡ y) ⊎ (Deregisters x y ⊎ Deregisters y x) → x ≡ y
      by (inl same) = same
      by (inr (inl d)) = absurd (no_call_behind x y k of d)
      by (inr (inr d)) = absurd (no_call y x k of d)

  abbrev After : List C.Call → Type 0
  After t = (x : Sending) → WasSent config.client_sizes x t → WasSent config.client_sizes x (client_of all)

  module _ (s : Sending) (k : ℕ) (of : call_of s.operation ≡ Some k) (token : List ℕ) (token_is : s.token ≡ token) where
    abbrev sizes : Sizes
    sizes = config.client_sizes

    module _ (c : C.Call) (past : List C.Call) (after : After (c ∷ past)) (sent : WasSent sizes s (c ∷ past))
        (rest : WasSent sizes s past → sender_of sizes token past ≡ Some k) where
      by_token : (y : Sending) (b : Bool) → sends (own_of sizes past) c ≡ Some y → same_token y.token token ≡ b
          → noted token (sent_as (Some y)) (sender_of sizes token past) ≡ Some k
      by_token y true is same =
          let y_token : y.token ≡ token = (bytes_decides y.token token).0 same in
          let one : y ≡ s = one_of y s k (after y (inl is)) (after s sent) of (y_token ∙ sym token_is) in
          noted_here token y.token (operation_number y.operation) (sender_of sizes token past) k same
          (ap (λ (z : Sending). operation_number z.operation) one ∙ number_of_call s.operation k of)
      by_token y false is other = noted_other token y.token (operation_number y.operation)
          (sender_of sizes token past) other ∙ before sent
        where
          before : WasSent sizes s (c ∷ past) → sender_of sizes token past ≡ Some k
          before (inl now) =
              let both : Some y ≡ Some s = sym is ∙ now in
              let one : y ≡ s = cc both in
              let same : same_token y.token token ≡ true =
              (bytes_decides y.token token).1 (ap (λ (z : Sending). z.token) one ∙ token_is) in
              absurd (cc (same, other))
          before (inr h) = rest h

      by_sending : (o : Option Sending) → sends (own_of sizes past) c ≡ o → WasSent sizes s (c ∷ past)
          → noted token (sent_as (sends (own_of sizes past) c)) (sender_of sizes token past) ≡ Some k
      by_sending (Some y) is h = ap (λ o. noted token (sent_as o) (sender_of sizes token past)) is
          ∙ by_token y (same_token y.token token) is refl
      by_sending None is (inl now) = cc (is, now)
      by_sending None is (inr h) = ap (λ o. noted token (sent_as o) (sender_of sizes token past)) is ∙ rest h

    sender_is : (t : List C.Call) → After t → WasSent sizes s t → sender_of sizes token t ≡ Some k
    sender_is [] after sent = absurd sent
    sender_is (c ∷ past) after sent = by_sending c past after sent (λ h. sender_is past (λ x g. after x (inr g)) h)
        (sends (own_of sizes past) c) refl sent

  -- the call to which it belongs is the one that is named
  module _ (past : List Entry) (c : S.Call) (after : After (client_of past)) (law : Lawful config (OfServer c ∷ past))
      (x : Serving) (here : ServesAt config x past (OfServer c))
      (belongs : x.asked.from ≡ config.addresses.client → (number : ℕ) × SentFor config number x.asked.token all) where
    is_sent : (m : ℕ) → SentFor config m x.asked.token all → x.asked.from ≡ config.addresses.client
        → sender_of config.client_sizes x.asked.token (client_of past) ≡ Some m
    is_sent m z from =
        let w : List Entry = OfServer c ∷ past in
        let brings = (server_facts.handed config.limits config.server_szx config.server_setup
        (server_trace config w) law.server).0 x here in
        let k = traced config x.asked x.question w law.came from (brought_in config x.asked x.question w brings) in
        let s : Sending = k.came.sending in
        let token : s.token ≡ x.asked.token = sym (ap (λ (a : Asked). a.token) k.came.asked) in
        let one : s ≡ z.0 = one_of s z.0 m (after s k.sent) z.1 z.2 (token ∙ sym z.3) in
        sender_is s m (ap (λ (y : Sending). call_of y.operation) one ∙ z.2) x.asked.token token
        (client_of past) after k.sent

    named_by :
        (b : Bool) → same_endpoint x.asked.from config.addresses.client ≡ b → (number : ℕ)
        → (call_if b (sender_of config.client_sizes x.asked.token (client_of past)) ≡ Some number)
        ↔ ((x.asked.from ≡ config.addresses.client) × SentFor config number x.asked.token all)
    named_by true same number =
        let from : x.asked.from ≡ config.addresses.client = (same_endpoint-decides x.asked.from
        config.addresses.client).0 same in
        let m = belongs from in
        let there = is_sent m.0 m.1 from in (
          λ says. (
            from,
            (let e : Some m.0 ≡ Some number = sym there
                ∙ says in let is : m.0 ≡ number = cc e in subst (λ n. SentFor config n x.asked.token all) is m.1),
          ),
          λ h. is_sent number h.1 from,
        )
    named_by false other number = (
      λ says. cc says,
      λ h. absurd (let same : same_endpoint x.asked.from config.addresses.client
          ≡ true = (same_endpoint-decides x.asked.from config.addresses.client).1 h.0 in cc (same, other)),
    )

  named_in :
      (t : List Entry) → After (client_of t) → Lawful config t
      → Always (λ past e. (x : Serving) → ServesAt config x past e → is_applied x.reply.code ≡ true
      → x.asked.from ≡ config.addresses.client → (number : ℕ) × SentFor config number x.asked.token all) t
      → Always (λ past e. (x : Serving) → ServesAt config x past e → is_applied x.reply.code ≡ true → (number : ℕ)
      → (named config x past ≡ Some number) ↔ ((x.asked.from ≡ config.addresses.client)
      × SentFor config number x.asked.token all)) t
  named_in [] after law belongs = tt
  named_in (OfClient c ∷ past) after law belongs = (
    λ x here applied. absurd here,
    named_in past (λ x h. after x (inr h))
        (lawful_back config past (OfClient c) law) belongs.1,
  )
  named_in (OfServer c ∷ past) after law belongs = (
    λ x here applied. named_by past c after law x here (belongs.0 x here applied)
        (same_endpoint x.asked.from config.addresses.client) refl,
    named_in past after (lawful_back config past (OfServer c) law) belongs.1,
  )

  pub each_named : EachNamed config all
  each_named = named_in all (λ x h. h) whole (each_belongs config all (at_any_time whole))
