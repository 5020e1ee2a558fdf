-- Where success is reported, a request of the call was applied since the call.
use Rattle.std.proofs.Common.{◌≡◌, ◌≤◌, inl, inr, ℕ, true, false, Some, List, [], ◌∷◌, refl, ap, sym, subst, ◌∙◌}
use Rattle.coap_types.specs.Past.{Sometime, Always}
use Rattle.coap_codec.specs.Message.{Message}
use Rattle.coap_exchange.specs.declared.answerer.Asked.{Asked}
use Rattle.coap_client_laws.specs.Follows.Order.{call_of}
use Rattle.coap_client.specs.Trace as C
use Rattle.coap_client.specs.Sendings.{Taken, WasTaken, Sending}
use Rattle.coap_server.specs.Law.{own_of}
use Rattle.coap_server.specs.Serving.{is_applied}
use Rattle.coap_server.specs.Trace as S
use Rattle.coap_client_laws.proofs.Facts.Laws as client_facts
use Rattle.coap_promise.specs.Answers.{IsAnswer, replies, continues, refuses, notifies, AnswersAt}
use Rattle.coap_record.specs.Events.{Config}
use Rattle.coap_record.specs.Legal.{IsRequest}
use Rattle.coap_record.specs.Record.{Entry, OfClient, OfServer, client_of, server_trace}
use Rattle.coap_promise.specs.Words.{ReportsAt}
use Rattle.coap_promise.proofs.Facts.Reports.Answered.{all_answered}
use Rattle.coap_promise.proofs.Facts.Requests.LastRequests.{of_call_at}
use Rattle.coap_promise.proofs.Any.Requests.OfACall.{Lawful, lawful_back, later_back, one_sending}
use Rattle.coap_client_laws.proofs.Facts.EachCall.{reports_codes}
use Rattle.coap_promise.specs.Done.{AppliesSince, AppliesWith, OnceDone}
use Rattle.coap_promise.proofs.Reports.Codes.{succeeds_applied, refusal_none, notice_none}
use Rattle.coap_promise.proofs.Any.Reports.Located.{LaterAll, SentAll, brought_served}

module _ (config : Config) (number : ℕ) (all : List Entry) (small : config.client_sizes.szx ≤ 6)
    (whole : Lawful config all)
    (in_range : (x : Taken) → WasTaken x (client_of all) → IsRequest x.request) where
  abbrev Later : List Entry → Type 0
  Later t = LaterAll config number all small whole in_range t

  -- the answer to a request of the call
  module _ (m : Message) (s : Sending) (sent : SentAll config number all small whole in_range s)
      (of : call_of s.operation ≡ Some number) (token : s.token ≡ m.token) (success : is_applied m.code ≡ true) where
    not_this : (code : ℕ) → m.code ≡ code → is_applied code ≡ false → ⊥
    not_this code is none = let e : is_applied code ≡ true = ap is_applied (sym is) ∙ success in cc (e, none)

    applies_here : (w : List Entry) (c : S.Call) → Later (OfServer c ∷ w) → Lawful config (OfServer c ∷ w)
        → IsAnswer config m (server_trace config w) c → AppliesWith config number m.code all w (OfServer c)
    applies_here w c later law (replies x is r) =
        let k = brought_served config number all small whole in_range w c later law x is r.to_client in
        let y : Sending = k.origin.sending in
        let y_token : y.token ≡ x.asked.token = sym (ap (λ (a : Asked). a.token) k.origin.asked) in
        let same : y ≡ s = one_sending config number all small whole in_range y s k.origin.sent sent of
        (y_token ∙ (r.token_is ∙ sym token)) in
        let of_it : call_of y.operation ≡ Some number = ap (λ (z : Sending). call_of z.operation) same ∙ of in
        let g = of_call_at config.client_sizes (client_of w)
        (client_facts.of_calls config.client_sizes (client_of w)) y number k.before of_it in
        record {
          since = record {
            applies = record {
              request = x;
              here = is;
              applied = ap is_applied (sym r.code) ∙ success;
              from = r.to_client;
              belongs = (s, sent, of, token ∙ sym r.token_is);
            };
            request = g.request;
            called = g.taken;
          };
          code_is = sym r.code;
        }
    applies_here w c later law (continues x size is more asks r) = absurd (not_this 95 r.code refl)
    applies_here w c later law (refuses a v code comes handed none is r) =
        absurd (not_this code r.code (refusal_none
        (own_of config.limits config.server_szx (server_trace config w)) c law.server.rows.0 code is))
    applies_here w c later law (notifies o reply here made shows so) =
        absurd (not_this _ so.code (notice_none o.szx
        ((own_of config.limits config.server_szx (server_trace config w)).store.holds o.path) _ shows))

    pub applies_in : (w : List Entry) → Later w → Lawful config w → Sometime (AnswersAt config m) w
        → Sometime (AppliesWith config number m.code all) w
    applies_in [] later law h = h
    applies_in (OfClient c ∷ w) later law (inl h) = absurd h
    applies_in (OfServer c ∷ w) later law (inl h) = inl (applies_here w c later law h)
    applies_in (e ∷ w) later law (inr h) = inr (applies_in w
        (later_back config number all small whole in_range e w later) (lawful_back config w e law) h)

  -- whatever its code is
  pub applied_since : (code : ℕ) (w : List Entry) → Sometime (AppliesWith config number code all) w
      → Sometime (AppliesSince config number all) w
  applied_since code [] h = h
  applied_since code (e ∷ w) (inl h) = inl h.since
  applied_since code (e ∷ w) (inr h) = inr (applied_since code w h)

  module _ (code : ℕ) where
    done_here : (w : List Entry) (c : C.Call) → Later (OfClient c ∷ w) → Lawful config (OfClient c ∷ w)
        → ReportsAt config (record { number = number; report = C.Done code }) w (OfClient c)
        → Sometime (AppliesWith config number code all) w
    done_here w c later law made =
        let t : List Entry = OfClient c ∷ w in
        let r = (reports_codes config.addresses.server config.client_sizes config.client_setup (client_of t)
        law.client).0.done number
        code made in
        let before = later_back config number all small whole in_range (OfClient c) w later in
        subst (λ k. Sometime (AppliesWith config number k all) w) r.code_is
        (applies_in r.message r.heard.sending (before.0 r.heard.sending r.heard.sent) r.heard.of_call r.heard.token
        (ap is_applied r.code_is ∙ succeeds_applied r.heard.sending.operation code r.means) w before
        (lawful_back config w (OfClient c) law)
        ((all_answered config t law).0 r.message r.heard.heard))

    done_in : (t : List Entry) → Later t → Lawful config t
        → Always (λ past e. ReportsAt config (record { number = number; report = C.Done code }) past e
        → Sometime (AppliesWith config number code all) past) t
    done_in [] later law = tt
    done_in (OfClient c ∷ w) later law = (
      λ made. done_here w c later law made,
      done_in w (later_back config number all small whole in_range (OfClient c) w later)
          (lawful_back config w (OfClient c) law),
    )
    done_in (OfServer c ∷ w) later law = (
      λ made. absurd made,
      done_in w (later_back config number all small whole in_range (OfServer c) w later)
          (lawful_back config w (OfServer c) law),
    )

pub once_done : (config : Config) (all : List Entry) → config.client_sizes.szx ≤ 6 → Lawful config all
    → ((x : Taken) → WasTaken x (client_of all) → IsRequest x.request) → OnceDone config all
once_done config all small law in_range number code =
    done_in config number all small law in_range code all (λ x h. h, λ con h. h, λ x h. h) law
