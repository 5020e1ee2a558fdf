-- A datagram comes to the exchanges of a server (RFC 7252, sections 4.2 and 4.3).
use Rattle.std.proofs.Common.{◌≡◌, ◌⊎◌, inl, inr, ◌≤◌, ℕ, max, Bool, true, false, Option, Some, None, List, [], ◌∷◌}
use Rattle.std.proofs.Common.{◌++◌, refl, ap, sym, subst, ◌∙◌, cond, arith}
use Rattle.coap_types.specs.declared.endpoint.Endpoint.{Endpoint}
use Rattle.coap_types.specs.declared.message.Kind.TheVariants.{Con, Non}
use Rattle.coap_codec.specs.Message.{Message}
use Rattle.coap_layer.specs.Arrivals.{arrival_at}
use Rattle.coap_layer.specs.Machine.State as S
use Rattle.coap_layer.specs.Machine.State.{is_busy, is_free, sending, next_after, uses_after}
use Rattle.coap_layer.specs.Machine.Steps.{Steps}
use Rattle.coap_layer.specs.Trace as L
use Rattle.coap_layer.specs.Trace.{with_head}
use Rattle.coap_layer.specs.Words.{awaited_of, from_there, handed_by, issued_by, is_kept}
use Rattle.coap_exchange.specs.declared.answerer.Asked.{Asked}
use Rattle.coap_exchange.specs.AnswererTrace as E
use Rattle.coap_exchange.specs.AnswererSteps as P
use Rattle.coap_exchange.specs.AnswererLaw as W
use Rattle.coap_exchange.specs.AnswererLaw.{ResponseLaw}
use Rattle.coap_exchange.specs.AskerRequests.{asked}
use Rattle.coap_exchange.specs.AskerArrivals.{id_in, replying}
use Rattle.coap_exchange.specs.EmptyMessages.{reset_bytes}
use Rattle.coap_layer.proofs.Facts.HandedUp.{spelled}
use Rattle.coap_layer.specs.declared.setup.Setup.{Setup}
use Rattle.coap_exchange.proofs.Facts.AskerGoing.{left_by, answer_by, one_step}
use Rattle.coap_server_laws.proofs.Progress.AnswererGoing.{Takes}
use Rattle.coap_server_laws.proofs.Progress.RequestsKept.{KeptIn, kept_to}

module _ (setup : Setup) (calls : List E.Call) (law : ResponseLaw setup calls) where
  abbrev own : E.Own
  own = W.own_of calls

  abbrev left : S.State
  left = law.left

  -- a datagram arrives
  module _ (at : ℕ) (from : Endpoint) (bytes : List ℕ) (late : own.clock ≤ at) where
    abbrev arrives : L.Call
    arrives = L.Receive from bytes

    abbrev first : S.State
    first = left_by left at arrives

    pub record Receives (up : L.Answer) (came : Option (Asked × Message)) : Type 0 where
      pub law_of : ResponseLaw setup (E.Incoming at from bytes up came ∷ calls)
      pub takes_it : (p : Asked × Message) → came ≡ Some p → Takes law_of.left (max own.clock at) p.0

    received : (up : L.Answer) → up ≡ answer_by left at arrives → S.Step left at arrives up first
    unfolding left_by
    received up right = record { may = tt; right = right; new_is = refl }

    -- nothing is handed up, and nothing is rejected
    passes : (up : L.Answer) → up ≡ answer_by left at arrives → P.reject_by up ≡ None → P.handed_up from up ≡ None
        → Receives up None
    passes up right quiet none = record {
      law_of = record {
        rows = (sym none, law.rows);
        left = first;
        layer = subst (λ o. Steps (S.start setup) ((replying from (id_in up) o ++ asked at arrives up ∷ [])
            ++ W.lower_of calls) first) (sym quiet) (left, law.layer, received up right);
      };
      takes_it = λ p h. absurd (cc h);
    }

    rejects : (m : Message) → L.Becomes (L.Response m) ≡ answer_by left at arrives
        → Receives (L.Becomes (L.Response m)) None
    unfolding left_by
    rejects m right = by (is_kept m.kind) refl
      where
        by : (b : Bool) → is_kept m.kind ≡ b → Receives (L.Becomes (L.Response m)) None
        by false not_kept = passes (L.Becomes (L.Response m)) right
            (ap (λ b. cond b (Some (reset_bytes m.id)) None) not_kept) refl
        by true kept =
            let reply : L.Call = L.Reply from m.id (reset_bytes m.id) in
            let awaits : first.awaits ≡ Some (record { from = from; id = m.id }) =
            ap (λ u. awaited_of (from_there from (handed_by u))) (sym right)
            ∙ ap (λ b. awaited_of (from_there from (cond b (Some m) None))) kept in
            record {
              law_of = record {
                rows = (refl, law.rows);
                left = left_by first 0 reply;
                layer = subst (λ o. Steps (S.start setup)
                    ((replying from m.id o ++ asked at arrives (L.Becomes (L.Response m)) ∷ []) ++ W.lower_of calls)
                    (left_by first 0 reply))
                    (sym (ap (λ b. cond b (Some (reset_bytes m.id)) None) kept)) (
                      first,
                      (left, law.layer, received (L.Becomes (L.Response m)) right),
                      one_step first 0 reply awaits,
                    );
              };
              takes_it = λ p h. absurd (cc h);
            }

    hands_up : (m : Message) → L.Becomes (L.Request m true) ≡ answer_by left at arrives
        → Receives (L.Becomes (L.Request m true)) (Some (P.asked_of from m, m))
    unfolding left_by
    hands_up m right =
        let step = received (L.Becomes (L.Request m true)) right in
        record {
          law_of = record { rows = (refl, law.rows); left = first; layer = (left, law.layer, step) };
          takes_it = λ p h. (let same : ◌≡◌ {A = Asked × Message} (P.asked_of from m, m) p =
              cc h in subst (λ (q : Asked × Message). Takes first (max own.clock at) q.0) same (record {
                awaits = ap (λ u. awaited_of (from_there from (handed_by u))) (sym right);
                kind = by (subst (KeptIn (is_free (max left.clock at) left.upcoming left.last_used)) (sym right)
                    (kept_to left (max left.clock at) from (arrival_at bytes)));
                short = (spelled left first at from bytes (L.Becomes (L.Request m true)) m step refl).token;
              }));
        }
      where
        moment : max first.clock (max own.clock at) ≡ max left.clock at
        moment = omega (arith, late)

        free : is_free (max first.clock (max own.clock at)) first.upcoming first.last_used
            ≡ is_free (max left.clock at) left.upcoming left.last_used
        free =
            ap (λ n. is_free n first.upcoming first.last_used) moment
            ∙ (ap (λ u. is_free (max left.clock at) u first.last_used)
            (sym (ap (λ u. next_after (issued_by (max left.clock at) u) left.upcoming) right))
            ∙ ap (λ us. is_free (max left.clock at) left.upcoming us)
            (sym (ap (λ u. uses_after (issued_by (max left.clock at) u) left.last_used) right)))

        by : (m.kind ≡ Con) ⊎ ((m.kind ≡ Non) × (is_free (max left.clock at) left.upcoming left.last_used ≡ true))
            → (m.kind ≡ Con) ⊎ ((m.kind ≡ Non) × (is_free
            (max first.clock (max own.clock at)) first.upcoming first.last_used ≡ true))
        by (inl con) = inl con
        by (inr non) = inr (non.0, free ∙ non.1)

    pub receives : (up : L.Answer) × (came : Option (Asked × Message)) × Receives up came
    receives = by (answer_by left at arrives) refl
      where
        by : (u : L.Answer) → u ≡ answer_by left at arrives
            → (up : L.Answer) × (came : Option (Asked × Message)) × Receives up came
        by (L.Becomes (L.Request m true)) is = (
          L.Becomes (L.Request m true),
          Some (P.asked_of from m, m),
          hands_up m is,
        )
        by (L.Becomes (L.Response m)) is = (L.Becomes (L.Response m), None, rejects m is)
        by up is = (up, None, passes up is refl refl)
