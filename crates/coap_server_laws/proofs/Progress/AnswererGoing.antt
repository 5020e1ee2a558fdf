-- What stands in the law of a server's exchanges goes on (RFC 7252, sections 4.2, 4.3 and 5.2).
use Rattle.std.proofs.Common.{◌≡◌, ◌⊎◌, inl, inr, ◌≤◌, ℕ, max, true, false, Option, Some, None, List, [], ◌∷◌, ◌++◌}
use Rattle.std.proofs.Common.{length, slice_get, refl, ap, sym, subst, ◌∙◌, cond}
use Rattle.coap_types.specs.declared.endpoint.Endpoint.{Endpoint}
use Rattle.coap_types.specs.declared.message.Kind.{Kind}
use Rattle.coap_types.specs.declared.message.Kind.TheVariants.{Con, Non, Ack, Rst}
use Rattle.coap_layer.specs.Machine.State as S
use Rattle.coap_layer.specs.Machine.State.{is_busy, is_free, sending, next_after, uses_after}
use Rattle.coap_layer.specs.Machine.Steps.{Steps}
use Rattle.coap_layer.specs.Trace as L
use Rattle.coap_layer.specs.Trace.{with_head}
use Rattle.coap_layer.specs.declared.setup.Setup.{Setup}
use Rattle.coap_exchange.specs.declared.answerer.Asked.{Asked}
use Rattle.coap_exchange.specs.declared.separate.Deferred.{Deferred}
use Rattle.coap_exchange.specs.AnswererTrace as E
use Rattle.coap_exchange.specs.AnswererSteps as P
use Rattle.coap_exchange.specs.AnswererLaw as W
use Rattle.coap_exchange.specs.AnswererLaw.{ResponseLaw}
use Rattle.coap_exchange.specs.AskerRequests.{asked}
use Rattle.coap_exchange.specs.EmptyMessages.{ack_bytes}
use Rattle.coap_exchange.proofs.Facts.AskerGoing.{left_by, one_step}

-- the layer takes the response to this request
pub record Takes (s : S.State) (at : ℕ) (a : Asked) : Type 0 where
  pub awaits : s.awaits ≡ Some (record { from = a.from; id = a.id.0 })
  pub kind : (a.kind ≡ Con) ⊎ ((a.kind ≡ Non) × (is_free (max s.clock at) s.upcoming s.last_used ≡ true))
  pub short : length a.token ≤ 8

-- it takes a CON to there
pub record TakesCon (s : S.State) (at : ℕ) (to : Endpoint) : Type 0 where
  pub alone : is_busy to s.open_cons ≡ false
  pub free : is_free (max s.clock at) s.upcoming s.last_used ≡ true

module _ (setup : Setup) (calls : List E.Call) (law : ResponseLaw setup calls) where
  abbrev own : E.Own
  own = W.own_of calls

  abbrev left : S.State
  left = law.left

  pub takes : (answer : Option L.Packet) × ResponseLaw setup (E.Take answer ∷ calls)
  takes = (
    slice_get left.queue 0,
    record {
      rows = (tt, law.rows);
      left = left_by left 0 L.Take;
      layer = (left, law.layer, one_step left 0 L.Take tt);
    },
  )

  -- the response to a request
  pub answers : (a : Asked) (r : E.Response) → own.pending ≡ Some a → P.IsResponse a r → Takes left own.clock a
      → (below : L.Answer) × ResponseLaw setup (E.Answers a r below ∷ calls)
  unfolding left_by
  answers a r pending response may =
      let k = by a.kind may.kind in
      (k.0, record { rows = ((pending, response, k.1), law.rows); left = k.2; layer = (left, law.layer, k.3) })
    where
      by : (kind : Kind) → (kind ≡ Con) ⊎ ((kind ≡ Non)
          × (is_free (max left.clock own.clock) left.upcoming left.last_used ≡ true))
          → (below : L.Answer) × P.IsSentAs kind below × (new : S.State)
          × S.Step left own.clock (P.answering own kind a r) below new
      by Con h = (L.Nothing, refl, _, one_step left own.clock (P.answering own Con a r) may.awaits)
      by Non (inr h) = (
        L.Sent left.upcoming,
        (left.upcoming, refl),
        left_by left own.clock (P.answering own Non a r),
        record { may = response.spelled; right = sym (ap (λ b. sending b left.upcoming) h.1); new_is = refl },
      )
      by Non (inl h) = absurd (cc h)
      by Ack (inl h) = absurd (cc h)
      by Ack (inr h) = (let no = h.0 in absurd (cc no))
      by Rst (inl h) = absurd (cc h)
      by Rst (inr h) = (let no = h.0 in absurd (cc no))

  -- its deferral
  pub defers : (at : ℕ) (a : Asked) (delay : ℕ) → own.pending ≡ Some a → a.kind ≡ Con → P.may_defer own.deferred ≡ true
      → left.awaits ≡ Some (record { from = a.from; id = a.id.0 })
      → ResponseLaw setup (E.Defers at a delay true ∷ calls)
  unfolding left_by
  defers at a delay pending con may awaits =
      let first = left_by left at L.Pass in
      let reply : L.Call = L.Reply a.from a.id.0 (ack_bytes a.id.0) in
      record {
        rows = ((pending, con, sym may), law.rows);
        left = left_by first 0 reply;
        layer = subst (λ b. Steps (S.start setup) ((P.deferring b a ++ asked at L.Pass L.Nothing ∷ [])
            ++ W.lower_of calls) (left_by first 0 reply)) (sym may)
            (first, (left, law.layer, one_step left at L.Pass tt), one_step first 0 reply awaits);
      }

  -- the response to a request that was deferred
  pub responds : (at : ℕ) (a : Asked) (r : E.Response) (w : ℕ) (d : Deferred) → P.ready_at own at ≡ Some d → d.asked ≡ a
      → P.IsResponse a r → TakesCon left at a.from
      → ResponseLaw setup (E.Responds at a r w left.upcoming ∷ calls)
  unfolding left_by
  responds at a r w d ready is response can =
      let call : L.Call = L.Confirm a.from (P.content_of a r) w in
      record {
        rows = (
          (
            ap (λ o. elim o as (λ u. Option Asked) [ Some x ↦ Some x.asked | None ↦ None ]) ready
                ∙ ap (λ x. Some x) is,
            response,
          ),
          law.rows,
        );
        left = left_by left at call;
        layer = (
          left,
          law.layer,
          record {
            may = response.spelled;
            right = sym (ap (λ b. cond b L.Busied (sending
                (is_free (max left.clock at) left.upcoming left.last_used) left.upcoming)) can.alone
                ∙ ap (λ b. sending b left.upcoming) can.free);
            new_is = refl;
          },
        );
      }
