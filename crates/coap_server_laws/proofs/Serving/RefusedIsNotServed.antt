-- Nothing is done of a request that is refused.
use Rattle.std.proofs.Common.{◌≡◌, ◌≢◌, ◌⊎◌, inl, inr, ℕ, true, false, Bool, ◌||◌, Some, None, List, [], ◌∷◌}
use Rattle.std.proofs.Common.{refl, sym, subst, cond}
use Rattle.coap_types.specs.OptionValues.{has}
use Rattle.coap_types.specs.Recognised.{lacks_critical}
use Rattle.coap_types.specs.declared.direction.Direction.TheVariants as direction
use Rattle.coap_types.specs.declared.message.Kind.{Kind}
use Rattle.coap_types.specs.declared.message.Kind.TheVariants.{Con}
use Rattle.coap_types.specs.declared.option_number.TheConstants.{PROXY_URI as proxy_uri, PROXY_SCHEME as proxy_scheme}
use Rattle.coap_codec.specs.Message.{Message}
use Rattle.coap_resource.specs.Limits.{Limits}
use Rattle.coap_exchange.specs.declared.answerer.Asked.{Asked}
use Rattle.coap_server.specs.Trace.{Call, Refuses}
use Rattle.coap_server.specs.Checks.{asks, proxying_not_supported}
use Rattle.coap_server.specs.Refusing.{bad_response, refusal}
use Rattle.coap_server.specs.Law.{ServerRows}
use Rattle.coap_server.specs.Follows.Attended.{IsIgnored}
use Rattle.coap_server.specs.Follows.Serves.{refuses}
use Rattle.coap_server.proofs.Facts.Refusing.ErrorsRespond.{response_says}
use Rattle.coap_server_laws.specs.Follows.Refuses.{AllRefused, AnswersError, DoesNothing}

bad_kind : (k : Kind) → bad_response k ≡ None → k ≢ Con
bad_kind k h e = let z : bad_response Con ≡ None = subst (λ x. bad_response x ≡ None) e h in cc z

-- what has no response is ignored
none_ignored : (code : ℕ) (m : Message) → refusal code m ≡ None → IsIgnored m
none_ignored code m h = by (lacks_critical direction.Request m.options)
    (has proxy_uri (asks m) || has proxy_scheme (asks m)) refl h
  where
    by : (b c : Bool) → lacks_critical direction.Request m.options ≡ b
        → cond b (bad_response m.kind) (cond c (Some proxying_not_supported) (Some code)) ≡ None → IsIgnored m
    by true c is k = record { kind = bad_kind m.kind k; option = is }
    by false true is k = absurd (cc k)
    by false false is k = absurd (cc k)

module _ (limits : Limits) (szx : ℕ) where
  abbrev Refused : List Call → Call → Asked × Message → Type 0
  Refused t c p = DoesNothing limits szx t c × (AnswersError limits szx t c p.0 ⊎ IsIgnored p.1)

  here : (t : List Call) (c : Call) → ServerRows limits szx (c ∷ t) → (p : Asked × Message) → refuses c ≡ Some p
      → Refused t c p
  here t (Refuses now from bytes w code up q None below) rows p is =
      let same : q ≡ p = cc is in
      subst (Refused t (Refuses now from bytes w code up q None below)) same (
        record { unserved = refl; store = refl; uploads = refl; observers = refl; waiting = refl; applied = refl },
        inr (none_ignored code q.1 (sym rows.0.is)),
      )
  here t (Refuses now from bytes w code up q (Some n) below) rows p is =
      let same : q ≡ p = cc is in
      subst (Refused t (Refuses now from bytes w code up q (Some n) below)) same (
        record { unserved = refl; store = refl; uploads = refl; observers = refl; waiting = refl; applied = refl },
        inl (record {
          code = n;
          error = (response_says code q.1 (Some n) rows.0 n refl).error;
          sends = inl refl;
        }),
      )
  here t _ rows p is = absurd (cc is)

  pub all_refused : (t : List Call) → ServerRows limits szx t → AllRefused limits szx t
  all_refused [] rows = tt
  all_refused (c ∷ t) rows = (here t c rows, all_refused t rows.1)
