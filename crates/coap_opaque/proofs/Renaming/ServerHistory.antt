-- A history of a server stands in its law with other endpoints in the place of theirs, and leaves the same then.
use Rattle.std.proofs.Common.{◌≡◌, ℕ, List, map, refl, ap, sym, subst, ◌∙◌}
use Rattle.coap_types.specs.declared.endpoint.Endpoint.{Endpoint}
use Rattle.coap_layer.specs.Machine.State as L
use Rattle.coap_layer.specs.Machine.Steps.{left_after}
use Rattle.coap_layer.specs.declared.setup.Setup.{Setup}
use Rattle.coap_resource.specs.Limits.{Limits}
use Rattle.coap_exchange.specs.AnswererLaw as W
use Rattle.coap_exchange.specs.AnswererTrace as E
use Rattle.coap_server.specs.Asks.{lower}
use Rattle.coap_server.specs.Law.{ServerLaw, lower_of, own_of}
use Rattle.coap_server.specs.Led.{State, Step, exchanges_of}
use Rattle.coap_server.specs.Steps.{IsRight, after}
use Rattle.coap_server.specs.Trace.{Call, start}
use Rattle.coap_opaque.specs.Opaque.{ServerIsOpaque}
use Rattle.coap_opaque.specs.Renaming.Endpoints.{TellsApart}
use Rattle.coap_opaque.specs.Renaming.OfExchanges as X
use Rattle.coap_opaque.specs.Renaming.OfServer as S
use Rattle.coap_opaque.proofs.Renaming.AnswererCalls as A
use Rattle.coap_opaque.proofs.Renaming.LayerSteps.{all_left_same}
use Rattle.coap_opaque.proofs.Renaming.ServerCalls.{after_same, lower_same, right_same}
use Rattle.coap_opaque.proofs.Renaming.Stacked as K

pub server_step : (rename : Endpoint → Endpoint) → TellsApart rename → (old new : State) (c : Call) → Step old c new
    → Step (S.state rename old) (S.call rename c) (S.state rename new)
server_step rename apart old new c step = record {
  right = right_same rename apart old.own c step.right;
  own_is = ap (S.own rename) step.own_is ∙ sym (after_same rename apart old.own c);
  under = subst (λ (cs : List E.Call). W.Exchanged (exchanges_of (S.state rename old)) cs
      (exchanges_of (S.state rename new))) (sym (lower_same rename apart old.own c))
      (A.chain_same rename apart (exchanges_of old) (exchanges_of new) (lower old.own c) step.under);
}

module _ (rename : Endpoint → Endpoint) (apart : TellsApart rename) (limits : Limits) (szx : ℕ) where
  own_same : (t : List Call) → own_of limits szx (map (S.call rename) t) ≡ S.own rename (own_of limits szx t)
  own_same t =
      K.sum_same (S.own rename) (S.call rename) after (after_same rename apart) (start limits szx) (start limits szx)
      refl t

  asks_same : (t : List Call)
      → lower_of limits szx (map (S.call rename) t) ≡ map (X.call rename) (lower_of limits szx t)
  asks_same t =
      K.asked_same (S.own rename) (S.call rename) after (after_same rename apart) (start limits szx)
      (start limits szx) refl (X.call rename) lower (lower_same rename apart) t

  pub server_renamed : (setup : Setup) (t : List Call) → ServerLaw limits szx setup t
      → ServerIsOpaque rename limits szx setup t
  server_renamed setup t law =
      let calls : List E.Call = lower_of limits szx t in
      let own = own_same t in
      let layer =
      ap (λ (cs : List E.Call). left_after (L.start setup) (W.lower_of cs)) (asks_same t)
      ∙ (ap (left_after (L.start setup)) (A.asked_same rename apart calls)
      ∙ all_left_same rename apart (L.start setup) (W.lower_of calls)) in
      record {
        law = record {
          rows = K.rows_same (S.own rename) (S.call rename) after (after_same rename apart) (start limits szx)
              (start limits szx) refl IsRight (right_same rename apart) t law.rows;
          exchanges = subst (W.ResponseLaw setup) (sym (asks_same t))
              (A.exchanges_renamed rename apart setup calls law.exchanges);
        };
        left = λ i. record { own = own i; layer = layer i };
      }
