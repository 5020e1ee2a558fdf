-- A CON of a client that is outstanding is the request of the operation that runs.
use Rattle.std.proofs.Common.{◌≡◌, inl, inr, Option, Some, None, List, [], ◌∷◌, ◌++◌, refl, ap, sym, subst, ◌∙◌}
use Rattle.std.proofs.Common.{option_to_list}
use Rattle.std.specs.List.{filter_map}
use Rattle.coap_types.specs.Past.{Ever}
use Rattle.coap_types.proofs.Facts.Traces.{Ever_append}
use Rattle.coap_types.specs.declared.endpoint.Endpoint.{Endpoint}
use Rattle.coap_layer.specs.Machine.State as S
use Rattle.coap_layer.specs.Machine.Steps.{Asked, left_after, entries}
use Rattle.coap_layer.specs.Rows.{LayerLaw}
use Rattle.coap_layer.specs.Sends.{as_begun, IsOpen}
use Rattle.coap_layer.specs.Trace as L
use Rattle.coap_layer.specs.Words.{Open, begun, left_by, outstanding}
use Rattle.coap_layer.specs.declared.setup.Setup.{Setup}
use Rattle.coap_block.specs.Sizes.{Sizes}
use Rattle.coap_exchange.specs.AskerLaw as X
use Rattle.coap_exchange.specs.AskerFollows.{last_begun}
use Rattle.coap_exchange.specs.Machine.Outstanding.{Lone}
use Rattle.coap_exchange.proofs.Facts.Exchanges.{fits}
use Rattle.coap_client.specs.Trace.{Call}
use Rattle.coap_client.specs.Law.{ClientLaw, own_of, lower_of, layer_of}
use Rattle.coap_client.specs.Sendings.{Sending, sends}
use Rattle.coap_client_laws.specs.Follows.Begins.{WasSent, IsRequestOf}
use Rattle.coap_client_laws.specs.Follows.Adds.{all_asked, call_adds}
use Rattle.coap_client_laws.proofs.Sending.Begun.{layer_next, begins_now}
use Rattle.coap_client_laws.proofs.Turning.Fates.{IsLone}
use Rattle.coap_client.proofs.Facts.Turning.Leading.{client_back, client_layer}
use Rattle.coap_client.proofs.Facts.Places.Once.{known, beneath}
use Rattle.coap_client_laws.proofs.Queueing.OneByOne.{sent_now}
use Rattle.coap_client_laws.proofs.Sending.ExchangeBegins.{left_is}
use Rattle.coap_client.proofs.Facts.Places.PlaceEffects.{Linked}
use Rattle.coap_client_laws.proofs.Turning.LeftRunning.{left_running}
use Rattle.coap_client_laws.proofs.Sending.SendsBegin.{sends_begin}
use Rattle.coap_client_laws.proofs.Sending.StaysOpen.{BeginsTo, open_before, closed_by}

-- what the layer's calls leave outstanding is what their entries say
open_kept : (setup : Setup) (calls : List Asked) → (left_after (S.start setup) calls).open_cons
    ≡ outstanding (entries (S.start setup) calls)
open_kept setup [] = refl
open_kept setup (a ∷ earlier) =
    let e : L.Entry = S.made (left_after (S.start setup) earlier) a.now a.call in
    ap (λ cs. filter_map (left_by e) cs ++ option_to_list (begun e)) (open_kept setup earlier)

module _ (server : Endpoint) (sizes : Sizes) (setup : Setup) where
  -- where nothing runs, nothing is outstanding
  pub none_open : (t : List Call) → ClientLaw server sizes setup t → (own_of sizes t).running ≡ None
      → outstanding (layer_of server sizes setup t) ≡ []
  none_open t law none =
      let calls = lower_of sizes t in
      let f = fits server setup calls law.exchanges.rows law.exchanges.left law.exchanges.layer in
      let k = known server sizes setup t law.rows law.exchanges.rows in
      let rests : (beneath server sizes setup t).running
      ≡ None = subst (λ o. Linked o (own_of sizes t).observations (beneath server sizes setup t).running) none k.linked
      in
      let empty : (law.exchanges.left).open_cons ≡ [] =
      subst (λ r. Lone (X.own_of server setup calls).server r (last_begun server setup calls)
      (law.exchanges.left).open_cons) rests f.lone in
      let left = left_is (S.start setup) law.exchanges.left
      (all_asked server sizes setup t) law.exchanges.layer in
      sym (open_kept setup (all_asked server sizes setup t)) ∙ (ap (λ (s : S.State). s.open_cons) (sym left) ∙ empty)

  -- the request that a CON is, which runs while that is outstanding
  pub record OpenRuns (con : Open) (t : List Call) : Type 0 where
    pub sending : Sending
    pub sent : WasSent sizes sending t
    pub is : IsRequestOf server con sending
    pub runs : IsLone sending.operation → IsOpen (layer_of server sizes setup t) con
        → (own_of sizes t).running ≡ Some sending.operation

  module _ (con : Open) (t : List Call) (c : Call) (law : ClientLaw server sizes setup (c ∷ t)) where
    begins_here : Ever (λ b. begun b ≡ Some con) (call_adds server sizes setup t c) → OpenRuns con (c ∷ t)
    begins_here h = let k = begins_now server sizes setup t c law con h in record {
      sending = k.sending;
      sent = inl k.sends_it;
      is = k.is;
      runs = λ lone o. (sent_now sizes t c k.sending k.sends_it).runs;
    }

    goes_here : Ever (λ b. begun b ≡ Some con) (layer_of server sizes setup t) → OpenRuns con t → OpenRuns con (c ∷ t)
    goes_here there k = record {
      sending = k.sending;
      sent = inr k.sent;
      is = k.is;
      runs = λ lone o. by lone o (sends (own_of sizes t) c) refl;
    }
      where
        adds : List L.Entry
        adds = call_adds server sizes setup t c

        past : List L.Entry
        past = layer_of server sizes setup t

        layer : LayerLaw setup (adds ++ past)
        layer = subst (LayerLaw setup) (layer_next server sizes setup t c)
            (client_layer server sizes setup (c ∷ t) law)

        split : IsOpen (layer_of server sizes setup (c ∷ t)) con → IsOpen (adds ++ past) con
        split o = subst (λ l. IsOpen l con) (layer_next server sizes setup t c) o

        by : IsLone k.sending.operation → IsOpen (layer_of server sizes setup (c ∷ t)) con → (x : Option Sending)
            → sends (own_of sizes t) c ≡ x → (own_of sizes (c ∷ t)).running ≡ Some k.sending.operation
        by lone o (Some x) is = absurd (closed_by setup adds past con layer there
            (subst (λ to. Ever (BeginsTo to) adds) (sym (k.is).to) (sends_begin server sizes setup t c law x is))
            (split o))
        by lone o None is =
            elim (left_running sizes t c k.sending.operation lone
            (k.runs lone (open_before setup adds past con layer there (split o))) is) [
              | inl on ↦ on
              | inr none ↦ absurd (subst (λ cs. Ever (λ y. as_begun y ≡ con) cs) (none_open (c ∷ t) law none) o)
            ]

  pub open_runs : (con : Open) (t : List Call) → ClientLaw server sizes setup t
      → Ever (λ b. begun b ≡ Some con) (layer_of server sizes setup t) → OpenRuns con t
  open_runs con [] law h = absurd h
  open_runs con (c ∷ t) law h =
      elim (Ever_append (λ b. begun b ≡ Some con) (call_adds server sizes setup t c) (layer_of server sizes setup t)
      (subst (Ever (λ b. begun b ≡ Some con)) (layer_next server sizes setup t c) h)) [
        | inl now ↦ begins_here con t c law now
        | inr before ↦ goes_here con t c law before
            (open_runs con t (client_back server sizes setup (c ∷ []) t law) before)
      ]
