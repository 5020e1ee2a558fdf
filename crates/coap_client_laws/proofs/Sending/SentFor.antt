-- The exchange that runs is that of the request that was sent last, for the operation that runs.
use Rattle.std.proofs.Common.{◌≡◌, inl, inr, ℕ, Option, Some, None, List, refl, ap, sym, ◌∙◌}
use Rattle.coap_types.specs.declared.endpoint.Endpoint.{Endpoint}
use Rattle.coap_layer.specs.declared.setup.Setup.{Setup}
use Rattle.coap_block.specs.Sizes.{Sizes}
use Rattle.coap_exchange.specs.AskerLaw as X
use Rattle.coap_exchange.specs.declared.asker.Exchange.{Exchange}
use Rattle.coap_client.specs.Trace.{Request, Call}
use Rattle.coap_client.specs.Own.{Transfer, Operation, Calling, Registering, Fetching, Cancelling, Dropped}
use Rattle.coap_client.specs.Law.{ClientRows, own_of, lower_of}
use Rattle.coap_client_laws.specs.Follows.Answered.{IsSentFor}
use Rattle.coap_client.specs.Sendings.{Sending, last_sent}
use Rattle.coap_client.proofs.Facts.Places.Once.{beneath, known}
use Rattle.coap_client.proofs.Facts.Places.PlaceEffects.{Linked}
use Rattle.coap_client_laws.proofs.Reporting.Dropped.{if_dropped}
use Rattle.coap_client_laws.proofs.Uploading.SentSoFar.{Tracked, IfTracked}
use Rattle.coap_client_laws.proofs.Uploading.AllSent.{all_sends}

-- what was sent for a call is of the operation that runs
pub sent_call : (op : Operation) (x : Sending) (k : ℕ) (r : Request) (tr : Transfer) → IsSentFor op x
    → x.operation ≡ Calling k r tr → op ≡ Calling k r tr
sent_call (Calling n q u) x k r tr h is = sym h ∙ is
sent_call (Registering n path) x k r tr h is = let e : Registering n path ≡ Calling k r tr = sym h ∙ is in
    absurd (cc e)
sent_call (Fetching n) x k r tr h is = let e : Fetching n ≡ Calling k r tr = sym h ∙ is in absurd (cc e)
sent_call (Cancelling n) x k r tr h is = let e : Cancelling n ≡ Calling k r tr = sym h ∙ is in absurd (cc e)
sent_call Dropped x k r tr h is = let e : Fetching h.0 ≡ Calling k r tr = sym h.1 ∙ is in absurd (cc e)

module _ (sizes : Sizes) (server : Endpoint) (setup : Setup) where
  pub record SentFor (t : List Call) (x : Exchange) : Type 0 where
    pub operation : Operation
    pub runs : (own_of sizes t).running ≡ Some operation
    pub sending : Sending
    pub last : last_sent sizes t ≡ Some sending
    pub is_for : IsSentFor operation sending
    pub token : x.token ≡ sending.token

  module _ (t : List Call) (rows : ClientRows sizes t) (law : X.AskerLaw server setup (lower_of sizes t)) where
    is_for : (op : Operation) → (own_of sizes t).running ≡ Some op
        → (z : Tracked sizes t op (beneath server sizes setup t).running) → IsSentFor op z.sending
    is_for Dropped is z =
        let d = if_dropped sizes server setup t rows law is in
        let both : Some d.sending ≡ Some z.sending = sym d.last ∙ z.last in
        let same : d.sending ≡ z.sending = cc both in
        (d.number, ap (λ (y : Sending). y.operation) (sym same) ∙ d.fetches)
    is_for _ is z = elim z.same [ inl d ↦ absurd (cc d) | inr e ↦ e ]

    pub sent_for : (x : Exchange) → (beneath server sizes setup t).running ≡ Some x → SentFor t x
    sent_for x runs = by (own_of sizes t).running refl (known server sizes setup t rows law).linked
        (all_sends sizes server setup t rows law).tracked
      where
        by : (o : Option Operation) → (own_of sizes t).running ≡ o
            → Linked o (own_of sizes t).observations (beneath server sizes setup t).running
            → IfTracked sizes t o (beneath server sizes setup t).running → SentFor t x
        by None is link z = let none : None ≡ Some x = sym link ∙ runs in absurd (cc none)
        by (Some op) is link z = record {
          operation = op;
          runs = is;
          sending = z.sending;
          last = z.last;
          is_for = is_for op is z;
          token = z.token x runs;
        }
