-- A live observation has the token of its registration, and that of each notification that was taken of it.
use Rattle.std.proofs.Common.{◌≡◌, inr, Some, List, ◌∷◌, ap, sym, ◌∙◌, arith}
use Rattle.coap_types.proofs.Facts.Traces.{by_law, found}
use Rattle.coap_types.specs.Past.{Sometime}
use Rattle.coap_types.specs.declared.endpoint.Endpoint.{Endpoint}
use Rattle.coap_layer.specs.declared.setup.Setup.{Setup}
use Rattle.coap_block.specs.Sizes.{Sizes}
use Rattle.coap_client.specs.Trace.{Call}
use Rattle.coap_client.specs.Own.{Registering}
use Rattle.coap_client.specs.Law.{ClientLaw, own_of}
use Rattle.coap_client_laws.specs.Follows.Live.{HaveTokens, AreWatched}
use Rattle.coap_client_laws.specs.Follows.Newer.{Newly, notifies}
use Rattle.coap_client_laws.specs.Follows.Notified.{WasRegistered, IsTaken}
use Rattle.coap_client.specs.Sendings.{Sending}
use Rattle.coap_client_laws.proofs.Observing.AreThere.{live_where, none_gone}
use Rattle.coap_client_laws.proofs.Observing.Notified.{are_taken, live_or_gone}
use Rattle.coap_client_laws.proofs.Observing.OneToken.{registered}
use Rattle.coap_client_laws.proofs.Observing.Rising.{newest_came}
use Rattle.coap_client_laws.proofs.Observing.StaysLive.{found_in}
use Rattle.coap_client_laws.proofs.Sending.RegisteredOnce.{registered_once}

module _ (server : Endpoint) (sizes : Sizes) (setup : Setup) (t : List Call) (law : ClientLaw server sizes setup t)
  where
    pub have_tokens : HaveTokens sizes t
    have_tokens number path token l =
        let f = found_in number (own_of sizes t).observations l.observation l.found in
        let r = registered server sizes setup t law l.observation f.0 in
        record {
          path = l.observation.path;
          sending = r.sending;
          sent = r.sent;
          registers = r.operation ∙ ap (λ i. Registering i l.observation.path) f.1;
          token_is = r.token_is ∙ l.token_is;
        }

    abbrev Was : Newly → List Call → Type 0
    Was n past = WasRegistered sizes n.number n.message.token past

    was_later : (n : Newly) (c : Call) (past : List Call) → Was n past → Was n (c ∷ past)
    was_later n c past z = record
        { path = z.path; sending = z.sending; sent = inr z.sent; registers = z.registers; token_is = z.token_is }

    was_registered : (n : Newly) → Sometime (λ past c. notifies (own_of sizes past) c ≡ Some n) t → Was n t
    was_registered n came =
        found (λ past c. Was n past) (Was n) (λ c past z. was_later n c past z) (λ past c z. was_later n c past z) t
        (by_law (λ past c. (m : Newly) → notifies (own_of sizes past) c ≡ Some m → IsTaken sizes m past c)
        (λ past c. notifies (own_of sizes past) c ≡ Some n) (λ past c. Was n past)
        (λ past c all is. (all.0 n is).registered) t (are_taken server sizes setup t law) came)

    pub are_watched : AreWatched sizes server setup t
    are_watched x n was is kept none =
        let a = live_or_gone sizes t x.number n is in
        let b = none_gone sizes server setup t x.number kept none in
        let l = live_where sizes server setup t law x was (omega (arith, a, b)) in
        let r = have_tokens x.number x.path l.0 l.1 in
        let came = newest_came sizes t x.number n is in
        let w = was_registered n came.0 in
        let same = registered_once server sizes setup t law r.sending w.sending x.number r.path w.path r.sent w.sent
        r.registers (w.registers ∙ ap (λ i. Registering i w.path) came.1) in
        record {
          observation = l.1.observation;
          found = l.1.found;
          path_is = l.1.path_is;
          token_is = l.1.token_is ∙ (sym r.token_is ∙ (ap (λ (y : Sending). y.token) same ∙ w.token_is));
        }
