-- Each sending of a client's CON is of a call that sends a datagram of its upload, at that moment or later.
use Rattle.std.proofs.Common.{◌≡◌, ◌≤◌, inl, inr, ℕ, true, Some, List, [], ◌∷◌, ap, ◌∙◌}
use Rattle.coap_types.specs.Past.{Ever, Sometime, Always}
use Rattle.coap_types.proofs.Facts.Traces.{Ever_map}
use Rattle.coap_types.specs.declared.endpoint.Endpoint.{Endpoint}
use Rattle.coap_layer.specs.Sends.{IsIn, IsOpen, SendsIt, as_begun}
use Rattle.coap_layer.specs.Trace as L
use Rattle.coap_layer.specs.Words.{Open, begun, outstanding}
use Rattle.coap_layer.proofs.Facts.Sendings.{some_in, was_begun}
use Rattle.coap_layer.specs.declared.setup.Setup.{Setup}
use Rattle.coap_block.specs.Sizes.{Sizes}
use Rattle.coap_client.specs.Trace.{Call}
use Rattle.coap_client.specs.Own.{Operation, Calling, Cancelling}
use Rattle.coap_client.specs.Law.{ClientLaw, own_of, layer_of}
use Rattle.coap_client.specs.Sendings.{Sending}
use Rattle.coap_client_laws.specs.Follows.Begins.{WasSent, IsRequestOf}
use Rattle.coap_client_laws.specs.Follows.Adds.{call_adds}
use Rattle.coap_client_laws.specs.Follows.Holds.{moment, is_upload_of, sends_of, SendsOf}
use Rattle.coap_client_laws.proofs.Sending.Begun.{begins_now}
use Rattle.coap_client_laws.proofs.Turning.Fates.{IsLone}
use Rattle.coap_client.proofs.Facts.Turning.Leading.{client_back}
use Rattle.coap_client_laws.proofs.Sending.ApartLists.{every_in, always_map}
use Rattle.coap_client_laws.proofs.Sending.Moments.{adds_by}
use Rattle.coap_client_laws.proofs.Sending.OpenRuns.{open_runs}
use Rattle.coap_client_laws.proofs.Sending.SendingsOfACon.{Copies, each_sending}

pub lone_upload : (k : ℕ) (op : Operation) → is_upload_of k (Some op) ≡ true → IsLone op
lone_upload k (Calling n r t) h = tt
lone_upload k (Cancelling n) h = tt
lone_upload k _ h = absurd (cc h)

-- a CON that is outstanding was begun
pub open_begun : (t : List L.Entry) (con : Open) → IsOpen t con → Ever (λ b. begun b ≡ Some con) t
open_begun t con o =
    let x = some_in (λ y. as_begun y ≡ con) (outstanding t) o in
    Ever_map (λ b. begun b ≡ Some (as_begun x.0)) (λ b. begun b ≡ Some con) (λ b h. h ∙ ap (λ (c : Open). Some c) x.2) t
    (was_begun t x.0 x.1)

module _ (server : Endpoint) (sizes : Sizes) (setup : Setup) where
  -- a datagram of this upload was sent, no earlier
  abbrev pub SentSince : ℕ → ℕ → List Call → Type 0
  SentSince k at t = Sometime (λ earlier b. SendsOf sizes k earlier b × (at ≤ moment (own_of sizes earlier) b)) t

  pub record SentIn (con : Open) (t : List Call) (e : L.Entry) : Type 0 where
    pub sending : Sending
    pub sent : WasSent sizes sending t
    pub is : IsRequestOf server con sending
    pub when : (k : ℕ) → is_upload_of k (Some sending.operation) ≡ true → SentSince k e.at t

  module _ (con : Open) (t : List Call) (c : Call) (law : ClientLaw server sizes setup (c ∷ t)) where
    abbrev adds : List L.Entry
    adds = call_adds server sizes setup t c

    till : (e : L.Entry) → IsIn e adds → e.at ≤ moment (own_of sizes t) c
    till e i = every_in (λ (x : L.Entry). x.at ≤ moment (own_of sizes t) c) adds e (adds_by server sizes setup t c) i

    first : (e : L.Entry) → IsIn e adds → begun e ≡ Some con → SentIn con (c ∷ t) e
    first e i b =
        let k = begins_now server sizes setup t c law con
        (Ever_map (λ y. y ≡ e) (λ y. begun y ≡ Some con) (λ y h. ap begun h ∙ b) adds i) in
        record {
          sending = k.sending;
          sent = inl k.sends_it;
          is = k.is;
          when = λ n h. inl (inl (ap (sends_of n) k.sends_it ∙ h), till e i);
        }

    again : (e : L.Entry) → IsIn e adds → Copies server sizes setup con t c → SentIn con (c ∷ t) e
    again e i h =
        let k = open_runs server sizes setup con t (client_back server sizes setup (c ∷ []) t law)
        (open_begun (layer_of server sizes setup t) con h.is_open) in
        record {
          sending = k.sending;
          sent = inr k.sent;
          is = k.is;
          when = λ n u. inl (
            inr (
              h.copies,
              ap (is_upload_of n) (k.runs (lone_upload n k.sending.operation u) h.is_open)
                  ∙ u,
            ),
            till e i,
          );
        }

    later : (e : L.Entry) → SentIn con t e → SentIn con (c ∷ t) e
    later e h = record { sending = h.sending; sent = inr h.sent; is = h.is; when = λ n u. inr (h.when n u) }

  pub sent_in : (con : Open) (t : List Call) → ClientLaw server sizes setup t
      → Always (λ p e. SendsIt con p e → SentIn con t e) (layer_of server sizes setup t)
  sent_in con [] law = tt
  sent_in con (c ∷ t) law =
      each_sending server sizes setup con t (SentIn con (c ∷ t)) c law (first con t c law) (again con t c law)
      (always_map (λ p e. SendsIt con p e → SentIn con t e) (λ p e. SendsIt con p e → SentIn con (c ∷ t) e)
      (λ p e f s. later con t c law e (f s)) (layer_of server sizes setup t)
      (sent_in con t (client_back server sizes setup (c ∷ []) t law)))
