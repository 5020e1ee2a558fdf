-- Where each exchange ends by an answer, each request is sent and nothing is observed, what is reported is the answer
-- to the request that was sent last.
use Rattle.std.proofs.Common.{◌≡◌, inl, inr, ℕ, true, false, Option, Some, None, List, [], ◌∷◌, refl, ap, sym, ◌∙◌}
use Rattle.coap_types.specs.Past.{Always}
use Rattle.coap_codec.specs.Message.{Message}
use Rattle.coap_block.specs.Sizes.{Sizes}
use Rattle.coap_client.specs.Effects.{of}
use Rattle.coap_client_laws.specs.Follows.Begins.{WasSent}
use Rattle.coap_client_laws.specs.Follows.CallsAlone.{NoneIsTaken}
use Rattle.coap_client_laws.specs.Follows.Ends.{ends_as, Unsent, unsent}
use Rattle.coap_client_laws.specs.Follows.OfAnswers.{is_by_answer, MayReport, IsByAnswer}
use Rattle.coap_client_laws.specs.Follows.Order.{call_of}
use Rattle.coap_client.specs.Sendings.{Sending, hears, last_sent, sends}
use Rattle.coap_client.specs.Law.{ClientLaw, own_of}
use Rattle.coap_client.specs.Own.{Transfer, Calling}
use Rattle.coap_client.specs.Steps.{reports}
use Rattle.coap_client.specs.Trace as R
use Rattle.coap_client.specs.Trace.{Report, Request, Call}
use Rattle.coap_client_laws.proofs.Facts.EachCall.{all_ends, calls_alone}
use Rattle.coap_client_laws.proofs.Facts.Exchanges.{are_by_answers}
use Rattle.coap_client_laws.proofs.Facts.Laws as client_facts
use Rattle.coap_record.specs.Events.{Config}

-- what was sent last was sent
pub was_sent : (sizes : Sizes) (x : Sending) (t : List Call) → last_sent sizes t ≡ Some x → WasSent sizes x t
was_sent sizes x [] is = absurd (cc is)
was_sent sizes x (c ∷ t) is = by (sends (own_of sizes t) c) refl is (λ last. was_sent sizes x t last)
  where
    by : (o : Option Sending) → sends (own_of sizes t) c ≡ o
        → elim o [ Some z ↦ Some z | None ↦ last_sent sizes t ] ≡ Some x
        → (last_sent sizes t ≡ Some x → WasSent sizes x t) → WasSent sizes x (c ∷ t)
    by (Some z) here last earlier = inl (here ∙ last)
    by None here last earlier = inr (earlier last)

module _ (config : Config) where
  pub record Answering (t : List Call) : Type 0 where
    pub law : ClientLaw config.addresses.server config.client_sizes config.client_setup t
    pub by_answers : Always (λ past c. ends_as c ≡ None) t
    pub all_sent : Always (λ past c. (u : Unsent) → unsent (own_of config.client_sizes past) c ≡ Some u → ⊥) t
    pub none_taken : NoneIsTaken t

  pub answering_back : (t : List Call) (c : Call) → Answering (c ∷ t) → Answering t
  answering_back t c k = record {
    law = client_facts.back config.addresses.server config.client_sizes config.client_setup (c ∷ []) t k.law;
    by_answers = k.by_answers.1;
    all_sent = k.all_sent.1;
    none_taken = k.none_taken.1;
  }

  module _ (t : List Call) (c : Call) (k : Answering (c ∷ t)) where
    not_so : (number : ℕ) (report : Report) → reports (own_of config.client_sizes t) c ≡ of number report
        → Rattle.coap_client_laws.specs.Follows.CallsAlone.is_of_observation report ≡ false
    not_so number report made =
        (calls_alone config.addresses.server config.client_sizes config.client_setup (c ∷ t) k.law k.none_taken).0.tells
        (record { number = number; report = report }) made

    none_ends : (number : ℕ) (report : Report) → reports (own_of config.client_sizes t) c ≡ of number report
        → Rattle.coap_client_laws.specs.Follows.Ends.is_end report ≡ true → ⊥
    none_ends number report made is =
        let ends = (all_ends config.addresses.server config.client_sizes config.client_setup (c ∷ t) k.law).0.only
        (record { number = number; report = report }) made is in
        let both : None ≡ Some report = sym k.by_answers.0 ∙ ends in cc both

    pub by_answer : (number : ℕ) (report : Report) → reports (own_of config.client_sizes t) c ≡ of number report
        → is_by_answer report ≡ true
    by_answer number (R.Value sequence tag format body) made =
        let e = not_so number (R.Value sequence tag format body) made in absurd (cc e)
    by_answer number (R.Ended code) made = let e = not_so number (R.Ended code) made in absurd (cc e)
    by_answer number R.Cancelled made = let e = not_so number R.Cancelled made in absurd (cc e)
    by_answer number R.Timeout made = absurd (none_ends number R.Timeout made refl)
    by_answer number R.Reset made = absurd (none_ends number R.Reset made refl)
    by_answer number R.NoResponse made = absurd (none_ends number R.NoResponse made refl)
    by_answer number R.NoIds made =
        let u = (all_ends config.addresses.server config.client_sizes config.client_setup (c ∷ t) k.law).0.no_ids number
        made in
        absurd (k.all_sent.0 u.0 u.1)
    by_answer number _ made = refl

    -- the answer, and the request of the call that it answers
    pub record HeardSo (number : ℕ) (report : Report) : Type 0 where
      pub message : Message
      pub heard : hears c ≡ Some message
      pub sending : Sending
      pub sent : WasSent config.client_sizes sending t
      pub of : call_of sending.operation ≡ Some number
      pub token : sending.token ≡ message.token
      pub request : Request
      pub transfer : Transfer
      pub runs : (own_of config.client_sizes t).running ≡ Some (Calling number request transfer)
      pub operation : sending.operation ≡ Calling number request transfer
      pub may : MayReport transfer message report

    pub heard_so : (number : ℕ) (report : Report) → reports (own_of config.client_sizes t) c ≡ of number report
        → HeardSo number report
    heard_so number report made =
        let h : IsByAnswer config.client_sizes number report t c =
        (are_by_answers config.addresses.server config.client_sizes config.client_setup (c ∷ t) k.law).0 number report
        made
        (by_answer number report made) in
        record {
          message = h.message;
          heard = h.heard;
          sending = h.answers.sending;
          sent = was_sent config.client_sizes h.answers.sending t h.answers.last;
          of = ap call_of h.operation;
          token = h.answers.token;
          request = h.request;
          transfer = h.transfer;
          runs = h.runs;
          operation = h.operation;
          may = h.may;
        }
