-- A value that a client reports begins with a notification that the server made before, of a version of the observed
-- path.
use Rattle.std.proofs.Common.{◌≡◌, ◌≤◌, inl, inr, ℕ, ◌==◌, Bool, true, false, ◌&&◌, Option, Some, None, is_some, List}
use Rattle.std.proofs.Common.{[], ◌∷◌, refl, subst}
use Rattle.std.specs.Cmp.{unsigned_Decides}
use Rattle.coap_types.specs.Past.{Sometime}
use Rattle.coap_types.specs.OptionValues.{value_of}
use Rattle.coap_types.specs.declared.option_number.TheConstants.{OBSERVE as observe}
use Rattle.coap_codec.specs.Message.{Message}
use Rattle.coap_client.specs.Law.{own_of}
use Rattle.coap_client_laws.specs.Follows.Newer.{Newly, notifies}
use Rattle.coap_client_laws.specs.Follows.Notified.{notes, is_newly_of, newest_if, newest, WasRegistered}
use Rattle.coap_client.specs.Responses.{content, said, is_notification}
use Rattle.coap_client.specs.Trace as C
use Rattle.coap_client_laws.proofs.Facts.EachCall.{are_taken}
use Rattle.coap_record.specs.Events.{Config}
use Rattle.coap_record.specs.Record.{Entry, OfClient, OfServer, client_of}
use Rattle.coap_promise.proofs.Any.Requests.OfACall.{Lawful, lawful_back}
use Rattle.coap_promise.proofs.Reports.BodiesHeld.{heard_shown}
use Rattle.coap_promise.proofs.Facts.Reports.FormatsSet.{FormatsIn}
use Rattle.coap_promise.proofs.Reports.Noticed.{noticed}
use Rattle.coap_promise.proofs.Facts.Reports.Shown.{ShownAt, shown_in}
use Rattle.coap_promise.proofs.Facts.Reports.Understood.{noted_understood}

-- a notification is a 2.05
pub notification_code : (m : Message) → is_notification m ≡ true → m.code ≡ content
notification_code m h = by (m.code == content) refl h
  where
    by : (b : Bool) → (m.code == content) ≡ b → (b && is_some (value_of observe (said m))) ≡ true → m.code ≡ content
    by true e h = (unsigned_Decides m.code content).0 e
    by false e h = absurd (cc h)

pub newly_number : (number : ℕ) (n : Newly) (o : Option Newly) → o ≡ Some n → is_newly_of number o ≡ true
    → n.number ≡ number
newly_number number n None is h = absurd (cc is)
newly_number number n (Some x) is h = let same : x
    ≡ n = cc is in subst (λ (z : Newly). z.number ≡ number) same ((unsigned_Decides x.number number).0 h)

module _ (config : Config) (small : config.server_szx ≤ 6) where
  -- here the client takes a notification, of this observation, which the server made before: it shows the version that
  -- the path held then, under the number of that version
  pub record TakesFirst (number : ℕ) (n : Newly) (past : List Entry) (c : C.Call) : Type 0 where
    pub takes : notifies (own_of config.client_sizes (client_of past)) c ≡ Some n
    pub number_is : n.number ≡ number
    pub notification : is_notification n.message ≡ true
    pub registered : WasRegistered config.client_sizes number n.message.token (client_of past)
    pub shown : Sometime (ShownAt config n.message) past

  abbrev pub TakesAt : ℕ → Newly → List Entry → Entry → Type 0
  TakesAt number n past (OfClient c) = TakesFirst number n past c
  TakesAt number n past (OfServer c) = ⊥

  noted_shown : (past : List Entry) (c : C.Call) → Lawful config (OfClient c ∷ past) → FormatsIn past → (m : Message)
      → notes c ≡ Some m → m.code ≡ content → Sometime (ShownAt config m) past
  noted_shown past c law formats m noted code =
      shown_in config m code (noted_understood config.addresses.server config.client_sizes config.client_setup
      (client_of past) c law.client m noted) small past (lawful_back config past (OfClient c) law) formats
      (noticed config past c law m noted)

  pub taken_shown : (number : ℕ) (n : Newly) (past : List Entry) (c : C.Call) → Lawful config (OfClient c ∷ past)
      → FormatsIn past → notifies (own_of config.client_sizes (client_of past)) c ≡ Some n → n.number ≡ number
      → TakesFirst number n past c
  taken_shown number n past c law formats is of =
      let k = (are_taken config.addresses.server config.client_sizes config.client_setup (client_of (OfClient c ∷ past))
      law.client).0 n
      is in
      let code = notification_code n.message k.notification in
      record {
        takes = is;
        number_is = of;
        notification = k.notification;
        registered = subst (λ i. WasRegistered config.client_sizes i n.message.token (client_of past)) of k.registered;
        shown = elim k.comes [
          | inl first ↦ heard_shown config small past c law formats n.message first.heard code
          | inr later ↦ noted_shown past c law formats n.message later.noted code
        ];
      }

  -- the newest notification of an observation was taken so, at some entry
  pub newest_shown : (number : ℕ) (n : Newly) (w : List Entry) → Lawful config w → FormatsIn w
      → newest config.client_sizes number (client_of w) ≡ Some n → Sometime (TakesAt number n) w
  newest_shown number n [] law formats h = absurd (cc h)
  newest_shown number n (OfServer c ∷ past) law formats h =
      inr (newest_shown number n past (lawful_back config past (OfServer c) law) formats.1 h)
  newest_shown number n (OfClient c ∷ past) law formats h =
      by (is_newly_of number (notifies (own_of config.client_sizes (client_of past)) c)) refl h
      (newest_shown number n past (lawful_back config past (OfClient c) law) formats)
    where
      by : (b : Bool) → is_newly_of number (notifies (own_of config.client_sizes (client_of past)) c) ≡ b
          → newest_if (notifies (own_of config.client_sizes (client_of past)) c) b
          (newest config.client_sizes number (client_of past)) ≡ Some n
          → (newest config.client_sizes number (client_of past) ≡ Some n → Sometime (TakesAt number n) past)
          → Sometime (TakesAt number n) (OfClient c ∷ past)
      by true mine is f = inl (taken_shown number n past c law formats is
          (newly_number number n (notifies (own_of config.client_sizes (client_of past)) c) is mine))
      by false mine is f = inr (f is)
