-- A client that takes on one observation alone: what its calls send, take and open for it (RFC 7641, sections 3.1, 3.2
-- and 3.6).
use Rattle.std.proofs.Common.{◌≡◌, inl, inr, ℕ, Bool, true, false, Option, Some, None, List, [], ◌∷◌}
use Rattle.std.proofs.Common.{◌++◌, refl, ap, sym, ◌∙◌}
use Rattle.coap_types.specs.declared.endpoint.Endpoint.{Endpoint}
use Rattle.coap_layer.specs.declared.setup.Setup.{Setup}
use Rattle.coap_codec.specs.Message.{Message}
use Rattle.coap_block.specs.Sizes.{Sizes}
use Rattle.coap_exchange.specs.declared.asker.Event.TheVariants as event_is
use Rattle.coap_client_laws.specs.Follows.Answered.{IsSentFor}
use Rattle.coap_client_laws.specs.Follows.Begins.{WasSent}
use Rattle.coap_client_laws.specs.Follows.Newer.{Newly, notifies}
use Rattle.coap_client_laws.specs.Follows.Notified.{is_newly_of, newest, newest_if, notes}
use Rattle.coap_client_laws.specs.Follows.OfObservations.{AreOfObservations, observation_for, WasObserved}
use Rattle.coap_client_laws.specs.Follows.Tokens.{Deregisters, OwnTokens}
use Rattle.coap_client.specs.Sendings.{Sending, hears, sends, last_sent}
use Rattle.coap_client.specs.Law.{own_of}
use Rattle.coap_client.specs.Own.{Operation, Registering, Cancelling, Dropped}
use Rattle.coap_client.specs.Trace as C
use Rattle.coap_client.specs.Trace.{Ended, Report, Reported, is_value}
use Rattle.coap_record.specs.Record.{Entry, OfClient, OfServer, client_of}
use Rattle.coap_smooth.proofs.Smoothly.Answers.ExchangeOpen.{OpenOf}
use Rattle.coap_promise.proofs.Facts.Reports.ValuesShown.{newly_number}

pub one_sending : (a b : Sending) → Some a ≡ Some b → a ≡ b
one_sending a b h = cc h

-- what was sent last was sent
pub last_there : (sizes : Sizes) (s : Sending) (t : List C.Call) → last_sent sizes t ≡ Some s → WasSent sizes s t
last_there sizes s [] h = absurd (cc h)
last_there sizes s (c ∷ t) h = by (sends (own_of sizes t) c) refl h (last_there sizes s t)
  where
    by : (o : Option Sending) → sends (own_of sizes t) c ≡ o
        → elim o as (λ w. Option Sending) [ Some y ↦ Some y | None ↦ last_sent sizes t ] ≡ Some s
        → (last_sent sizes t ≡ Some s → WasSent sizes s t) → WasSent sizes s (c ∷ t)
    by (Some y) is k older = inl (is ∙ k)
    by None is k older = inr (older k)

-- for which operation a request is sent that registers, and that cancels

pub registers_so : (op : Operation) (s : Sending) (n : ℕ) (p : List (List ℕ)) → IsSentFor op s → s.operation
    ≡ Registering n p
    → op ≡ Registering n p
registers_so (Registering number path) s n p h k = sym h ∙ k
registers_so Dropped s n p h k = let z = sym h.1 ∙ k in absurd (cc z)
registers_so _ s n p h k = let z = sym h ∙ k in absurd (cc z)

pub cancels_so : (op : Operation) (s : Sending) (n : ℕ) → IsSentFor op s → s.operation ≡ Cancelling n → op
    ≡ Cancelling n
cancels_so (Cancelling number) s n h k = sym h ∙ k
cancels_so Dropped s n h k = let z = sym h.1 ∙ k in absurd (cc z)
cancels_so _ s n h k = let z = sym h ∙ k in absurd (cc z)

-- where the first notification was taken
pub record FirstTaken (sizes : Sizes) (number : ℕ) (later t : List C.Call) : Type 0 where
  pub newer : List C.Call
  pub call : C.Call
  pub mid : List C.Call
  pub split : later ≡ newer ++ call ∷ mid
  pub taken : Newly
  pub takes : notifies (own_of sizes (mid ++ t)) call ≡ Some taken
  pub number_is : taken.number ≡ number
  pub none : newest sizes number (mid ++ t) ≡ None

pub first_taken : (sizes : Sizes) (number : ℕ) (n : Newly) (later t : List C.Call) → newest sizes number (later ++ t)
    ≡ Some n
    → newest sizes number t ≡ None → FirstTaken sizes number later t
first_taken sizes number n [] t h none = let z = sym h ∙ none in absurd (cc z)
first_taken sizes number n (c ∷ later) t h none =
    by (newest sizes number (later ++ t)) refl
    (λ m k. first_taken sizes number m later t k none)
  where
    new : (b : Bool) → is_newly_of number (notifies (own_of sizes (later ++ t)) c) ≡ b
        → newest_if (notifies (own_of sizes (later ++ t)) c) b (newest sizes number (later ++ t)) ≡ Some n
        → newest sizes number (later ++ t) ≡ None → FirstTaken sizes number (c ∷ later) t
    new true mine is older = record {
      newer = [];
      call = c;
      mid = later;
      split = refl;
      taken = n;
      takes = is;
      number_is = newly_number number n (notifies (own_of sizes (later ++ t)) c) is mine;
      none = older;
    }
    new false mine is older = let z = sym is ∙ older in absurd (cc z)

    by : (o : Option Newly) → newest sizes number (later ++ t) ≡ o
        → ((m : Newly) → newest sizes number (later ++ t) ≡ Some m → FirstTaken sizes number later t)
        → FirstTaken sizes number (c ∷ later) t
    by (Some m) is f =
        let k = f m is in
        record {
          newer = c ∷ k.newer;
          call = k.call;
          mid = k.mid;
          split = ap (λ l. c ∷ l) k.split;
          taken = k.taken;
          takes = k.takes;
          number_is = k.number_is;
          none = k.none;
        }
    by None is f = new (is_newly_of number (notifies (own_of sizes (later ++ t)) c)) refl h is

-- what registers was observed
pub observed_of : (sizes : Sizes) (number : ℕ) (p : List (List ℕ)) (s : Sending) (t : List C.Call)
    → AreOfObservations sizes t
    → s.operation ≡ Registering number p → WasSent sizes s t
    → (path : List (List ℕ)) × WasObserved (record { number = number; path = path }) t
observed_of sizes number p s [] observed is h = absurd h
observed_of sizes number p s (c ∷ t) observed is (inl h) =
    let k = observed.0 s number h (ap observation_for is) in (k.path, inr k.taken)
observed_of sizes number p s (c ∷ t) observed is (inr h) =
    let k = observed_of sizes number p s t observed.1 is h in (k.0, inr k.1)

-- what is heard is not noted
pub not_both : (c : C.Call) (m k : Message) → hears c ≡ Some k → notes c ≡ Some m → ⊥
not_both (C.Feeds at from bytes word up settled (Some (event_is.Answer y)) sent token kept) m k h n = cc n
not_both _ m k h n = cc h

-- what is open was opened before these calls, where none of them opens it
pub opened_before : (server : Endpoint) (sizes : Sizes) (setup : Setup) (at : ℕ) (first s : Sending)
    (xs t : List C.Call)
    → OwnTokens sizes (xs ++ t) → WasSent sizes first t → first.token ≡ s.token → (Deregisters first s → ⊥)
    → OpenOf server sizes setup at s (xs ++ t) → OpenOf server sizes setup at s t
opened_before server sizes setup at first s [] t own sent same not o = o
opened_before server sizes setup at first s (b ∷ xs) t own sent same not (inl o) =
    absurd (not (own.0 s first o.0 (more xs) same))
  where
    more : (ys : List C.Call) → WasSent sizes first (ys ++ t)
    more [] = sent
    more (y ∷ ys) = inr (more ys)
opened_before server sizes setup at first s (b ∷ xs) t own sent same not (inr o) =
    opened_before server sizes setup at first s xs t own.1 sent same not o.3

pub client_append : (later es : List Entry) → client_of (later ++ es) ≡ client_of later ++ client_of es
client_append [] es = refl
client_append (OfClient c ∷ later) es = ap (λ l. c ∷ l) (client_append later es)
client_append (OfServer c ∷ later) es = client_append later es
