-- Smooth runs, and what was before a position of one.
use Rattle.std.proofs.Common.{◌≡◌, ◌⊎◌, inl, inr, ℕ, List, [], ◌∷◌, ◌++◌, refl, ap, sym}
use Rattle.std.proofs.Common.{◌∙◌, arith}
use Rattle.coap_types.proofs.Facts.Traces.{Always_back}
use Rattle.coap_client_laws.specs.Follows.Begins.{WasSent}
use Rattle.coap_client_laws.specs.Follows.Notified.{WasRegistered}
use Rattle.coap_client.specs.Sendings.{Sending}
use Rattle.coap_smooth.specs.Current.{Watches}
use Rattle.coap_record.specs.Events.{Config}
use Rattle.coap_record.specs.Record.{Entry, OfClient, OfServer, Turn, entries_of, client_of, server_of}
use Rattle.coap_record.specs.Record.{server_trace}
pub use Rattle.coap_smooth.proofs.Watching.Values.Known.{SmoothRun}
use Rattle.coap_promise.proofs.Facts.Requests.OfACall.{Lawful, lawful_back}
use Rattle.coap_promise.proofs.Facts.Requests.Promised.{lawful}
use Rattle.coap_promise.proofs.Facts.Requests.Traced.{sent_later}
use Rattle.coap_smooth.proofs.Smoothly.Arriving.AllTaken.{Goes, goes_before}
use Rattle.coap_smooth.proofs.Smoothly.Answers.ConsOfOpen.{calls_before}
use Rattle.coap_smooth.proofs.Watching.Values.HeldVersions.{fewer_before}
use Rattle.coap_smooth.proofs.Smoothly.MessageIds.FewBefore.{told_before}
use Rattle.coap_smooth.proofs.Smoothly.Ticks.NothingIsLeft.{Stands, before, record_of, stands}

-- Of two lists one behind the other, an entry is in the one or in the other.
pub record InFirst {E : Type 0} (xs ys a : List E) (e : E) (b : List E) : Type 0 where
  pub between : List E
  pub first : xs ≡ a ++ e ∷ between
  pub rest : b ≡ between ++ ys

pub record InSecond {E : Type 0} (ys : List E) (e : E) (b : List E) : Type 0 where
  pub after : List E
  pub second : ys ≡ after ++ e ∷ b

pub in_either : {E : Type 0} (xs ys a : List E) (e : E) (b : List E) → xs ++ ys ≡ a ++ e ∷ b
    → InFirst xs ys a e b ⊎ InSecond ys e b
in_either [] ys a e b h = inr (record { after = a; second = h })
in_either {E} (x ∷ xs) ys [] e b h =
    let head : x ≡ e = cc h in
    let tail : xs ++ ys ≡ b = cc h in
    inl (record { between = xs; first = ap (λ (z : E). z ∷ xs) head; rest = sym tail })
in_either {E} (x ∷ xs) ys (z ∷ a) e b h =
    let head : x ≡ z = cc h in
    let tail : xs ++ ys ≡ a ++ e ∷ b = cc h in
    elim (in_either xs ys a e b tail) [
      | inl k ↦ inl (record {
        between = k.between;
        first = ap (λ l. x ∷ l) k.first ∙ ap (λ (w : E). w ∷ (a ++ e ∷ k.between)) head;
        rest = k.rest;
      })
      | inr k ↦ inr k
    ]

module _ (config : Config) where
  pub stands_of : (turns : List Turn) → SmoothRun config turns → Stands config turns
  stands_of turns r = stands config _ turns r.run r.legal r.smooth.smooth

  pub lawful_of : (turns : List Turn) → SmoothRun config turns → Lawful config (entries_of turns)
  lawful_of turns r = lawful config _ turns r.run r.legal

  pub goes_of : (turns : List Turn) → SmoothRun config turns → Goes config turns
  goes_of turns r = record {
    stands = stands_of turns r;
    few_client = r.smooth.smooth.few_to_client;
    few_server = r.smooth.smooth.few_to_server;
  }

  pub run_before : (turn : Turn) (past : List Turn) → SmoothRun config (turn ∷ past) → SmoothRun config past
  run_before turn past r =
      let old = before config turn past (stands_of (turn ∷ past) r) in
      let few = goes_before config turn past (goes_of (turn ∷ past) r) in
      let less = fewer_before config turn.entries (entries_of past) in
      let all = r.smooth.smooth.versions in
      record {
        run = record_of config past old;
        legal = record { range = r.legal.range; events = r.legal.events.1 };
        smooth = record {
          smooth = record {
            goes = r.smooth.smooth.goes.1;
            few_to_client = few.few_client;
            few_to_server = few.few_server;
            delays = r.smooth.smooth.delays;
            versions = omega (arith, less, all);
          };
          told = told_before config turn past r.smooth.told;
        };
      }

  pub run_back : (later past : List Turn) → SmoothRun config (later ++ past) → SmoothRun config past
  run_back [] past r = r
  run_back (turn ∷ later) past r = run_back later past (run_before turn (later ++ past) r)

  -- the server's calls of more entries
  pub trace_more : (later es : List Entry) → server_trace config (later ++ es) ≡ server_of later
      ++ server_trace config es
  trace_more [] es = refl
  trace_more (OfClient c ∷ later) es = trace_more later es
  trace_more (OfServer c ∷ later) es = ap (λ t. c ∷ t) (trace_more later es)

  -- an observation that goes on went on before
  pub watched_before : (number : ℕ) (later es : List Entry) → Watches config number (later ++ es)
      → Watches config number es
  watched_before number later es w =
      record { kept = calls_before _ later es w.kept; still = Always_back _ later es w.still }

  pub lawful_before : (later es : List Entry) → Lawful config (later ++ es) → Lawful config es
  lawful_before [] es law = law
  lawful_before (e ∷ later) es law = lawful_before later es (lawful_back config (later ++ es) e law)

  -- what was sent stays sent
  pub sent_before : (later es : List Entry) (x : Sending) → WasSent config.client_sizes x (client_of es)
      → WasSent config.client_sizes x (client_of (later ++ es))
  sent_before [] es x h = h
  sent_before (e ∷ later) es x h = sent_later config x (later ++ es) e (sent_before later es x h)

  pub registered_before : (number : ℕ) (token : List ℕ) (later es : List Entry)
      → WasRegistered config.client_sizes number token (client_of es)
      → WasRegistered config.client_sizes number token (client_of (later ++ es))
  registered_before number token later es r = record {
    path = r.path;
    sending = r.sending;
    sent = sent_before later es r.sending r.sent;
    registers = r.registers;
    token_is = r.token_is;
  }
