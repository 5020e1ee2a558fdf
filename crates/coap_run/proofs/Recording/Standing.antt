-- A run goes on with a turn.
use Rattle.std.proofs.Common.{◌≡◌, ◌≤◌, ◌<◌, ℕ, ◌^◌, List, [], ◌∷◌, ◌++◌, reverse, refl, sym, ap, subst, ◌∙◌, arith}
use Rattle.std.proofs.lemmas.List.{reverse-append}
use Rattle.coap_types.specs.Past.{all_of}
use Rattle.coap_client.specs.Trace as C
use Rattle.coap_server.specs.Trace as S
use Rattle.coap_server.specs.Object.Shown.{state_of}
use Rattle.coap_client.proofs.Facts.EachCall.{client_stands}
use Rattle.coap_server.proofs.Facts.EachCall.{led_lawful}
use Rattle.coap_resource.specs.Content.{Content}
use Rattle.coap_record.specs.Events.{Config, Event}
use Rattle.coap_record.specs.Legal.{IsConfig, InRange, MayCome, NotBefore}
use Rattle.coap_record.specs.Record.{Turn, Makes, RecordOf, given_by, given_in, entries_of, begun_with}
use Rattle.coap_run.specs.Run.Ends.{ClientLed, ServerLed}
use Rattle.coap_run.specs.Run.Log.{Log, given_of, lines_in, lines_of, log_of}
use Rattle.coap_record.specs.declared.addresses.Addresses.{Addresses}
use Rattle.coap_run.specs.declared.running.ends.ClientEnd.{ClientEnd}
use Rattle.coap_run.specs.declared.running.ends.ServerEnd.{ServerEnd}
use Rattle.coap_run.specs.Run.Turning.{Turned, IsLast, Stands}

log_grows : (config : Config) (t : Turn) (turns : List Turn) (log left : Log) → log ≡ log_of config turns
    → left.given ≡ log.given ++ reverse (all_of (given_by config.addresses t.event.at) t.entries)
    → left.lines ≡ log.lines ++ lines_in config (entries_of turns) t.event.at t.refused t.entries
    → left ≡ log_of config (t ∷ turns)
log_grows config t turns log left is given lines =
    let first : left.given ≡ given_of config.addresses (t ∷ turns) =
    given ∙ ap (λ (l : Log). l.given ++ reverse (given_in config.addresses t)) is
    ∙ sym (reverse-append (given_in config.addresses t) (all_of (given_in config.addresses) turns)) in
    let second : left.lines ≡ lines_of config (t ∷ turns) =
    lines ∙ ap (λ (l : Log). l.lines ++ lines_in config (entries_of turns) t.event.at t.refused t.entries) is in
    ap (λ g. record { given = g; lines = left.lines }) first
    ∙ ap (λ g. record { given = given_of config.addresses (t ∷ turns); lines = g }) second

later : (turns : List Turn) (last at : ℕ) → IsLast turns last → last ≤ at → NotBefore turns at
later [] last at is h = tt
later (t ∷ turns) last at is h = omega (arith, is, h)

pub too_early : (turns : List Turn) (last at : ℕ) → IsLast turns last → at < last → NotBefore turns at → ⊥
too_early [] last at is h n = omega (arith, is, h)
too_early (t ∷ turns) last at is h n = omega (arith, is, h, n)

module _ {E F : Type 0} (cled : Config → List C.Call → E → Type 0) (sled : Config → List S.Call → F → Type 0) where
  pub starts : (config : Config) (a : E) (s : F) (log : Log) → log ≡ record { given = []; lines = [] } → IsConfig config
      → cled config [] a → sled config (begun_with config) s → Stands cled sled config [] [] a s log 0
  starts config a s log is range c h = record {
    events_are = refl;
    made = tt;
    legal = record { range = range; events = tt };
    lacks = tt;
    client_led = c;
    server_led = h;
    log_is = is;
    last_is = refl;
  }

  pub goes_on :
      (addresses : Addresses) (config : Config) (events : List Event) (turns : List Turn) (event : Event) (a b : E)
      (s u : F) (log left : Log)
      (last : ℕ) → config.addresses ≡ addresses → Stands cled sled config events turns a s log last
      → Turned addresses cled sled turns event a s log b u left → event.at < 2 ^ 64 → event.word < 2 ^ 64
      → InRange event.what
      → last ≤ event.at
      → (turn : Turn) × Stands cled sled config (event ∷ events) (turn ∷ turns) b u left event.at
  goes_on addresses config events turns event a b s u log left last same st t at word range after =
      let turn : Turn = record { event = event; refused = t.refused; entries = t.entries } in (
        turn,
        record {
          events_are = ap (λ es. event ∷ es) st.events_are;
          made = (
            subst (λ x. Makes x turns event.at event.word event.what t.refused t.entries) (sym same) t.makes,
            st.made,
          );
          legal = record {
            range = st.legal.range;
            events = (
              record {
                at = at;
                word = word;
                range = range;
                later = later turns last event.at st.last_is after;
                comes = subst (λ x. MayCome x turns event.at event.what) (sym same) t.comes;
              },
              st.legal.events,
            );
          };
          lacks = (t.lacks config same st.client_led st.server_led, st.lacks);
          client_led = t.client_moves config (entries_of turns) st.client_led;
          server_led = t.server_moves config (entries_of turns) st.server_led;
          log_is = log_grows config turn turns log left st.log_is
              (subst (λ x. left.given ≡ log.given ++ reverse (all_of (given_by x event.at) t.entries)) (sym same)
              t.given)
              (t.lines config (entries_of turns) same st.client_led st.server_led);
          last_is = refl;
        },
      )

-- of the ends of a run

module _ {A K : Type 0} (content : K → Content) (config : Config) where
  pub begins :
      (a : ClientEnd A) (s : ServerEnd K A) (log : Log) → log ≡ record { given = []; lines = [] } → IsConfig config
      → ClientLed config [] a → ServerLed content config (begun_with config) s
      → Stands ClientLed (ServerLed content) config [] [] a s log 0
  begins a s log is range c h = starts ClientLed (ServerLed content) config a s log is range c h

  pub recorded :
      (events : List Event) (turns : List Turn) (a : ClientEnd A) (s : ServerEnd K A) (log : Log) (last : ℕ)
      → Stands ClientLed (ServerLed content) config events turns a s log last
      → RecordOf config events turns
  recorded events turns a s log last st =
      record {
        events_are = st.events_are;
        made = st.made;
        client = client_stands config.addresses.server config.client_sizes config.client_setup _ a.client
            st.client_led.led;
        server = led_lawful config.limits config.server_szx config.server_setup _
            (state_of content s.server) st.server_led.led;
      }
