-- Behind a tick of the client, where a call is taken and not reported, an exchange is open.
use Rattle.std.proofs.Common.{◌≡◌, inl, inr, ℕ, ◌+◌, nat_le, Bool, false, Option, Some, None, List, [], ◌∷◌}
use Rattle.std.proofs.Common.{◌++◌, map, refl, ap, sym, subst, ◌∙◌, append_assoc}
use Rattle.coap_types.specs.Past.{Always}
use Rattle.coap_types.proofs.Facts.Traces.{Always_back, Sometime_back}
use Rattle.coap_types.specs.declared.endpoint.Endpoint.{Endpoint}
use Rattle.coap_types.specs.declared.transmission.TheConstants.{MAX_LATENCY_MS as max_latency}
use Rattle.coap_block.specs.Sizes.{Sizes}
use Rattle.coap_layer.specs.Trace.{Packet}
use Rattle.coap_layer.specs.declared.setup.Setup.{Setup}
use Rattle.coap_client_laws.specs.Follows.Answered.{AreAnswered, WaitsFor}
use Rattle.coap_client_laws.specs.Follows.Open.{IsOpenSince}
use Rattle.coap_client.specs.Sendings.{Taken, WasTaken}
use Rattle.coap_client.specs.Law.{ClientLaw, own_of}
use Rattle.coap_client.specs.Trace.{Call, NextOut, NextReport, Reported}
use Rattle.coap_client_laws.proofs.Facts.Exchanges.{open_runs}
use Rattle.coap_client_laws.proofs.Facts.Laws.{back}
use Rattle.coap_record.specs.Events.{Config, TickClient}
use Rattle.coap_record.specs.Record.{Turn, Makes, OnClient, AreTicks, ClientTick, entries_of, client_of}
use Rattle.coap_promise.proofs.Facts.Delivery.ClientTurns.{turn_calls}
use Rattle.coap_record.proofs.Facts.CallsOfEnds.{client_client}
use Rattle.coap_smooth.proofs.Reported.InTurn.{AreQuiet, IsReported, plain_of}
use Rattle.coap_smooth.proofs.Reported.OpenNow.{IsOpen}

-- what is taken after the calls of a turn
abbrev pub IsTaking : Call → Type 0
IsTaking (NextOut answer) = Unit {0}
IsTaking (NextReport answer) = Unit {0}
IsTaking c = ⊥

pub record Behind (outs : List Packet) (reports : List Reported) (calls : List Call) : Type 0 where
  pub later : List Call
  pub is : turn_calls outs reports calls ≡ later ++ calls
  pub taking : Always (λ past c. IsTaking c) later

outs_taking : (outs : List Packet) → Always (λ past c. IsTaking c) (map (λ p. NextOut (Some p)) outs)
outs_taking [] = tt
outs_taking (p ∷ outs) = (tt, outs_taking outs)

reports_taking : (reports : List Reported) (rest : List Call) → Always (λ past c. IsTaking c) rest
    → Always (λ past c. IsTaking c) (map (λ r. NextReport (Some r)) reports ++ rest)
reports_taking [] rest h = h
reports_taking (r ∷ reports) rest h = (tt, reports_taking reports rest h)

pub behind : (outs : List Packet) (reports : List Reported) (calls : List Call) → Behind outs reports calls
behind outs reports calls = record {
  later = NextReport None ∷ (map (λ r. NextReport (Some r)) reports
      ++ (NextOut None ∷ map (λ p. NextOut (Some p)) outs));
  is = ap (λ l. NextReport None ∷ l)
      (sym (append_assoc (map (λ r. NextReport (Some r)) reports) (NextOut None ∷ map (λ p. NextOut (Some p)) outs)
      calls));
  taking = (tt, reports_taking reports (NextOut None ∷ map (λ p. NextOut (Some p)) outs) (tt, outs_taking outs));
}

-- it opens and shuts no exchange
pub still_open : (sizes : Sizes) (at : ℕ) (later t : List Call) → Always (λ past c. IsTaking c) later
    → IsOpenSince sizes at t → IsOpenSince sizes at (later ++ t)
still_open sizes at [] t taking o = o
still_open sizes at (NextOut answer ∷ later) t taking o = inr (refl, refl, still_open sizes at later t taking.1 o)
still_open sizes at (NextReport answer ∷ later) t taking o = inr (refl, refl, still_open sizes at later t taking.1 o)
still_open sizes at (_ ∷ later) t taking o = absurd taking.0

pub was_open : (sizes : Sizes) (at : ℕ) (later t : List Call) → Always (λ past c. IsTaking c) later
    → IsOpenSince sizes at (later ++ t) → IsOpenSince sizes at t
was_open sizes at [] t taking o = o
was_open sizes at (NextOut answer ∷ later) t taking (inl b) = let z = b.sends_it in absurd (cc z)
was_open sizes at (NextOut answer ∷ later) t taking (inr r) = was_open sizes at later t taking.1 r.2
was_open sizes at (NextReport answer ∷ later) t taking (inl b) = let z = b.sends_it in absurd (cc z)
was_open sizes at (NextReport answer ∷ later) t taking (inr r) = was_open sizes at later t taking.1 r.2
was_open sizes at (_ ∷ later) t taking o = absurd taking.0

module _ (config : Config)
    (answered : (server : Endpoint) (sizes : Sizes) (setup : Setup) (t : List Call) → ClientLaw server sizes setup t
    → AreAnswered server sizes setup t) where
  abbrev Law : List Call → Type 0
  Law t = ClientLaw config.addresses.server config.client_sizes config.client_setup t

  -- what it waits for is an exchange: nothing is held back
  waits_open : (past : List Call) (c : Call) → Law (c ∷ past) → AreQuiet config (c ∷ past)
      → WaitsFor config.addresses.server config.client_sizes config.client_setup past c
      → IsOpen config.client_sizes (c ∷ past)
  waits_open past c law quiet (inl n) =
      let k = (open_runs config.addresses.server config.client_sizes config.client_setup (c ∷ past) law).is_open
      n.exchange n.running in
      (k.0, k.1)
  waits_open past c law quiet (inr h) =
      let none = (plain_of config (c ∷ past) quiet).hold in
      let z = sym h.held ∙ ap (λ (o : Option ℕ). elim o as (λ w. Bool) [
        | None ↦ false
        | Some last ↦ nat_le (own_of config.client_sizes (c ∷ past)).clock (last + max_latency)
      ]) none in
      absurd (cc z)

  module _ (x : Taken) (old : List Call) (was : WasTaken x old) where
    there : (earlier : List Call) → WasTaken x (earlier ++ old)
    there [] = was
    there (c ∷ earlier) = inr (there earlier)

    tick_opens : (at word : ℕ) (calls : List Call) → AreTicks (ClientTick at word) false calls → (later : List Call)
        → Always (λ past c. IsTaking c) later → Law (later ++ (calls ++ old))
        → AreQuiet config (later ++ (calls ++ old))
        → (IsReported config x.number (later ++ (calls ++ old)) → ⊥)
        → IsOpen config.client_sizes (later ++ (calls ++ old))
    tick_opens at word [] ticks later taking law quiet untold = absurd ticks
    tick_opens at word (c ∷ earlier) ticks later taking law quiet untold =
        let t = ticks.0 in
        let here = Always_back _ later (c ∷ (earlier ++ old))
        (answered config.addresses.server config.client_sizes config.client_setup (later ++ (c ∷ (earlier ++ old)))
        law) in
        let waits = here.0 (at, word, t.0, t.1, t.2, t.3, t.4, t.5) x (there earlier)
        (λ told. untold (Sometime_back _ later (c ∷ (earlier ++ old)) (inr told))) in
        let k = waits_open (earlier ++ old) c
        (back config.addresses.server config.client_sizes config.client_setup later (c ∷ (earlier ++ old)) law)
        (Always_back _ later (c ∷ (earlier ++ old)) quiet) waits in
        (k.0, still_open config.client_sizes k.0 later (c ∷ (earlier ++ old)) taking k.1)

  -- the turn of a tick
  pub turn_opens : (turn : Turn) (past : List Turn) → turn.event.what ≡ TickClient → turn.refused ≡ false
      → Makes config.addresses past turn.event.at turn.event.word turn.event.what turn.refused turn.entries
      → (x : Taken) → WasTaken x (client_of (entries_of past)) → Law (client_of (entries_of (turn ∷ past)))
      → AreQuiet config (client_of (entries_of (turn ∷ past)))
      → (IsReported config x.number (client_of (entries_of (turn ∷ past))) → ⊥)
      → IsOpen config.client_sizes (client_of (entries_of (turn ∷ past)))
  turn_opens turn past what all made x was law quiet untold =
      let m = subst (λ w. Makes config.addresses past turn.event.at turn.event.word w false turn.entries) what
      (subst (λ r. Makes config.addresses past turn.event.at turn.event.word turn.event.what r turn.entries) all
      made) in
      let on : OnClient m.0 turn.entries = m.2 in
      let b = behind on.outs on.reports m.0 in
      let old : List Call = client_of (entries_of past) in
      let is : client_of (entries_of (turn ∷ past)) ≡ b.later ++ (m.0 ++ old) =
      ap (λ z. client_of (z ++ entries_of past)) on.is
      ∙ (client_client (turn_calls on.outs on.reports m.0) (entries_of past)
      ∙ (ap (λ l. l ++ old) b.is ∙ append_assoc b.later m.0 old)) in
      subst (IsOpen config.client_sizes) (sym is)
      (tick_opens x old was turn.event.at turn.event.word m.0 m.1 b.later b.taking (subst Law is law)
      (subst (AreQuiet config) is quiet) (λ told. untold (subst (IsReported config x.number) (sym is) told)))
