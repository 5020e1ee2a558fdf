-- After a silence no copy goes out of what was begun before it.
use Rattle.std.proofs.Common.{◌≡◌, ◌≤◌, ◌+◌, ◌⊎◌, inl, inr, ℕ, List, [], ◌∷◌, ◌++◌, Some, arith}
use Rattle.coap_types.specs.Past.{Always, Ever}
use Rattle.coap_layer.specs.Rows.{LayerLaw}
use Rattle.coap_layer.specs.Sends.{AllAlike, CopyOut, EachGoesOut, GoesAlike, GoesOut, IsIn, SendsIt}
use Rattle.coap_layer.specs.Trace.{Entry, Packet}
use Rattle.coap_layer.specs.declared.setup.Setup.{Setup}
use Rattle.coap_layer.specs.Words.{Open, begun, clock}
use Rattle.coap_replay_laws.specs.Silence.{GoesAnew}

one_of : {E : Type 0} (P : E → Type 0) (later past : List E) → Ever P (later ++ past) → Ever P later ⊎ Ever P past
one_of P [] past ever = inr ever
one_of P (b ∷ later) past (inl is) = inl (inl is)
one_of P (b ∷ later) past (inr ever) = further (one_of P later past ever)
  where
    further : Ever P later ⊎ Ever P past → Ever P (b ∷ later) ⊎ Ever P past
    further (inl it) = inl (inr it)
    further (inr it) = inr it

past_of : {E : Type 0} (P : List E → E → Type 0) (later past : List E) → Always P (later ++ past) → Always P past
past_of P [] past all = all
past_of P (b ∷ later) past all = past_of P later past all.1

begun_by : (setup : Setup) (con : Open) (past : List Entry) → LayerLaw setup past
    → Always (λ past e. SendsIt con past e → GoesAlike con e) past → Ever (λ b. begun b ≡ Some con) past
    → con.first ≤ clock past
begun_by setup con [] law alike ever = absurd ever
begun_by setup con (b ∷ past) law alike (inl is) = (alike.0 (inl is)).from
begun_by setup con (b ∷ past) law alike (inr ever) =
    let time : clock past ≤ b.at = law.0.time in
    omega (arith, time, begun_by setup con past law.1 alike.1 ever)

copy_anew : (setup : Setup) (past later : List Entry) (e : Entry) (p : Packet) → LayerLaw setup (e ∷ later ++ past)
    → AllAlike (e ∷ later ++ past) → clock past + 47001 ≤ e.at → (c : CopyOut (later ++ past) e p)
    → Ever (λ b. begun b ≡ Some c.con) later
copy_anew setup past later e p law alike silent c =
    this (one_of (λ b. begun b ≡ Some c.con) later past c.begun_before)
  where
    this : Ever (λ b. begun b ≡ Some c.con) later ⊎ Ever (λ b. begun b ≡ Some c.con) past
        → Ever (λ b. begun b ≡ Some c.con) later
    this (inl it) = it
    this (inr old) =
        let first : c.con.first ≤ clock past = begun_by setup c.con past (past_of _ later past law.1)
        (past_of _ later past (alike c.con).1) old in
        let till : e.at ≤ c.con.first + 47000 = c.till in
        absurd (omega (arith, first, till, silent))

pub goes_anew : (setup : Setup) (past later : List Entry) (e : Entry) → LayerLaw setup (e ∷ later ++ past)
    → AllAlike (e ∷ later ++ past) → EachGoesOut (e ∷ later ++ past) → clock past + 47001 ≤ e.at
    → (p : Packet) → IsIn p e.out → GoesAnew past later e p
goes_anew setup past later e law alike each silent p out = this (each.0 p out)
  where
    this : GoesOut (later ++ past) e p → GoesAnew past later e p
    this (GoesOut.first is) = GoesAnew.first is
    this (GoesOut.copy c) = GoesAnew.copy c (copy_anew setup past later e p law alike silent c)
    this (GoesOut.plain is) = GoesAnew.plain is
    this (GoesOut.reply is) = GoesAnew.reply is
    this (GoesOut.stored is) = GoesAnew.stored is
    this (GoesOut.reset is) = GoesAnew.reset is
