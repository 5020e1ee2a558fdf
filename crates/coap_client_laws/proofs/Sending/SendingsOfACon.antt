-- Each sending of a client's CON is of a call that sends its request, or of a tick that sends it again while its
-- operation runs.
use Rattle.std.proofs.Common.{◌≡◌, ◌≢◌, inl, inr, ℕ, max, Bool, true, false, Option, Some, None, List, [], ◌∷◌, ◌++◌}
use Rattle.std.proofs.Common.{refl, ap, sym, subst, ◌∙◌, append_assoc, Result, Ok}
use Rattle.coap_types.specs.Past.{Always}
use Rattle.coap_types.proofs.Facts.Traces.{Ever_front, Ever_back}
use Rattle.coap_types.specs.declared.endpoint.Endpoint.{Endpoint}
use Rattle.coap_layer.specs.Machine.State as S
use Rattle.coap_layer.specs.Machine.Steps.{Asked, Steps, left_after, entries}
use Rattle.coap_layer.specs.Sends.{IsIn, IsOpen, SendsIt}
use Rattle.coap_layer.specs.Trace as L
use Rattle.coap_layer.specs.Words.{Open, begun, copies_in}
use Rattle.coap_layer.proofs.Facts.Sendings.{copied_by}
use Rattle.coap_layer.proofs.Facts.StepsOfLayer.{steps_split}
use Rattle.coap_layer.specs.declared.setup.Setup.{Setup}
use Rattle.coap_block.specs.Sizes.{Sizes}
use Rattle.coap_exchange.specs.declared.asker.AskRefusal.{AskRefusal}
use Rattle.coap_exchange.specs.declared.asker.Exchange.{Exchange}
use Rattle.coap_exchange.specs.declared.asker.Turn.{Turn}
use Rattle.coap_exchange.specs.declared.asker.Turn.TheVariants as turn_of
use Rattle.coap_exchange.specs.declared.matching.Opening.{Opening}
use Rattle.coap_exchange.specs.declared.matching.Opening.TheVariants.{Running, Spent, Sends}
use Rattle.coap_exchange.specs.AskerTrace as E
use Rattle.coap_exchange.specs.AskerRequests as Q
use Rattle.coap_exchange.specs.AskerArrivals as R
use Rattle.coap_exchange.specs.AskerSteps as P
use Rattle.coap_exchange.specs.AskerLaw as W
use Rattle.coap_exchange.specs.Adds.{asked_by_client}
use Rattle.coap_client.specs.Trace.{Call, Calls, Observes, Cancels, Forgets, Feeds, Ticks, NextOut, NextReport}
use Rattle.coap_client.specs.Trace.{Asked as AskedFor}
use Rattle.coap_client.specs.Own.{Own, Observation}
use Rattle.coap_client.specs.Observations.{observation_of}
use Rattle.coap_client.specs.Observing.{releases}
use Rattle.coap_client.specs.Effects.{Deed, Rests, Effect}
use Rattle.coap_client.specs.Deeds.{effect, close, deeds}
use Rattle.coap_client.specs.Steps.{lower}
use Rattle.coap_client.specs.Law.{ClientLaw, own_of, lower_of, layer_of}
use Rattle.coap_client_laws.specs.Follows.Adds.{call_asks, call_adds}
use Rattle.coap_client_laws.specs.Follows.Holds.{is_copy}
use Rattle.coap_exchange.proofs.Facts.Adds.{entries_append}
use Rattle.coap_client_laws.proofs.Sending.Begun.{steps_here, layer_next}
use Rattle.coap_client.proofs.Facts.Places.Once.{beneath, law_front, done_right}
use Rattle.coap_client_laws.proofs.Sending.ApartLists.{Every, every_join, every_in, always_front}

-- a call of the layer that is no tick sends nothing again
abbrev pub NoTick : Asked → Type 0
NoTick a = a.call ≢ L.Ticks

abbrev pub NoTurn : E.Call → Type 0
NoTurn (E.Ticks now below answer) = ⊥
NoTurn _ = Unit {0}

replies_none : (from : Endpoint) (id : ℕ) (o : Option (List ℕ)) → Every NoTick (R.replying from id o)
replies_none from id None = tt
replies_none from id (Some bytes) = (λ h. cc h, tt)

settles_none : (b : Bool) (server : Endpoint) (o : Option Exchange) (settled : Bool)
    → Every NoTick (R.settling b server o settled)
settles_none true server (Some x) settled = (λ h. cc h, tt)
settles_none true server None settled = tt
settles_none false server o settled = tt

beneath_none : (o : Opening) (server : Endpoint) (content : L.Content) (word : ℕ)
    → Q.beneath o server content word ≢ L.Ticks
beneath_none Running server content word h = cc h
beneath_none _ server content word h = cc h

lower_none : (s : E.Own) (c : E.Call) → NoTurn c → Every NoTick (P.lower s c)
lower_none s (E.Ask now r word below answer) h =
    (beneath_none (Q.opening_of s r) s.server (Q.content_of (Q.request_token s r) r) word, tt)
lower_none s (E.Receive now from bytes up settled answer) h =
    let v = R.verdict_on s from up in
    every_join NoTick (R.acts s from up settled v) (Q.asked now (L.Receive from bytes) up ∷ [])
    (every_join NoTick (R.settling (R.settles v) s.server s.running settled) _
    (settles_none (R.settles v) s.server s.running settled)
    (replies_none from (R.id_in up) (R.reply_by v (R.id_in up))))
    (λ k. cc k, tt)
lower_none s (E.Ticks now below answer) h = absurd h
lower_none s (E.Take answer) h = (λ k. cc k, tt)
lower_none s _ h = tt

asked_none : (server : Endpoint) (setup : Setup) (past later : List E.Call) → Every NoTurn later
    → Every NoTick (asked_by_client server setup past later)
asked_none server setup past [] h = tt
asked_none server setup past (c ∷ later) h =
    every_join NoTick (P.lower (W.own_of server setup (later ++ past)) c) (asked_by_client server setup past later)
    (lower_none (W.own_of server setup (later ++ past)) c h.0) (asked_none server setup past later h.1)

deeds_none : (d : Deed) (s : Own) (now word : ℕ) (sent : L.Answer) (token : Result (List ℕ) AskRefusal) (kept : Bool)
    → Every NoTurn (deeds d s now word sent token kept)
deeds_none Rests s now word sent token kept = tt
deeds_none _ s now word sent token kept = (tt, tt)

-- what is asked behind other calls
asked_append : (server : Endpoint) (setup : Setup) (past later earlier : List E.Call)
    → asked_by_client server setup past (later ++ earlier) ≡ asked_by_client server setup (earlier ++ past) later
    ++ asked_by_client server setup past earlier
asked_append server setup past [] earlier = refl
asked_append server setup past (c ∷ later) earlier =
    ap (λ t. P.lower (W.own_of server setup t) c ++ asked_by_client server setup past (later ++ earlier))
    (append_assoc later earlier past)
    ∙ (ap (λ l. P.lower (W.own_of server setup (later ++ (earlier ++ past))) c ++ l)
    (asked_append server setup past later earlier)
    ∙ sym (append_assoc (P.lower (W.own_of server setup (later ++ (earlier ++ past))) c)
    (asked_by_client server setup (earlier ++ past) later) (asked_by_client server setup past earlier)))

-- no entry of such calls sends again
made_none : (old : S.State) (calls : List Asked) → Every NoTick calls
    → Every (λ (e : L.Entry). e.call ≢ L.Ticks) (entries old calls)
made_none old [] h = tt
made_none old (a ∷ earlier) h = (h.0, made_none old earlier h.1)

copy_ticks : (call : L.Call) (answer : L.Answer) (to : Endpoint) (id : ℕ) → copies_in call answer to id ≡ true
    → call ≡ L.Ticks
copy_ticks L.Ticks answer to id h = refl
copy_ticks _ answer to id h = absurd (cc h)

-- it is sent again here: the CON is outstanding, and the call a tick that copies
pub record Copies (server : Endpoint) (sizes : Sizes) (setup : Setup) (con : Open) (past : List Call)
    (c : Call) : Type 0 where
  pub is_open : IsOpen (layer_of server sizes setup past) con
  pub copies : is_copy c ≡ true

module _ (server : Endpoint) (sizes : Sizes) (setup : Setup) (con : Open) (past : List Call) (Z : L.Entry
    → Type 0) where
  abbrev adds : Call → List L.Entry
  adds c = call_adds server sizes setup past c

  abbrev earlier : List L.Entry
  earlier = layer_of server sizes setup past

  abbrev Holds : List L.Entry → L.Entry → Type 0
  Holds t e = SendsIt con t e → Z e

  abbrev Begins : Call → Type 0
  Begins c = (e : L.Entry) → IsIn e (adds c) → begun e ≡ Some con → Z e

  abbrev Again : Call → Type 0
  Again c = (e : L.Entry) → IsIn e (adds c) → Copies server sizes setup con past c → Z e

  -- entries that are no ticks
  no_ticks : (xs rest : List L.Entry) → ((e : L.Entry) → IsIn e xs → begun e ≡ Some con → Z e)
      → Every (λ (e : L.Entry). e.call ≢ L.Ticks) xs → Always Holds rest → Always Holds (xs ++ rest)
  no_ticks xs rest begins none before =
      always_front Holds xs rest (λ t e i s. elim s [
        | inl b ↦ begins e i b
        | inr o ↦ absurd (every_in (λ (x : L.Entry). x.call ≢ L.Ticks) xs e none i
            (copy_ticks e.call e.answer con.to con.id o.1))
      ]) before

  -- a call without a tick
  quiet : (c : Call) → Begins c → Every NoTurn (lower (own_of sizes past) c) → Always Holds earlier
      → Always Holds (adds c ++ earlier)
  quiet c begins h before =
      no_ticks (adds c) earlier begins (made_none _ (call_asks server sizes setup past c)
      (asked_none server setup (lower_of sizes past) (lower (own_of sizes past) c) h)) before

  -- a tick: the first that it asks is the layer's, and what it asks behind that sends nothing again
  module _ (now w : ℕ) (below : L.Answer) (turn : Turn) (sent : L.Answer) (token : Result (List ℕ) AskRefusal)
      (kept answer : Bool) where
    abbrev call : Call
    call = Ticks now w below turn sent token kept answer

    abbrev m : ℕ
    m = max (own_of sizes past).clock now

    abbrev done : Effect
    done = effect (own_of sizes past) call

    abbrev later : List E.Call
    later = deeds (close m done token).deed (close m done token).own m w sent token kept

    abbrev first : List E.Call
    first = deeds done.deed done.own m w sent token kept

    abbrev input : E.Call
    input = E.Ticks m below turn

    abbrev under : List E.Call
    under = lower_of sizes past

    abbrev front : List Asked
    front = asked_by_client server setup (input ∷ under) (later ++ first)

    abbrev tick : Asked
    tick = Q.asked m L.Ticks below

    asks_is : call_asks server sizes setup past call ≡ front ++ tick ∷ []
    asks_is = ap (asked_by_client server setup under) (sym (append_assoc later first (input ∷ [])))
        ∙ asked_append server setup under (later ++ first) (input ∷ [])

    front_none : Every NoTick front
    front_none =
        asked_none server setup (input ∷ under) (later ++ first)
        (every_join NoTurn later first (deeds_none (close m done token).deed
        (close m done token).own m w sent token kept) (deeds_none done.deed done.own m w sent token kept))

    module _ (law : ClientLaw server sizes setup (call ∷ past)) where
      copied : (old : S.State) → below ≡ S.answer_of old (S.moment old m L.Ticks) L.Ticks → IsOpen earlier con
          → copies_in L.Ticks (S.made old m L.Ticks).answer con.to con.id ≡ true
          → Copies server sizes setup con past call
      copied old is o h =
          let there : below ≡ L.Copied con.to con.id = is
          ∙ copied_by L.Ticks (S.made old m L.Ticks).answer con.to con.id h in
          let right = (done_right (beneath server sizes setup past) later first input
          (law_front server setup (later ++ (first ++ input ∷ [])) under law.exchanges.rows)).0 in
          let turned : turn ≡ turn_of.Copied = right
          ∙ ap (R.turn_of (beneath server sizes setup past) (max (beneath server sizes setup past).clock m)) there in
          record { is_open = o; copies = ap (λ z. is_copy (Ticks now w below z sent token kept answer)) turned }

      ticked : Begins call → Again call → Always Holds earlier → Always Holds (adds call ++ earlier)
      ticked begins again before =
          let k = steps_here server sizes setup past call law in
          let old : S.State = k.0 in
          let parts = steps_split old k.1 front (tick ∷ []) (subst (λ (z : List Asked). Steps old z k.1) asks_is k.2) in
          let answered : below ≡ S.answer_of old (S.moment old m L.Ticks) L.Ticks =
          subst (λ (s : S.State). below ≡ S.answer_of s (S.moment s m L.Ticks) L.Ticks) parts.1.1
          (parts.1.2).right in
          let here : L.Entry = S.made old m L.Ticks in
          let behind : List L.Entry = entries (left_after old (tick ∷ [])) front in
          let all : adds call ≡ behind ++ here ∷ [] = k.3
          ∙ (ap (entries old) asks_is ∙ entries_append old front (tick ∷ [])) in
          let inside : (e : L.Entry) → IsIn e (behind ++ here ∷ [])
          → IsIn e (adds call) = λ e i. subst (IsIn e) (sym all) i in
          let at_tick : SendsIt con earlier here → Z here = λ s. elim s [
            | inl b ↦ begins here (inside here (Ever_back (λ y. y ≡ here) behind (here ∷ []) (inl refl))) b
            | inr o ↦ again here (inside here (Ever_back (λ y. y ≡ here) behind (here ∷ []) (inl refl)))
                (copied old answered o.0 o.1)
          ] in
          let whole = no_ticks behind (here ∷ earlier)
          (λ e i b. begins e (inside e (Ever_front (λ y. y ≡ e) behind (here ∷ []) i)) b)
          (made_none (left_after old (tick ∷ [])) front front_none) (at_tick, before) in
          subst (λ l. Always Holds (l ++ earlier)) (sym all)
          (subst (Always Holds) (sym (append_assoc behind (here ∷ []) earlier)) whole)

  released : (o : Option Observation) (s : Own) (sent : L.Answer) (token : Result (List ℕ) AskRefusal) (kept : Bool)
      → Every NoTurn (deeds (releases o) s 0 0 sent token kept)
  released o s sent token kept = deeds_none (releases o) s 0 0 sent token kept

  fed_none : (now : ℕ) (from : Endpoint) (bytes : List ℕ) (w : ℕ) (up : L.Answer) (settled : Bool) (event : _)
      (sent : L.Answer) (token : Result (List ℕ) AskRefusal) (kept : Bool)
      → Every NoTurn (lower (own_of sizes past) (Feeds now from bytes w up settled event sent token kept))
  fed_none now from bytes w up settled event sent token kept =
      let s : Own = own_of sizes past in
      let e : Effect = effect s (Feeds now from bytes w up settled event sent token kept) in
      let c = close (max s.clock now) e token in
      every_join NoTurn (deeds c.deed c.own (max s.clock now) w sent token kept) _
      (deeds_none c.deed c.own (max s.clock now) w sent token kept)
      (every_join NoTurn (deeds e.deed e.own (max s.clock now) w sent token kept) _
      (deeds_none e.deed e.own (max s.clock now) w sent token kept) (tt, tt))

  each_call : (c : Call) → ClientLaw server sizes setup (c ∷ past) → Begins c → Again c → Always Holds earlier
      → Always Holds (adds c ++ earlier)
  each_call (Ticks now w below turn sent token kept answer) law begins again before =
      ticked now w below turn sent token kept answer law begins again before
  each_call (Feeds now from bytes w up settled event sent token kept) law begins again before =
      quiet (Feeds now from bytes w up settled event sent token kept) begins
      (fed_none now from bytes w up settled event sent token kept) before
  each_call (Calls now r answer) law begins again before = quiet (Calls now r answer) begins tt before
  each_call (Observes now path answer) law begins again before = quiet (Observes now path answer) begins tt before
  each_call (Cancels now number answer) law begins again before = quiet (Cancels now number answer) begins tt before
  each_call (Forgets number kept true) law begins again before =
      quiet (Forgets number kept true) begins (released (observation_of number (own_of sizes past).observations)
      (own_of sizes past) L.Nothing (Ok []) kept) before
  each_call (Forgets number kept false) law begins again before = quiet (Forgets number kept false) begins tt before
  each_call (NextOut answer) law begins again before = quiet (NextOut answer) begins (tt, tt) before
  each_call (NextReport answer) law begins again before = quiet (NextReport answer) begins tt before
  each_call (AskedFor answer) law begins again before = quiet (AskedFor answer) begins tt before

  -- Each sending of the CON in what a call adds is its beginning, or a copy.
  pub each_sending : (c : Call) → ClientLaw server sizes setup (c ∷ past) → Begins c → Again c → Always Holds earlier
      → Always Holds (layer_of server sizes setup (c ∷ past))
  each_sending c law begins again before = subst (Always Holds) (sym (layer_next server sizes setup past c))
      (each_call c law begins again before)
