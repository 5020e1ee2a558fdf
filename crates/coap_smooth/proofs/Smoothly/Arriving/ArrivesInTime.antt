-- In a smooth run what a message layer sends comes to the other's within 1,000 ms, behind its sending.
use Rattle.std.proofs.Common.{◌≡◌, ◌⊎◌, inl, inr, ⊎_elim, ◌≤◌, ◌<◌, ℕ, ◌+◌, false, Some, None, List}
use Rattle.std.proofs.Common.{[], ◌∷◌, ◌++◌, map, length, refl, ap, sym, subst, ◌∙◌, arith}
use Rattle.std.proofs.lemmas.List.{length-append}
use Rattle.coap_types.specs.Past.{Ever, all_of}
use Rattle.coap_types.proofs.Facts.Traces.{Ever_front, Ever_back, Ever_of_Sometime, Sometime_back}
use Rattle.coap_types.specs.declared.endpoint.Endpoint.{Endpoint}
use Rattle.coap_layer.specs.Channel.{Hop, Near, Far, OnNear, OnFar}
use Rattle.coap_layer.specs.Sends.{IsIn}
use Rattle.coap_layer.specs.Taking.{ArrivesWithin}
use Rattle.coap_layer.specs.Trace as L
use Rattle.coap_client.specs.Trace as C
use Rattle.coap_server.specs.Trace as S
use Rattle.coap_record.specs.Events.{Config, Deliver}
use Rattle.coap_promise.specs.Hops.{client_adds, server_adds, hops_at, hops_of, across}
use Rattle.coap_smooth.specs.InTime.{ArriveInTime, AllInTime}
use Rattle.coap_smooth.specs.Received.{ReceivesAt}
use Rattle.coap_record.specs.Record.{Given, Entry, OfClient, OfServer, Turn, IsNumber, IsOne, OnClient, OnServer, Makes}
use Rattle.coap_record.specs.Record.{given_in, entries_of, client_of, server_trace, FeedsClient, FeedsServer}
use Rattle.coap_smooth.specs.Smooth.{max_age, WasDelivered}
use Rattle.coap_promise.proofs.Facts.Delivery.GivenOutBefore.{number_unique, not_later}
use Rattle.coap_smooth.proofs.Delivery.Received.{are_received}
use Rattle.coap_smooth.proofs.Smoothly.Arriving.SentIsGivenOut.{numbered_in, near_given, far_given}
use Rattle.coap_promise.proofs.Facts.Delivery.End.{front, front_is}
use Rattle.coap_smooth.proofs.Smoothly.Ticks.NothingIsLeft.{AllMade, Stands, before, legal_of, record_of, turned}
use Rattle.coap_smooth.proofs.Smoothly.Ticks.NothingIsLeft.{side_of}
use Rattle.coap_promise.proofs.Facts.Delivery.GivenOutBefore.{below_length}
use Rattle.coap_record.specs.declared.addresses.Addresses.{Addresses}
pub use Rattle.coap_smooth.proofs.Delivery.FedInTime.{in_or_late}

-- two lists in one, parted at an element
parted : {X : Type 0} (a b later : List X) (h : X) (before : List X) → a ++ b ≡ later ++ h ∷ before
    → ((mid : List X) × (a ≡ later ++ h ∷ mid))
    ⊎ ((more : List X) × (later ≡ a ++ more) × (b ≡ more ++ h ∷ before))
parted [] b later h before e = inr (later, refl, e)
parted (x ∷ a) b [] h before e = let k : x ≡ h = cc e in inl (a, ap (λ z. z ∷ a) k)
parted (x ∷ a) b (y ∷ later) h before e =
    let k : x ≡ y = cc e in
    let rest : a ++ b ≡ later ++ h ∷ before = cc e in
    elim (parted a b later h before rest) [
      | inl m ↦ inl (m.0, ap (λ z. z ∷ a) k ∙ ap (λ l. y ∷ l) m.1)
      | inr m ↦ inr (m.0, ap (λ l. y ∷ l) m.1 ∙ ap (λ z. z ∷ (a ++ m.0)) (sym k), m.2)
    ]

there : {X : Type 0} (P : X → Type 0) (a later mid : List X) (h : X) → a ≡ later ++ h ∷ mid → P h → Ever P a
there P a later mid h is p = subst (Ever P) (sym is) (Ever_back P later (h ∷ mid) (inl p))

none_there : {X : Type 0} (later before : List X) (h : X) → [] ≡ later ++ h ∷ before → ⊥
none_there [] before h e = cc e
none_there (x ∷ later) before h e = cc e

-- a number that was delivered is of a datagram that was given out before

delivers : (addresses : Addresses) (n : ℕ) (turn : Turn) (past : List Turn)
    → Makes addresses past turn.event.at turn.event.word turn.event.what turn.refused turn.entries
    → turn.event.what ≡ Deliver n → n < length (all_of (given_in addresses) past)
delivers addresses n turn past made is =
    let m = subst (λ w. Makes addresses past turn.event.at turn.event.word w turn.refused turn.entries) is made in
    below_length n m.0 (all_of (given_in addresses) past) m.1

delivered_below : (addresses : Addresses) (n : ℕ) (past : List Turn) → AllMade addresses past → WasDelivered n past
    → n < length (all_of (given_in addresses) past)
delivered_below addresses n [] made h = absurd h
delivered_below addresses n (turn ∷ past) made (inl h) =
    let k = delivers addresses n turn past made.0 h in
    let l = length-append (given_in addresses turn) (all_of (given_in addresses) past) in
    omega (arith, k, l)
delivered_below addresses n (turn ∷ past) made (inr h) =
    let k = delivered_below addresses n past made.1 h in
    let l = length-append (given_in addresses turn) (all_of (given_in addresses) past) in
    omega (arith, k, l)

far_map : (P : L.Entry → Type 0) (xs : List L.Entry) → Ever P xs → Ever (OnFar P) (map Far xs)
far_map P [] h = h
far_map P (x ∷ xs) (inl h) = inl h
far_map P (x ∷ xs) (inr h) = inr (far_map P xs h)

near_map : (P : L.Entry → Type 0) (xs : List L.Entry) → Ever P xs → Ever (OnNear P) (map Near xs)
near_map P [] h = h
near_map P (x ∷ xs) (inl h) = inl h
near_map P (x ∷ xs) (inr h) = inr (near_map P xs h)

pub far_each : (P Q : L.Entry → Type 0) → ((e : L.Entry) → P e → Q e) → (hs : List Hop) → Ever (OnFar P) hs
    → Ever (OnFar Q) hs
far_each P Q f [] h = h
far_each P Q f (Far e ∷ hs) (inl h) = inl (f e h)
far_each P Q f (Far e ∷ hs) (inr h) = inr (far_each P Q f hs h)
far_each P Q f (Near e ∷ hs) (inl h) = absurd h
far_each P Q f (Near e ∷ hs) (inr h) = inr (far_each P Q f hs h)

pub near_each : (P Q : L.Entry → Type 0) → ((e : L.Entry) → P e → Q e) → (hs : List Hop) → Ever (OnNear P) hs
    → Ever (OnNear Q) hs
near_each P Q f [] h = h
near_each P Q f (Near e ∷ hs) (inl h) = inl (f e h)
near_each P Q f (Near e ∷ hs) (inr h) = inr (near_each P Q f hs h)
near_each P Q f (Far e ∷ hs) (inl h) = absurd h
near_each P Q f (Far e ∷ hs) (inr h) = inr (near_each P Q f hs h)

module _ (config : Config) where
  -- the oldest call of a turn

  server_oldest : (P : Hop → Type 0) (xs : List S.Call) (c : S.Call) (es : List Entry)
      → Ever P (hops_at config es (OfServer c)) → Ever P (front config (map OfServer (xs ++ c ∷ [])) es)
  server_oldest P [] c es h = Ever_front P (hops_at config es (OfServer c)) [] h
  server_oldest P (x ∷ xs) c es h =
      Ever_back P (hops_at config (map OfServer (xs ++ c ∷ []) ++ es) (OfServer x))
      (front config (map OfServer (xs ++ c ∷ [])) es) (server_oldest P xs c es h)

  client_oldest : (P : Hop → Type 0) (xs : List C.Call) (c : C.Call) (es : List Entry)
      → Ever P (hops_at config es (OfClient c)) → Ever P (front config (map OfClient (xs ++ c ∷ [])) es)
  client_oldest P [] c es h = Ever_front P (hops_at config es (OfClient c)) [] h
  client_oldest P (x ∷ xs) c es h =
      Ever_back P (hops_at config (map OfClient (xs ++ c ∷ []) ++ es) (OfClient x))
      (front config (map OfClient (xs ++ c ∷ [])) es) (client_oldest P xs c es h)

  -- what is delivered arrives in that turn
  module _ (turn : Turn) (past : List Turn) (s : Stands config (turn ∷ past)) where
    abbrev hops : List Hop
    hops = front config turn.entries (entries_of past)

    abbrev t : ℕ
    t = turn.event.at

    server_fed : (from : Endpoint) (bytes : List ℕ) (calls : List S.Call)
        → IsOne (FeedsServer t turn.event.word from bytes) false calls → OnServer calls turn.entries
        → Ever (OnFar (ReceivesAt t from bytes)) hops
    server_fed from bytes calls one on =
        let c = one.0 in
        let old = before config turn past s in
        let received = (are_received config _ past (record_of config past old) (legal_of config past old) t
        turn.event.word from bytes
        s.legal.0.later).0 c one.1 in
        let outs : List S.Call = S.NextOut None ∷ map (λ p. S.NextOut (Some p)) on.outs in
        let is : turn.entries ≡ map OfServer (outs ++ c ∷ []) =
        on.is ∙ ap (λ cs. map OfServer (outs ++ cs)) one.2 in
        subst (λ e. Ever (OnFar (ReceivesAt t from bytes)) (front config e (entries_of past))) (sym is)
        (server_oldest (OnFar (ReceivesAt t from bytes)) outs c (entries_of past)
        (far_map (ReceivesAt t from bytes) (server_adds config (server_trace config (entries_of past)) c) received))

    client_fed : (from : Endpoint) (bytes : List ℕ) (calls : List C.Call)
        → IsOne (FeedsClient t turn.event.word from bytes) false calls → OnClient calls turn.entries
        → Ever (OnNear (ReceivesAt t from bytes)) hops
    client_fed from bytes calls one on =
        let c = one.0 in
        let old = before config turn past s in
        let received = (are_received config _ past (record_of config past old) (legal_of config past old) t
        turn.event.word from bytes
        s.legal.0.later).1 c one.1 in
        let outs : List C.Call = map (λ p. C.NextOut (Some p)) on.outs in
        let told : List C.Call = map (λ r. C.NextReport (Some r)) on.reports in
        let xs : List C.Call = C.NextReport None ∷ (told ++ C.NextOut None ∷ outs) in
        let is : turn.entries ≡ map OfClient (xs ++ c ∷ []) =
        on.is ∙ ap (λ cs. map OfClient (C.NextReport None ∷ (told ++ C.NextOut None ∷ (outs ++ cs)))) one.2
        ∙ ap (λ l. map OfClient (C.NextReport None ∷ l)) (sym (assoc told (C.NextOut None ∷ outs) (c ∷ []))) in
        subst (λ e. Ever (OnNear (ReceivesAt t from bytes)) (front config e (entries_of past))) (sym is)
        (client_oldest (OnNear (ReceivesAt t from bytes)) xs c (entries_of past)
        (near_map (ReceivesAt t from bytes) (client_adds config (client_of (entries_of past)) c) received))
      where
        assoc : (a b c : List C.Call) → (a ++ b) ++ c ≡ a ++ (b ++ c)
        assoc [] b c = refl
        assoc (x ∷ a) b c = ap (λ l. x ∷ l) (assoc a b c)

    module _ (n : ℕ) (g : Given) (is : IsNumber config.addresses n g past) (what : turn.event.what ≡ Deliver n) where
      makes : Makes config.addresses past t turn.event.word (Deliver n) false turn.entries
      makes = subst (λ r. Makes config.addresses past t turn.event.word (Deliver n) r turn.entries) s.goes.0.all_made
          (subst (λ w. Makes config.addresses past t turn.event.word w turn.refused turn.entries) what s.made.0)

      same : makes.0 ≡ g
      same = number_unique n makes.0 g (all_of (given_in config.addresses) past) makes.1 is

      at_server : g.packet.to ≡ config.addresses.server → Ever (OnFar (ReceivesAt t g.from g.packet.bytes)) hops
      at_server to = subst (λ (x : Given). Ever (OnFar (ReceivesAt t x.from x.packet.bytes)) hops) same
          (⊎_elim (λ d. server_fed makes.0.from makes.0.packet.bytes d.1 d.2 d.3)
          (λ d. absurd (s.range.addresses.two (sym d.0 ∙ (ap (λ (x : Given). x.packet.to) same ∙ to)))) makes.2)

      at_client : g.packet.to ≡ config.addresses.client → Ever (OnNear (ReceivesAt t g.from g.packet.bytes)) hops
      at_client to = subst (λ (x : Given). Ever (OnNear (ReceivesAt t x.from x.packet.bytes)) hops) same
          (⊎_elim (λ d. absurd (s.range.addresses.two (sym (ap (λ (x : Given). x.packet.to) same ∙ to) ∙ d.0)))
          (λ d. client_fed makes.0.from makes.0.packet.bytes d.1 d.2 d.3) makes.2)

  -- a datagram that was sent has a number, and once that was delivered it has arrived since
  record Located (turns : List Turn) (later : List Hop) (g : Given) (Got : Hop → Type 0) : Type 0 where
    number : ℕ
    is : IsNumber config.addresses number g turns
    delivered : WasDelivered number turns → Ever Got later

  -- it is given out in this turn
  located_here : (turn : Turn) (past : List Turn) (later : List Hop) (g : Given) (Got : Hop → Type 0)
      → AllMade config.addresses (turn ∷ past) → Ever (λ h. h ≡ g) (given_in config.addresses turn)
      → Located (turn ∷ past) later g Got
  located_here turn past later g Got made h =
      let k = numbered_in g (given_in config.addresses turn) (all_of (given_in config.addresses) past) h in
      record { number = k.number; is = k.is; delivered = λ d. absurd (never k.number k.behind d) }
    where
      never : (n : ℕ) → length (all_of (given_in config.addresses) past) ≤ n → WasDelivered n (turn ∷ past) → ⊥
      never n least (inl w) = let k = delivers config.addresses n turn past made.0 w in omega (arith, k, least)
      never n least (inr w) = let k = delivered_below config.addresses n past made.1 w in omega (arith, k, least)

  -- .. or was before
  module _ (turn : Turn) (past : List Turn) (s : Stands config (turn ∷ past)) (later more : List Hop) (g : Given)
      (Got : Hop → Type 0) (is_end : (g.packet.to ≡ config.addresses.client) ⊎ (g.packet.to ≡ config.addresses.server))
      (parts : later ≡ front config turn.entries (entries_of past) ++ more)
      (arrives : (n : ℕ) → IsNumber config.addresses n g past → turn.event.what ≡ Deliver n → g.at ≤ turn.event.at
      → turn.event.at ≤ g.at + max_age → Ever Got (front config turn.entries (entries_of past))) where
    located_before : Located past more g Got → Located (turn ∷ past) later g Got
    located_before k = record {
      number = k.number;
      is = Sometime_back _ (given_in config.addresses turn) (all_of (given_in config.addresses) past) k.is;
      delivered = λ d. subst (Ever Got) (sym parts) (got d);
    }
      where
        new : List Hop
        new = front config turn.entries (entries_of past)

        early : g.at ≤ turn.event.at
        early = not_later config.addresses past turn.event.at g s.legal.1 s.legal.0.later
            (Ever_of_Sometime _ (λ h. h ≡ g) (λ b h w. inl w.0) (all_of (given_in config.addresses) past) k.is)

        got : WasDelivered k.number (turn ∷ past) → Ever Got (new ++ more)
        got (inl w) = elim (in_or_late turn.event.at (g.at + max_age)) [
          | inl till ↦ Ever_front Got new more (arrives k.number k.is w early till)
          | inr late ↦ Ever_back Got new more (k.delivered (s.goes.0.in_time k.number g k.is is_end late))
        ]
        got (inr w) = Ever_back Got new more (k.delivered w)

  abbrev of_client : ℕ → List ℕ → Given
  of_client at bytes = record {
    at = at;
    from = config.addresses.client;
    packet
        = record { to = config.addresses.server; bytes = bytes };
  }

  abbrev of_server : ℕ → List ℕ → Given
  of_server at bytes = record {
    at = at;
    from = config.addresses.server;
    packet
        = record { to = config.addresses.client; bytes = bytes };
  }

  within : (most t since : ℕ) (from : Endpoint) (bytes : List ℕ) → since ≤ t → t ≤ since + most → (e : L.Entry)
      → ReceivesAt t from bytes e → ArrivesWithin most from bytes since e
  within most t since from bytes least till e r =
      let at = r.at in
      record { call = r.call; from = omega (arith, at, least); till = omega (arith, at, till) }

  located_near : (turns : List Turn) → Stands config turns → (later before_it : List Hop) (x : L.Entry) (bytes : List ℕ)
      → hops_of config turns ≡ later ++ Near x ∷ before_it → IsIn
      (record { to = config.addresses.server; bytes = bytes }) x.out
      → Located turns later (of_client x.at bytes) (OnFar (ArrivesWithin max_age config.addresses.client bytes x.at))
  located_near [] s later before_it x bytes is out = absurd (none_there later before_it (Near x) is)
  located_near (turn ∷ past) s later before_it x bytes is out = elim (parted new (hops_of config past) later (Near x)
      before_it
      (sym (front_is config turn.entries (entries_of past)) ∙ is)) [
        | inl here ↦ (let k = near_given config turn.event.at turn.entries (entries_of past) (turned config turn past s)
            (side_of config turn past s) x (record { to = config.addresses.server; bytes = bytes })
            (there (OnNear (λ y. y ≡ x)) new later here.0 (Near x) here.1 refl) out in
            located_here turn past later (of_client x.at bytes) Got s.made
            (subst (λ (at : ℕ). Ever (λ h. h ≡ of_client at bytes) (given_in config.addresses turn)) (sym k.0) k.1))
        | inr old ↦ located_before turn past s later old.0 (of_client x.at bytes) Got (inr refl) old.1
            (λ n num what least till. far_each (ReceivesAt turn.event.at config.addresses.client bytes)
            (ArrivesWithin max_age config.addresses.client bytes x.at)
            (within max_age turn.event.at x.at config.addresses.client bytes least till) new
            (at_server turn past s n (of_client x.at bytes) num what refl))
            (located_near past (before config turn past s) old.0 before_it x bytes old.2 out)
      ]
    where
      new : List Hop
      new = front config turn.entries (entries_of past)

      Got : Hop → Type 0
      Got = OnFar (ArrivesWithin max_age config.addresses.client bytes x.at)

  located_far : (turns : List Turn) → Stands config turns → (later before_it : List Hop) (x : L.Entry) (bytes : List ℕ)
      → hops_of config turns ≡ later ++ Far x ∷ before_it → IsIn
      (record { to = config.addresses.client; bytes = bytes }) x.out
      → Located turns later (of_server x.at bytes) (OnNear (ArrivesWithin max_age config.addresses.server bytes x.at))
  located_far [] s later before_it x bytes is out = absurd (none_there later before_it (Far x) is)
  located_far (turn ∷ past) s later before_it x bytes is out = elim
      (parted new (hops_of config past) later (Far x) before_it
      (sym (front_is config turn.entries (entries_of past)) ∙ is)) [
        | inl here ↦ (let k = far_given config turn.event.at turn.entries (entries_of past) (turned config turn past s)
            (side_of config turn past s) x (record { to = config.addresses.client; bytes = bytes })
            (there (OnFar (λ y. y ≡ x)) new later here.0 (Far x) here.1 refl) out in
            located_here turn past later (of_server x.at bytes) Got s.made
            (subst (λ (at : ℕ). Ever (λ h. h ≡ of_server at bytes) (given_in config.addresses turn)) (sym k.0) k.1))
        | inr old ↦ located_before turn past s later old.0 (of_server x.at bytes) Got (inl refl) old.1
            (λ n num what least till. near_each (ReceivesAt turn.event.at config.addresses.server bytes)
            (ArrivesWithin max_age config.addresses.server bytes x.at)
            (within max_age turn.event.at x.at config.addresses.server bytes least till) new
            (at_client turn past s n (of_server x.at bytes) num what refl))
            (located_far past (before config turn past s) old.0 before_it x bytes old.2 out)
      ]
    where
      new : List Hop
      new = front config turn.entries (entries_of past)

      Got : Hop → Type 0
      Got = OnNear (ArrivesWithin max_age config.addresses.server bytes x.at)

  -- at a position

  module _ (past : List Turn) (turn : Turn) (s : Stands config (turn ∷ past)) where
    pub to_server : (later before_it : List Hop) (x : L.Entry) (bytes : List ℕ)
        → hops_of config past ≡ later ++ Near x ∷ before_it → IsIn
        (record { to = config.addresses.server; bytes = bytes }) x.out
        → x.at + max_age < turn.event.at → Ever (OnFar (ArrivesWithin max_age config.addresses.client bytes x.at)) later
    to_server later before_it x bytes is out late =
        let k = located_near past (before config turn past s) later before_it x bytes is out in
        k.delivered (s.goes.0.in_time k.number (of_client x.at bytes) k.is (inr refl) late)

    pub to_client : (later before_it : List Hop) (x : L.Entry) (bytes : List ℕ)
        → hops_of config past ≡ later ++ Far x ∷ before_it → IsIn
        (record { to = config.addresses.client; bytes = bytes }) x.out
        → x.at + max_age < turn.event.at → Ever (OnNear (ArrivesWithin max_age config.addresses.server bytes x.at))
        later
    to_client later before_it x bytes is out late =
        let k = located_far past (before config turn past s) later before_it x bytes is out in
        k.delivered (s.goes.0.in_time k.number (of_server x.at bytes) k.is (inl refl) late)

  -- a hop that is somewhere parts the hops
  record Parts (h : Hop) (hs : List Hop) : Type 0 where
    later : List Hop
    before_it : List Hop
    is : hs ≡ later ++ h ∷ before_it

  near_parts : (x : L.Entry) (hs : List Hop) → Ever (OnNear (λ y. y ≡ x)) hs → Parts (Near x) hs
  near_parts x [] h = absurd h
  near_parts x (Near y ∷ hs) (inl h) = record { later = []; before_it = hs; is = ap (λ z. Near z ∷ hs) h }
  near_parts x (Far y ∷ hs) (inl h) = absurd h
  near_parts x (y ∷ hs) (inr h) = let k = near_parts x hs h in
      record { later = y ∷ k.later; before_it = k.before_it; is = ap (λ l. y ∷ l) k.is }

  far_parts : (x : L.Entry) (hs : List Hop) → Ever (OnFar (λ y. y ≡ x)) hs → Parts (Far x) hs
  far_parts x [] h = absurd h
  far_parts x (Far y ∷ hs) (inl h) = record { later = []; before_it = hs; is = ap (λ z. Far z ∷ hs) h }
  far_parts x (Near y ∷ hs) (inl h) = absurd h
  far_parts x (y ∷ hs) (inr h) = let k = far_parts x hs h in
      record { later = y ∷ k.later; before_it = k.before_it; is = ap (λ l. y ∷ l) k.is }

  -- the same hops across

  across_twice : (hs : List Hop) → across (across hs) ≡ hs
  across_twice [] = refl
  across_twice (Near e ∷ hs) = ap (λ l. Near e ∷ l) (across_twice hs)
  across_twice (Far e ∷ hs) = ap (λ l. Far e ∷ l) (across_twice hs)

  across_parts : (later before_it : List Hop) (x : L.Entry)
      → across (later ++ Far x ∷ before_it) ≡ across later ++ Near x ∷ across before_it
  across_parts [] before_it x = refl
  across_parts (Near e ∷ later) before_it x = ap (λ l. Far e ∷ l) (across_parts later before_it x)
  across_parts (Far e ∷ later) before_it x = ap (λ l. Near e ∷ l) (across_parts later before_it x)

  pub to_far : (P : L.Entry → Type 0) (hs : List Hop) → Ever (OnNear P) hs → Ever (OnFar P) (across hs)
  to_far P [] h = h
  to_far P (Near e ∷ hs) (inl h) = inl h
  to_far P (Near e ∷ hs) (inr h) = inr (to_far P hs h)
  to_far P (Far e ∷ hs) (inl h) = absurd h
  to_far P (Far e ∷ hs) (inr h) = inr (to_far P hs h)

  pub to_near : (P : L.Entry → Type 0) (hs : List Hop) → Ever (OnFar P) hs → Ever (OnNear P) (across hs)
  to_near P [] h = h
  to_near P (Far e ∷ hs) (inl h) = inl h
  to_near P (Far e ∷ hs) (inr h) = inr (to_near P hs h)
  to_near P (Near e ∷ hs) (inl h) = absurd h
  to_near P (Near e ∷ hs) (inr h) = inr (to_near P hs h)

  pub arrive_in_time : (past : List Turn) (turn : Turn) → Stands config (turn ∷ past) → ArriveInTime config past turn
  arrive_in_time past turn s = record {
    to_server = λ x bytes h out late.
        (let k = near_parts x hs h in
        subst (Ever (OnFar (ArrivesWithin max_age config.addresses.client bytes x.at))) (sym k.is)
        (Ever_front _ k.later (Near x ∷ k.before_it)
        (to_server past turn s k.later k.before_it x bytes k.is out late)));
    to_client = λ x bytes h out late.
        (let k = far_parts x hs (subst (Ever (OnFar (λ y. y ≡ x))) (across_twice hs)
        (to_far (λ y. y ≡ x) (across hs) h))
        in to_far (ArrivesWithin max_age config.addresses.server bytes x.at) hs
        (subst (Ever (OnNear (ArrivesWithin max_age config.addresses.server bytes x.at))) (sym k.is)
        (Ever_front _ k.later (Far x ∷ k.before_it)
        (to_client past turn s k.later k.before_it x bytes k.is out late))));
    back_to_client = λ later before_it x bytes is out late. to_client past turn s later before_it x bytes is out late;
    back_to_server = λ later before_it x bytes is out late.
        (let parts : hs ≡ across later ++ Near x ∷ across before_it =
        sym (across_twice hs) ∙ ap across is ∙ across_parts later before_it x in
        subst (Ever (OnNear (ArrivesWithin max_age config.addresses.client bytes x.at))) (across_twice later)
        (to_near (ArrivesWithin max_age config.addresses.client bytes x.at) (across later)
        (to_server past turn s (across later) (across before_it) x bytes parts out late)));
  }
    where
      hs : List Hop
      hs = hops_of config past

  pub all_in_time : (turns : List Turn) → Stands config turns → AllInTime config turns
  all_in_time [] s = tt
  all_in_time (turn ∷ past) s = (arrive_in_time past turn s, all_in_time past (before config turn past s))
