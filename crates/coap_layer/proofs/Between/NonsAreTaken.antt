-- A NON that arrives where there is room is handed up, or was before; where no datagram is late, in time.
use Rattle.std.proofs.Common.{◌≡◌, ◌⊎◌, inl, inr, ⊎_elim, ℕ, ◌+◌, ◌-◌, ◌≤◌, ◌<◌, Some, List, [], ◌∷◌, ◌++◌, refl, ap}
use Rattle.std.proofs.Common.{sym, ◌∙◌, subst, arith, append_assoc}
use Rattle.coap_types.specs.Past.{Ever, Always}
use Rattle.coap_types.specs.Roles.{role_of}
use Rattle.coap_types.specs.declared.endpoint.Endpoint.{Endpoint}
use Rattle.coap_types.specs.declared.message.Kind.TheVariants.{Con, Non}
use Rattle.coap_types.specs.declared.message.TheConstants.{MESSAGE_IDS as message_ids}
use Rattle.coap_types.specs.declared.role.Role.TheVariants as role
use Rattle.coap_types.specs.declared.transmission.TheConstants.{MAX_LATENCY_MS as max_latency}
use Rattle.coap_types.specs.declared.transmission.TheConstants.{LAST_ARRIVAL_MS as last_arrival}
use Rattle.coap_types.specs.declared.transmission.TheConstants.{ID_REUSE_AFTER_MS as id_reuse_after}
use Rattle.coap_types.proofs.Facts.Traces.{Ever_map, Ever_by_law, forget}
use Rattle.coap_codec.specs.Message.{Message, Spells}
use Rattle.coap_codec.specs.Spelling.{message_bytes}
use Rattle.coap_layer.specs.Channel.{Hop, Near, Far, near_of, far_of, OnNear, OnFar, OnFarThen, BegunAs}
use Rattle.coap_layer.specs.Channel.{HandedBy, PlainSent}
use Rattle.coap_layer.specs.OneClock.{ChannelLaw}
use Rattle.coap_layer.specs.Machine.Calls.{IsBegun, IsTaken}
use Rattle.coap_layer.specs.Rows.{LayerLaw, Stands, Row, Sorts, Ignores, IsSpelled, Plains, ignores_non, ignores_reset}
use Rattle.coap_layer.specs.Rows.{ignores_ack, ignores_unmatched, ignores_new, rejects, drops, takes_ack, takes_reset}
use Rattle.coap_layer.specs.Rows.{passes_reset, takes_answer, replays, hands_over}
use Rattle.coap_layer.specs.Sends.{IsIn}
use Rattle.coap_layer.specs.Taking.{IsTold, SentNon, SendsNon, HandsUpNon, NonInRoom, NonsTaken, HandsUpWithin}
use Rattle.coap_layer.specs.Taking.{NonsTakenWithin, ArrivesWithin, FewCome}
use Rattle.coap_layer.specs.Trace.{Setup, Content, with_head, Receive, Plain, Sent, Entry}
use Rattle.coap_layer.specs.Words.{clock, Incoming, handed, handed_by, handed_in, from_there, HandsUpSince, Remembered}
use Rattle.coap_layer.specs.Words.{remembered, numbers}
use Rattle.coap_layer.proofs.Arrivals.AcksAreTaken.{sorts_as}
use Rattle.coap_layer.proofs.Arrivals.HandedAsSpelled.{handed_so}
use Rattle.coap_layer.proofs.Arrivals.HandedUpOnce.{handed_up, taken_handed}
use Rattle.coap_layer.proofs.Arrivals.RoomWhenFewCome.{has_room, few_before}
use Rattle.coap_layer.proofs.Between.WhatIsTaken.{kept_by}
use Rattle.coap_layer.proofs.Between.WhatComesByType.{one_message}
use Rattle.coap_layer.proofs.Copies.WhatIsOpen.{some_in}
use Rattle.coap_layer.proofs.Facts.Hops.{near_later}
use Rattle.coap_layer.proofs.Paced.AtOneClock.{earlier, begun_as, plain_sent}
use Rattle.coap_layer.proofs.Numbers.EqualIdsAreApart.{small}
use Rattle.coap_layer.proofs.Numbers.OneEntryForAnId.{Numbers, one_entry, sent_number, no_plain, SendsPlain}

-- a message of its class
abbrev IsOfClass : Incoming → Type 0
IsOfClass n = (role_of n.message.code ≡ role.Request) ⊎ (role_of n.message.code ≡ role.Response)

not_ignored : (setup : Setup) (past : List Entry) (e : Entry) (n : Incoming) → n.message.kind ≡ Non → IsOfClass n
    → remembered e.at past < setup.remembered → Ignores setup past e n → ⊥
not_ignored setup past e n kind class room (ignores_non k) = ⊎_elim
    (λ a. ⊎_elim (λ b. cc (a, b)) (λ b. cc (a, b)) k.class)
    (λ a. ⊎_elim (λ b. cc (a, b)) (λ b. cc (a, b)) k.class) class
not_ignored setup past e n kind class room (ignores_reset k) = let a = k.kind in cc (kind, a)
not_ignored setup past e n kind class room (ignores_ack k) = let a = k.kind in cc (kind, a)
not_ignored setup past e n kind class room (ignores_unmatched k) = let a = k.kind in cc (kind, a)
not_ignored setup past e n kind class room (ignores_new k) = let a = k.full in omega (arith, a, room)

sorted_in : (setup : Setup) (past : List Entry) (e : Entry) (n : Incoming) → n.message.kind ≡ Non → IsOfClass n
    → remembered e.at past < setup.remembered → Sorts setup past e n
    → (handed_by e.answer ≡ Some n.message) ⊎ Remembered past e.at n.from n.message.id
sorted_in setup past e n kind class room (rejects r) = let a = r.kind in absurd (cc (kind, a))
sorted_in setup past e n kind class room (drops r) = absurd (not_ignored setup past e n kind class room r.why)
sorted_in setup past e n kind class room (takes_ack r) = let a = r.kind in absurd (cc (kind, a))
sorted_in setup past e n kind class room (takes_reset r) = let a = r.kind in absurd (cc (kind, a))
sorted_in setup past e n kind class room (passes_reset r) = let a = r.kind in absurd (cc (kind, a))
sorted_in setup past e n kind class room (takes_answer r) = let a = r.kind in absurd (cc (kind, a))
sorted_in setup past e n kind class room (replays r) = inr r.old
sorted_in setup past e n kind class room (hands_over r) = inl (handed_up setup past e n r.kind r.answer)

-- a NON goes out, and is spelled so
record NonGoes (non : SentNon) (e : Entry) : Type 0 where
  pub content : Content
  pub call : e.call ≡ Plain non.to content
  pub answer : e.answer ≡ Sent non.id
  pub at_is : e.at ≡ non.at
  pub out : e.out ≡ record { to = non.to; bytes = non.bytes } ∷ []
  pub spells : Spells non.bytes (with_head Non non.id content)

non_row : (setup : Setup) (past : List Entry) (e : Entry) (non : SentNon) → Stands setup past e → SendsNon non e
    → NonGoes non e
non_row setup past e non here b = go row.1
  where
    row : IsSpelled b.content × Plains setup past e non.to b.content
    row = subst (Row setup past e) b.call here.row

    go : Plains setup past e non.to b.content → NonGoes non e
    go (inl r) = let k = b.answer in let l = r.answer in absurd (cc (k, l))
    go (inr r) =
        let id_is : r.id ≡ non.id = let k = b.answer in let l = r.answer in cc (k, l) in
        let bytes_is : message_bytes (with_head Non r.id b.content)
        ≡ non.bytes = ap (λ (n : ℕ). message_bytes (with_head Non n b.content)) id_is ∙ sym b.bytes_are in
        let bound : non.id < message_ids = let k = r.gives.next in let l =
        small setup.word (numbers past) in omega (arith, id_is, k, l) in
        record {
          content = b.content;
          call = b.call;
          answer = b.answer;
          at_is = b.at_is;
          out = r.out ∙ ap (λ (x : List ℕ). record { to = non.to; bytes = x } ∷ []) bytes_is;
          spells = subst (λ (x : List ℕ). Spells x (with_head Non non.id b.content)) (sym b.bytes_are)
              (row.0 Non non.id bound);
        }

goes_in : (setup : Setup) (non : SentNon) (t : List Entry) → LayerLaw setup t → Ever (SendsNon non) t
    → Ever (NonGoes non) t
goes_in setup non t law h = Ever_by_law (Stands setup) (SendsNon non) (NonGoes non)
    (λ past e l p. non_row setup past e non l.0 p) t law h

-- what an entry gives its Message ID to within 400 s is that NON
very_non : (setup : Setup) (non : SentNon) (t : List Entry) (b : Entry) → LayerLaw setup t → Ever (SendsNon non) t
    → IsIn b t → b.answer ≡ Sent non.id → b.at ≤ non.at + id_reuse_after → non.at ≤ b.at + id_reuse_after
    → NonGoes non b
very_non setup non t b law sent there answer before after =
    forget (NonGoes non b) t (Ever_map (λ e. (e ≡ b) × NonGoes non e) (λ e. NonGoes non b)
    (λ e k. subst (NonGoes non) k.0 k.1) t
    (one_entry (λ e. e ≡ b) (NonGoes non) (record { at = b.at; id = non.id }) (record { at = non.at; id = non.id })
    (λ e k. subst (Numbers (record { at = b.at; id = non.id })) (sym k) (sent_number b non.id answer))
    (λ e k. sent_number e non.id k.answer ∙ ap (λ (n : ℕ). record { at = n; id = non.id } ∷ []) k.at_is)
    refl before after setup t law there (goes_in setup non t law sent)))

module _ (one other : Setup) (near far : Endpoint) (non : SentNon) (whole : List Hop)
    (near_law : LayerLaw one (near_of whole)) (sent : Ever (SendsNon non) (near_of whole)) where
  -- what is handed up under its Message ID within 400 s is that NON
  hands_it : (r : List Hop) (x : Entry) → ((P : Entry → Type 0) → Ever P (near_of r) → Ever P (near_of whole))
      → ChannelLaw one other near far (Far x ∷ r) → (m : Incoming) → handed x ≡ Some m → m.from ≡ near
      → m.message.id ≡ non.id → x.at ≤ non.at + id_reuse_after → non.at ≤ x.at + (id_reuse_after - last_arrival)
      → HandsUpNon near non x
  hands_it r x lift law m up place id after before = ⊎_elim a_con a_non h.kind
    where
      h : HandedBy x m
      h = handed_so other (far_of r) x m law.far_law.0 up

      call : x.call ≡ Receive near h.bytes
      call = h.call ∙ ap (λ (f : Endpoint). Receive f h.bytes) place

      a_con : m.message.kind ≡ Con → HandsUpNon near non x
      a_con k =
          let b : BegunAs far h.bytes m.message.id x.at (near_of r) =
          begun_as one other near far r x h.bytes m.message law call h.spells k in
          let f = b.from in
          let t = b.till in
          let id_is : non.id ≡ b.con.id = sym (b.id_is ∙ id) in
          absurd (no_plain one (near_of whole) b.con non.at near_law (lift (IsBegun b.con) b.begun)
          (subst (λ (i : ℕ). Ever (SendsPlain i non.at) (near_of whole)) id_is
          (Ever_map (SendsNon non) (SendsPlain non.id non.at) (λ e p. record {
            to = non.to;
            content = p.content;
            call = p.call;
            answer = p.answer;
            at_is = p.at_is;
          }) (near_of whole) sent)) (omega (arith, f, after)) (omega (arith, t, before)))

      a_non : m.message.kind ≡ Non → HandsUpNon near non x
      a_non k =
          let q = some_in (PlainSent far h.bytes x.at) (near_of r)
          (plain_sent one other near far r x h.bytes m.message law call h.spells k) in
          let b : Entry = q.0 in
          let w : PlainSent far h.bytes x.at b = q.2 in
          let same : m.message ≡ with_head Non w.goes.id w.goes.content =
          one_message h.bytes m.message (with_head Non w.goes.id w.goes.content) h.spells w.goes.spells in
          let id_is : w.goes.id ≡ non.id = sym (ap (λ (y : Message). y.id) same) ∙ id in
          let f : b.at ≤ x.at = w.from in
          let t : x.at ≤ b.at + max_latency = w.till in
          let it : NonGoes non b = very_non one non (near_of whole) b near_law sent (lift (λ e. e ≡ b) q.1)
          (w.goes.answer ∙ ap Sent id_is) (omega (arith, f, after)) (omega (arith, t, before)) in
          let content_is : w.goes.content ≡ it.content = let c = w.goes.call in let d = it.call in cc (c, d) in
          let at_is : b.at ≡ non.at = it.at_is in
          record {
            message = m.message;
            spells = subst (Spells non.bytes) (sym (same ∙ (ap (λ (i : ℕ). with_head Non i w.goes.content) id_is
                ∙ ap (λ (c : Content). with_head Non non.id c) content_is))) it.spells;
            up = up ∙ ap (λ (p : Endpoint). Some (record { from = p; message = m.message })) place;
            from = omega (arith, f, at_is);
            till = omega (arith, t, at_is);
          }

  -- what was remembered under its Message ID is that NON
  took : (at : ℕ) (r later : List Hop) → whole ≡ later ++ r → ChannelLaw one other near far r → clock (far_of r) ≤ at
      → non.at ≤ at → at ≤ non.at + max_latency → Ever (HandsUpSince at near non.id) (far_of r)
      → Ever (OnFar (HandsUpNon near non)) r
  took at [] later is law le from till h = absurd h
  took at (Near e ∷ r) later is law le from till h =
      inr (took at r (later ++ Near e ∷ []) (is ∙ sym (append_assoc later (Near e ∷ []) r))
      (earlier one other near far r (Near e) law) le from till h)
  took at (Far x ∷ r) later is law le from till (inl u) =
      let k : IsTaken near non.id x = kept_by near non.id x u.up in
      let young = u.young in
      inl (hands_it r x
      (λ P h. near_later P whole (later ++ Far x ∷ []) r (is ∙ sym (append_assoc later (Far x ∷ []) r)) h) law
      k.message (taken_handed x k.message k.is) k.from_is k.id_is (omega (arith, le, till))
      (omega (arith, young, from)))
  took at (Far x ∷ r) later is law le from till (inr h) =
      let time : clock (far_of r) ≤ x.at = law.far_law.0.time in
      inr (took at r (later ++ Far x ∷ []) (is ∙ sym (append_assoc later (Far x ∷ []) r))
      (earlier one other near far r (Far x) law) (omega (arith, time, le)) from till h)

  -- at the entry at which it arrives
  here : IsTold non.bytes → (r : List Hop) (x : Entry) (later : List Hop) → whole ≡ later ++ Far x ∷ r
      → ChannelLaw one other near far (Far x ∷ r) → NonInRoom other.remembered near non (far_of r) x
      → HandsUpNon near non x ⊎ Ever (OnFar (HandsUpNon near non)) r
  here told r x later is law a = ⊎_elim new old
      (sorted_in other (far_of r) x (record { from = near; message = told.message })
      (ap (λ (m : Message). m.kind) same) told.class a.room
      (sorts_as other (far_of r) x near non.bytes told.message law.far_law.0 a.call told.spells))
    where
      spelled : (c : Content) × Spells non.bytes (with_head Non non.id c)
      spelled = forget ((c : Content) × Spells non.bytes (with_head Non non.id c)) (near_of whole)
          (Ever_map (NonGoes non) (λ e. (c : Content) × Spells non.bytes (with_head Non non.id c))
          (λ e g. (g.content, g.spells)) (near_of whole) (goes_in one non (near_of whole) near_law sent))

      same : told.message ≡ with_head Non non.id spelled.0
      same = one_message non.bytes told.message (with_head Non non.id spelled.0) told.spells spelled.1

      new : handed_by x.answer ≡ Some told.message → HandsUpNon near non x ⊎ Ever (OnFar (HandsUpNon near non)) r
      new h = inl (record {
        message = told.message;
        spells = told.spells;
        up = ap (λ c. handed_in c x.answer) a.call ∙ ap (from_there near) h;
        from = a.from;
        till = a.till;
      })

      old : Remembered (far_of r) x.at near told.message.id
          → HandsUpNon near non x ⊎ Ever (OnFar (HandsUpNon near non)) r
      old h = inr (took x.at r (later ++ Far x ∷ []) (is ∙ sym (append_assoc later (Far x ∷ []) r))
          (earlier one other near far r (Far x) law) law.far_law.0.time a.from a.till
          (subst (λ (i : ℕ). Remembered (far_of r) x.at near i) (ap (λ (m : Message). m.id) same) h))

  in_all : IsTold non.bytes → (r later : List Hop) → whole ≡ later ++ r → ChannelLaw one other near far r
      → Always (λ past h. OnFarThen (NonInRoom other.remembered near non) past h
      → OnFar (HandsUpNon near non) h ⊎ Ever (OnFar (HandsUpNon near non)) past) r
  in_all told [] later is law = tt
  in_all told (Near e ∷ r) later is law = (
    (λ u. absurd u),
    in_all told r (later ++ Near e ∷ []) (is ∙ sym (append_assoc later (Near e ∷ []) r))
        (earlier one other near far r (Near e) law),
  )
  in_all told (Far x ∷ r) later is law = (
    (λ u. here told r x later is law u),
    in_all told r (later ++ Far x ∷ []) (is ∙ sym (append_assoc later (Far x ∷ []) r))
        (earlier one other near far r (Far x) law),
  )

pub nons_taken : (one other : Setup) (near far : Endpoint) (all : List Hop) → ChannelLaw one other near far all
    → NonsTaken other.remembered near all
nons_taken one other near far all law non sent told =
    in_all one other near far non all law.near_law sent told all [] refl law

-- in time

-- the entry that sends it
sent_at : (setup : Setup) (non : SentNon) (all : List Hop) → LayerLaw setup (near_of all)
    → Ever (SendsNon non) (near_of all)
    → (x : Entry) × Ever (OnNear (λ y. y ≡ x)) all × (x.at ≡ non.at)
    × IsIn (record { to = non.to; bytes = non.bytes }) x.out
sent_at setup non [] law h = absurd h
sent_at setup non (Near e ∷ past) law (inl h) =
    let g : NonGoes non e = non_row setup (near_of past) e non law.0 h in
    (e, inl refl, g.at_is, subst (IsIn (record { to = non.to; bytes = non.bytes })) (sym g.out) (inl refl))
sent_at setup non (Near e ∷ past) law (inr h) =
    let k = sent_at setup non past law.1 h in (k.0, inr k.1, k.2, k.3)
sent_at setup non (Far e ∷ past) law h = let k = sent_at setup non past law h in (k.0, inr k.1, k.2, k.3)

module _ (one other : Setup) (near far : Endpoint) (most : ℕ) (non : SentNon) (short : most ≤ max_latency) where
  -- what was handed up before an entry, was so no later
  no_later : (past : List Hop) → LayerLaw other (far_of past) → (at : ℕ) → clock (far_of past) ≤ at
      → at ≤ non.at + most → Ever (OnFar (HandsUpNon near non)) past → Ever (OnFar (HandsUpWithin most near non)) past
  no_later [] law at le till h = absurd h
  no_later (Near e ∷ past) law at le till (inl h) = absurd h
  no_later (Near e ∷ past) law at le till (inr h) = inr (no_later past law at le till h)
  no_later (Far e ∷ past) law at le till (inl h) = inl (record { up = h; soon = omega (arith, le, till) })
  no_later (Far e ∷ past) law at le till (inr h) =
      let time : clock (far_of past) ≤ e.at = law.0.time in
      inr (no_later past law.1 at (omega (arith, time, le)) till h)

  -- where it arrives
  at_arrival : (all : List Hop) → ChannelLaw one other near far all
      → Always (λ past h. OnFarThen (NonInRoom other.remembered near non) past h
      → OnFar (HandsUpNon near non) h ⊎ Ever (OnFar (HandsUpNon near non)) past) all
      → FewCome other.remembered (far_of all) → Ever (OnFar (ArrivesWithin most near non.bytes non.at)) all
      → Ever (OnFar (HandsUpWithin most near non)) all
  at_arrival [] law taken few h = absurd h
  at_arrival (Near e ∷ past) law taken few (inl h) = absurd h
  at_arrival (Near e ∷ past) law taken few (inr h) =
      inr (at_arrival past (earlier one other near far past (Near e) law) taken.1 few h)
  at_arrival (Far e ∷ past) law taken few (inl h) =
      let till = h.till in
      ⊎_elim (λ t. inl (record { up = t; soon = till }))
      (λ t. inr (no_later past law.far_law.1 e.at law.far_law.0.time till t)) (taken.0 (record {
        call = h.call;
        from = h.from;
        till = omega (arith, till, short);
        room = has_room other other.remembered (far_of past) law.far_law.1
            (few_before other.remembered e (far_of past) few)
            e.at law.far_law.0.time;
      }))
  at_arrival (Far e ∷ past) law taken few (inr h) =
      inr (at_arrival past (earlier one other near far past (Far e) law) taken.1
      (few_before other.remembered e (far_of past) few) h)

pub nons_taken_within : (one other : Setup) (near far : Endpoint) (all : List Hop) → ChannelLaw one other near far all
    → NonsTakenWithin other.remembered near far all
nons_taken_within one other near far all law most now non short prompt few sent to told late =
    let b = sent_at one non all law.near_law sent in
    let at = b.2 in
    at_arrival one other near far most non short all law (nons_taken one other near far all law non sent told) few
    (subst (λ (t : ℕ). Ever (OnFar (ArrivesWithin most near non.bytes t)) all) b.2 (prompt b.0 non.bytes b.1
    (subst (λ (f : Endpoint). IsIn (record { to = f; bytes = non.bytes }) b.0.out) to b.3) (omega (arith, at, late))))
