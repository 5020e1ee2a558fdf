-- A run goes on, since its record does.
use Rattle.std.proofs.Common.{◌≡◌, ◌⊎◌, inl, inr, ◌≤◌, ◌<◌, ◌+◌, ◌^◌, ℕ, Bool, false, Some, None, List, []}
use Rattle.std.proofs.Common.{◌∷◌, ◌++◌, refl, ap, subst, sym, ◌∙◌, length, map}
use Rattle.coap_types.specs.Past.{Ever, all_of}
use Rattle.coap_types.specs.declared.endpoint.Endpoint.{Endpoint}
use Rattle.coap_client.specs.Trace as C
use Rattle.coap_server.specs.Trace as S
use Rattle.coap_record.specs.Events as E
use Rattle.coap_record.specs.Events.{Config, Event, What}
use Rattle.coap_record.specs.Legal.{InRange}
use Rattle.coap_record.specs.Record as R
use Rattle.coap_record.specs.Record.{Entry, OfClient, OfServer, OnClient, OnServer, IsOne, Makes, RecordOf, given_in}
use Rattle.coap_record.specs.Record.{FeedsClient, FeedsServer, ClientTick, ServerTick, AreTicks, Given, IsNumber}
use Rattle.coap_promise.specs.Clocks as P
use Rattle.coap_promise.specs.NoFault.{CanCome}
use Rattle.coap_promise.proofs.Progress.EachEventHasATurn.{has_turn}
use Rattle.coap_seen.specs.GoesOn.{Goes, ClientGoes, ServerGoes}
use Rattle.coap_seen.specs.Runs.{Turn, Clocks, Comes, Shows, IsRun, max_late}
use Rattle.coap_seen.proofs.Recording.{two_of, IsRecord, is_record, numbered, given_as, was_given, same_length}
use Rattle.coap_seen.proofs.Told.{ever_right}
use Rattle.coap_seen.proofs.Unrecording.{is_run, same_turns, one_number}

ever_map : {X : Type 0} (of : X → Entry) (P : Entry → Type 0) (l : List X) → Ever (λ c. P (of c)) l → Ever P (map of l)
ever_map of P [] h = absurd h
ever_map of P (x ∷ l) (inl h) = inl h
ever_map of P (x ∷ l) (inr h) = inr (ever_map of P l h)

on_client : (P : Entry → Type 0) (inputs : List C.Call) (calls : List Entry) → OnClient inputs calls
    → Ever (λ c. P (OfClient c)) inputs → Ever P calls
on_client P inputs calls on h =
    let outs : List C.Call = map (λ p. C.NextOut (Some p)) on.outs in
    let reports : List C.Call = map (λ r. C.NextReport (Some r)) on.reports in
    let Q : C.Call → Type 0 = λ c. P (OfClient c) in
    subst (Ever P) (sym on.is) (ever_map OfClient P (C.NextReport None ∷ (reports ++ C.NextOut None ∷ (outs ++ inputs)))
    (inr (ever_right Q reports (C.NextOut None ∷ (outs ++ inputs)) (inr (ever_right Q outs inputs h)))))

on_server : (P : Entry → Type 0) (inputs : List S.Call) (calls : List Entry) → OnServer inputs calls
    → Ever (λ c. P (OfServer c)) inputs → Ever P calls
on_server P inputs calls on h =
    let outs : List S.Call = map (λ p. S.NextOut (Some p)) on.outs in
    let Q : S.Call → Type 0 = λ c. P (OfServer c) in
    subst (Ever P) (sym on.is) (ever_map OfServer P (S.NextOut None ∷ (outs ++ inputs))
    (inr (ever_right Q outs inputs h)))

one_of : {X : Type 0} (Is Q : X → Type 0) (l : List X) → IsOne Is false l → ((x : X) → Is x → Q x) → Ever Q l
one_of Is Q l h f = subst (Ever Q) (sym h.2) (inl (f h.0 h.1))

ever_of : {X : Type 0} (P Q : X → Type 0) → ((x : X) → P x → Q x) → (l : List X) → Ever P l → Ever Q l
ever_of P Q f [] h = absurd h
ever_of P Q f (x ∷ l) (inl h) = inl (f x h)
ever_of P Q f (x ∷ l) (inr h) = inr (ever_of P Q f l h)

first_of_ticks : {X : Type 0} (IsTick : Bool → X → Type 0) (l : List X) → AreTicks IsTick false l
    → Ever (IsTick false) l
first_of_ticks IsTick [] h = absurd h
first_of_ticks IsTick (x ∷ l) h = inl h.0

module _ (config : Config) (c : Clocks) (turns : List Turn) (word : ℕ) (run : IsRun config c turns)
    (small : word < 2 ^ 64) where
  k : IsRecord config c turns
  k = is_record config c turns run

  lengths : length k.turns ≡ length turns
  lengths = same_length config c k.turns turns k.same

  record Next (at : ℕ) (what : What) : Type 0 where
    entries : List Entry
    makes : Makes config.addresses k.turns at word what false entries
    goes : IsRun config c (record { at = at; word = word; calls = entries } ∷ turns)

  next : (at : ℕ) (what : What) → at < 2 ^ 64 → InRange what
      → P.MayCome config.addresses (two_of c) k.turns at what → CanCome config.addresses k.turns what → Next at what
  next at what least range may can =
      let event : Event = record { at = at; word = word; what = what } in
      let t = has_turn config (map (λ (t : R.Turn). t.event) k.turns) k.turns event k.run can in
      let r : R.Turn = record { event = event; refused = false; entries = t.entries } in
      let more = is_run config c (event ∷ map (λ (t : R.Turn). t.event) k.turns) (r ∷ k.turns) t.made (record {
        clocks = k.legal.clocks;
        range = k.legal.range;
        events = (record { at = least; word = small; range = range; comes = may }, k.legal.events);
      }) in
      record {
        entries = t.entries;
        makes = t.made.made.0;
        goes = subst (λ l. IsRun config c (record { at = at; word = word; calls = t.entries } ∷ l))
            (same_turns config c k.turns turns k.same) more;
      }

  -- what comes to an end, as an event
  record Coming (to from : Endpoint) (bytes : List ℕ) : Type 0 where
    number : ℕ
    given : Given
    is : IsNumber config.addresses number given k.turns
    to_is : given.packet.to ≡ to
    from_is : given.from ≡ from
    bytes_is : given.packet.bytes ≡ bytes
    late : (now : ℕ) × P.Shows config.addresses (two_of c) (length k.turns) given.from now
        × (now ≤ given.at + max_late)

  coming : (to from : Endpoint) (bytes : List ℕ) → Comes config c turns to from bytes
      → ((from ≡ config.addresses.client → ⊥) × (from ≡ config.addresses.server → ⊥)) ⊎ Coming to from bytes
  coming to from bytes (inl stranger) = inl (stranger.0, stranger.1)
  coming to from bytes (inr h) =
      let w = was_given config c k.turns turns k.same from to bytes (length turns) h in
      let g = given_as config c w.at from to bytes in
      let n = numbered g (all_of (given_in config.addresses) k.turns) w.there in
      inr (record {
        number = n.0;
        given = g;
        is = n.1;
        to_is = refl;
        from_is = refl;
        bytes_is = refl;
        late = (w.now, subst (λ m. Shows config c m from w.now) (sym lengths) w.shows, w.late);
      })

  goes_by : (at : ℕ) (what : What) (Is : Entry → Type 0) → (n : Next at what) → Ever Is n.entries
      → Goes config c turns word at Is
  goes_by at what Is n h = (record { at = at; word = word; calls = n.entries }, refl, h, n.goes)

  abbrev Fed : ℕ → Endpoint → List ℕ → Entry → Type 0
  Fed at from bytes e = (call : C.Call) × (e ≡ OfClient call) × FeedsClient at word from bytes call

  fed : (at : ℕ) → at < 2 ^ 64 → c.client (length k.turns) ≡ at → (from : Endpoint) (bytes : List ℕ)
      → ((from ≡ config.addresses.client → ⊥) × (from ≡ config.addresses.server → ⊥))
      ⊎ Coming config.addresses.client from bytes → Goes config c turns word at (Fed at from bytes)
  fed at least shows from bytes (inl stranger) =
      let n = next at (E.StrangerToClient from bytes) least tt (stranger.0, stranger.1, shows) tt in
      goes_by at (E.StrangerToClient from bytes) (Fed at from bytes) n
      (on_client (Fed at from bytes) n.makes.0 n.entries
      n.makes.2 (one_of (FeedsClient at word from bytes) (λ call. Fed at from bytes (OfClient call)) n.makes.0 n.makes.1
      (λ call h. (call, refl, h))))
  fed at least shows from bytes (inr d) =
      let n = next at (E.Deliver d.number) least tt (d.given, d.is, inl (d.to_is, shows), d.late)
      (d.given, d.is, inl d.to_is) in
      goes_by at (E.Deliver d.number) (Fed at from bytes) n (delivered n.entries n.makes)
    where
      delivered : (entries : List Entry)
          → Makes config.addresses k.turns at word (E.Deliver d.number) false entries → Ever (Fed at from bytes) entries
      delivered entries m =
          let e = one_number d.number m.0 d.given (all_of (given_in config.addresses) k.turns) m.1 d.is in
          elim m.2 [
            | inl s ↦ absurd (run.apart
                (sym d.to_is ∙ (sym (ap (λ (x : Given). x.packet.to) e) ∙ s.0)))
            | inr s ↦ on_client (Fed at from bytes) s.1 entries s.3
                (one_of (FeedsClient at word m.0.from m.0.packet.bytes) (λ call. Fed at from bytes
                (OfClient call)) s.1 s.2
                (λ call h. (
                  call,
                  refl,
                  subst (λ b. FeedsClient at word from b call)
                      (ap (λ (x : Given). x.packet.bytes) e ∙ d.bytes_is)
                      (subst (λ f. FeedsClient at word f m.0.packet.bytes call)
                      (ap (λ (x : Given). x.from) e ∙ d.from_is) h),
                )))
          ]

  pub client_goes : c.client (length turns) < 2 ^ 64 → ClientGoes config c turns word
  client_goes least =
      let at = c.client (length turns) in
      let shows : c.client (length k.turns) ≡ at = ap c.client lengths in
      record {
        calls = λ r range.
            let n = next at (E.Calls r) least range shows tt in
            goes_by at (E.Calls r) _ n (on_client _ n.makes.0 n.entries n.makes.2
            (one_of _ _ n.makes.0 n.makes.1 (λ call h. (h.0, ap OfClient h.1))));
        observes = λ path range.
            let n = next at (E.Observes path) least range shows tt in
            goes_by at (E.Observes path) _ n (on_client _ n.makes.0 n.entries n.makes.2
            (one_of _ _ n.makes.0 n.makes.1 (λ call h. (h.0, ap OfClient h.1))));
        cancels = λ number range.
            let n = next at (E.Cancels number) least range shows tt in
            goes_by at (E.Cancels number) _ n (on_client _ n.makes.0 n.entries n.makes.2
            (one_of _ _ n.makes.0 n.makes.1.0 (λ call h. (h.0, ap OfClient h.1))));
        forgets = λ number range.
            let n = next at (E.Forgets number) least range shows tt in
            goes_by at (E.Forgets number) _ n (on_client _ n.makes.0 n.entries n.makes.2
            (one_of _ _ n.makes.0 n.makes.1.0 (λ call h. (h.0, h.1, ap OfClient h.2))));
        feeds = λ from bytes comes. fed at least shows from bytes (coming config.addresses.client from bytes comes);
        ticks =
            let n = next at E.TickClient least tt shows tt in
            goes_by at E.TickClient _ n (on_client _ n.makes.0 n.entries n.makes.2
            (ever_of (ClientTick at word false) _ (λ call h. (call, refl, h)) n.makes.0
            (first_of_ticks (ClientTick at word) n.makes.0 n.makes.1)));
      }

  abbrev FedServer : ℕ → Endpoint → List ℕ → Entry → Type 0
  FedServer at from bytes e = (call : S.Call) × (e ≡ OfServer call) × FeedsServer at word from bytes call

  fed_server : (at : ℕ) → at < 2 ^ 64 → c.server (length k.turns) ≡ at → (from : Endpoint) (bytes : List ℕ)
      → ((from ≡ config.addresses.client → ⊥) × (from ≡ config.addresses.server → ⊥))
      ⊎ Coming config.addresses.server from bytes → Goes config c turns word at (FedServer at from bytes)
  fed_server at least shows from bytes (inl stranger) =
      let n = next at (E.StrangerToServer from bytes) least tt (stranger.0, stranger.1, shows) tt in
      goes_by at (E.StrangerToServer from bytes) (FedServer at from bytes) n
      (on_server (FedServer at from bytes) n.makes.0
      n.entries n.makes.2 (one_of (FeedsServer at word from bytes) (λ call. FedServer at from bytes (OfServer call))
      n.makes.0 n.makes.1 (λ call h. (call, refl, h))))
  fed_server at least shows from bytes (inr d) =
      let n = next at (E.Deliver d.number) least tt (d.given, d.is, inr (d.to_is, shows), d.late)
      (d.given, d.is, inr d.to_is) in
      goes_by at (E.Deliver d.number) (FedServer at from bytes) n (delivered n.entries n.makes)
    where
      delivered : (entries : List Entry)
          → Makes config.addresses k.turns at word (E.Deliver d.number) false entries
          → Ever (FedServer at from bytes) entries
      delivered entries m =
          let e = one_number d.number m.0 d.given (all_of (given_in config.addresses) k.turns) m.1 d.is in
          elim m.2 [
            | inr s ↦ absurd (run.apart
                (sym s.0 ∙ (ap (λ (x : Given). x.packet.to) e ∙ d.to_is)))
            | inl s ↦ on_server (FedServer at from bytes) s.1 entries s.3
                (one_of (FeedsServer at word m.0.from m.0.packet.bytes) (λ call. FedServer at from bytes
                (OfServer call))
                s.1 s.2 (λ call h. (
                  call,
                  refl,
                  subst (λ b. FeedsServer at word from b call)
                      (ap (λ (x : Given). x.packet.bytes) e ∙ d.bytes_is)
                      (subst (λ f. FeedsServer at word f m.0.packet.bytes call)
                      (ap (λ (x : Given). x.from) e ∙ d.from_is) h),
                )))
          ]

  pub server_goes : c.server (length turns) < 2 ^ 64 → ServerGoes config c turns word
  server_goes least =
      let at = c.server (length turns) in
      let shows : c.server (length k.turns) ≡ at = ap c.server lengths in
      record {
        sets = λ path format body is_path is_format bytes.
            let n = next at (E.Sets path format body) least (is_path, is_format, bytes) shows tt in
            goes_by at (E.Sets path format body) _ n (on_server _ n.makes.0 n.entries n.makes.2
            (one_of _ _ n.makes.0 n.makes.1 (λ call h. (call, refl, h.0, h.1, h.2))));
        removes = λ path is_path.
            let n = next at (E.Removes path) least is_path shows tt in
            goes_by at (E.Removes path) _ n (on_server _ n.makes.0 n.entries n.makes.2
            (one_of _ _ n.makes.0 n.makes.1.0 (λ call h. (call, refl, h.0, h.1, h.2))));
        feeds = λ from bytes comes. fed_server at least shows from bytes
            (coming config.addresses.server from bytes comes);
        ticks =
            let n = next at E.TickServer least tt shows tt in
            goes_by at E.TickServer _ n (on_server _ n.makes.0 n.entries n.makes.2
            (ever_of (ServerTick at word false) _ (λ call h. (call, refl, h)) n.makes.0
            (first_of_ticks (ServerTick at word) n.makes.0 n.makes.1)));
      }
