-- What one client and the server see of a run of many: their calls, at the instants of the run, and what they made.
use Rattle.std.proofs.Common.{◌≡◌, ◌⊎◌, inl, inr, ⊎_elim, ◌≤◌, ◌≢◌, ℕ, suc, Bool, true, false, cond, if◌then◌else◌}
use Rattle.std.proofs.Common.{List, []}
use Rattle.std.proofs.Common.{◌∷◌, ◌++◌, length, refl, ap, sym, ◌∙◌, subst, arith}
use Rattle.coap_types.specs.Past.{Always, Ever, Sometime}
use Rattle.coap_types.proofs.Facts.Endpoints.{same_endpoint_is, same_endpoint_self}
use Rattle.coap_types.proofs.Facts.Traces.{Ever_back, Ever_front, Ever_map}
use Rattle.coap_types.specs.SameEndpoint.{same_endpoint}
use Rattle.coap_types.specs.declared.endpoint.Endpoint.{Endpoint}
use Rattle.coap_layer.specs.Trace.{Packet}
use Rattle.coap_client.specs.Trace as C
use Rattle.coap_server.specs.Trace as S
use Rattle.coap_promise.specs.Clocks as W
use Rattle.coap_record.specs.Events as E
use Rattle.coap_record.specs.Legal.{max_delivery}
use Rattle.coap_record.specs.Record as R
use Rattle.coap_record.specs.Record.{Given}
use Rattle.coap_many.specs.Clients.{Client, Config, IsClient, world_of}
use Rattle.coap_many.specs.Clocks.{Clocks, of_two}
use Rattle.coap_many.specs.Entries.{Entry, OfClient, OfServer, client_of, server_trace}
use Rattle.coap_many.specs.Legal.{IsConfig}
use Rattle.coap_many.specs.View.{view_entries}
use Rattle.coap_many.proofs.Entries.{client_view}
use Rattle.coap_many.proofs.Owned.{one_client}
use Rattle.coap_many.proofs.Seen.{is_member}
use Rattle.coap_many.proofs.Told.{trace_is}
use Rattle.coap_order.specs.Inputs.{is_client_input, is_server_input}
use Rattle.coap_order.specs.Run.{WasMade, behind, client_waits, given_at, made_at}
use Rattle.coap_order.proofs.Channel.{AllGo, Goes, LastBy, last_later, made_in}
use Rattle.coap_order.proofs.Handed.{client_at, fed_client, fed_server, server_at}
use Rattle.coap_order_many.specs.Run.{MadeByClient, MadeByServer, MayFeed, MayMake, made_by_client, made_by_server}
use Rattle.coap_order_many.specs.Run.{server_waits}

-- the instants of the calls of a client and of the server
abbrev pub view_places : Endpoint → List Entry → List ℕ
view_places me [] = []
view_places me (OfClient who call ∷ past) = (if same_endpoint who me then length past ∷ [] else [])
    ++ view_places me past
view_places me (OfServer call ∷ past) = length past ∷ view_places me past

-- whose call it is
pub not_same : (who me : Endpoint) → same_endpoint who me ≡ false → who ≡ me → ⊥
not_same who me e same = let s = subst (λ (x : Endpoint). same_endpoint who x ≡ true) same (same_endpoint_self who) in
    absurd (cc (e, s))

last_place : (me : Endpoint) (run : List Entry) → LastBy (length run) (view_places me run)
last_place me [] = tt
last_place me (OfServer call ∷ past) = omega arith
last_place me (OfClient who call ∷ past) = by (same_endpoint who me) (last_place me past)
  where
    by : (b : Bool) → LastBy (length past) (view_places me past)
        → LastBy (suc (length past)) ((if b then length past ∷ [] else []) ++ view_places me past)
    by true h = omega arith
    by false h = last_later (length past) (suc (length past)) (view_places me past) (omega arith) h

-- a datagram that was put out, as it was given out
given_of : (b : Bool) (at : ℕ) (from : Endpoint) (ps : List Packet) (p : Packet) → Ever (λ q. q ≡ p) (cond b ps [])
    → Ever (λ (x : Given). x ≡ record { at = at; from = from; packet = p }) (cond b (given_at at from ps) [])
given_of false at from ps p h = absurd h
given_of true at from [] p h = absurd h
given_of true at from (q ∷ ps) p (inl h) =
    inl (ap (λ (z : Packet). record { at = at; from = from; packet = z }) h)
given_of true at from (q ∷ ps) p (inr h) = inr (given_of true at from ps p h)

module _ (config : Config) (range : IsConfig config) (c : Clocks) (k : Client) (client : IsClient config k) where
  abbrev pub world : E.Config
  world = world_of config k

  abbrev pub two : W.Clocks
  two = of_two c k.at

  abbrev pub seen : List Entry → List R.Entry
  seen es = view_entries k.at es

  pub apart : k.at ≡ config.server → ⊥
  apart = (range.each k client).addresses.two

  -- what was made in the run is made there, at its instant

  module _ (n : ℕ) (bytes : List ℕ) where
    abbrev FromServer : Given → Type 0
    FromServer g = WasMade world two max_delivery n config.server k.at bytes g

    abbrev FromClient : Given → Type 0
    FromClient g = WasMade world two max_delivery n k.at config.server bytes g

    server_here : (past : List Entry) (call : S.Call)
        → MadeByServer config c n (record { to = k.at; bytes = bytes }) past (OfServer call)
        → Ever FromServer (made_at world two (length past) (seen past) (R.OfServer call))
    server_here past call h =
        let p : Packet = record { to = k.at; bytes = bytes } in
        let g : Given = record { at = c.server (length past); from = config.server; packet = p } in
        let there = subst (λ (t : List S.Call). Ever (λ q. q ≡ p) (made_by_server config t call))
        (sym (trace_is config k past))
        h.0 in
        Ever_map (λ x. x ≡ g) FromServer
        (λ x e. subst FromServer (sym e)
        (record { by = refl; packet = refl; now = c.server n; shown = inr (refl, refl); young = h.1 }))
        (made_at world two (length past) (seen past) (R.OfServer call))
        (given_of (is_server_input call) (c.server (length past)) config.server
        (behind (server_waits config (R.server_trace world (seen past)))
        (server_waits config (call ∷ R.server_trace world (seen past)))) p there)

    client_here : (past : List Entry) (who : Endpoint) (call : C.Call)
        → MadeByClient config c k n (record { to = config.server; bytes = bytes }) past (OfClient who call)
        → Ever FromClient (made_at world two (length past) (seen past) (R.OfClient call))
    client_here past who call h =
        let p : Packet = record { to = config.server; bytes = bytes } in
        let g : Given = record { at = c.clients k.at (length past); from = k.at; packet = p } in
        let there = subst (λ (t : List C.Call). Ever (λ q. q ≡ p) (made_by_client config k t call))
        (sym (client_view k.at past)) h.1 in
        Ever_map (λ x. x ≡ g) FromClient
        (λ x e. subst FromClient (sym e)
        (record { by = refl; packet = refl; now = c.clients k.at n; shown = inl (refl, refl); young = h.2 }))
        (made_at world two (length past) (seen past) (R.OfClient call))
        (given_of (is_client_input call) (c.clients k.at (length past)) k.at
        (behind (client_waits world (R.client_of (seen past))) (client_waits world (call ∷ R.client_of (seen past))))
        p there)

    abbrev made_there : List Entry → List Given
    made_there run = made_in world two (view_places k.at run) (seen run)

    -- one more entry of a client
    over : (P : Given → Type 0) (past : List Entry) (call : C.Call) (b : Bool) → Ever P (made_there past)
        → Ever P (made_in world two ((if b then length past ∷ [] else []) ++ view_places k.at past)
        ((if b then R.OfClient call ∷ [] else []) ++ seen past))
    over P past call true h = Ever_back P (made_at world two (length past) (seen past) (R.OfClient call))
        (made_there past) h
    over P past call false h = h

    pub server_made : (run : List Entry)
        → Sometime (MadeByServer config c n (record { to = k.at; bytes = bytes })) run → Ever FromServer
        (made_there run)
    server_made [] h = h
    server_made (OfServer call ∷ past) (inl h) =
        Ever_front FromServer (made_at world two (length past) (seen past) (R.OfServer call)) (made_there past)
        (server_here past call h)
    server_made (OfServer call ∷ past) (inr h) =
        Ever_back FromServer (made_at world two (length past) (seen past) (R.OfServer call)) (made_there past)
        (server_made past h)
    server_made (OfClient who call ∷ past) (inl h) = absurd h
    server_made (OfClient who call ∷ past) (inr h) =
        over FromServer past call (same_endpoint who k.at) (server_made past h)

    pub client_made : (run : List Entry)
        → Sometime (MadeByClient config c k n (record { to = config.server; bytes = bytes })) run
        → Ever FromClient (made_there run)
    client_made [] h = h
    client_made (OfServer call ∷ past) (inl h) = absurd h
    client_made (OfServer call ∷ past) (inr h) =
        Ever_back FromClient (made_at world two (length past) (seen past) (R.OfServer call)) (made_there past)
        (client_made past h)
    client_made (OfClient who call ∷ past) (inr h) =
        over FromClient past call (same_endpoint who k.at) (client_made past h)
    client_made (OfClient who call ∷ past) (inl h) = by (same_endpoint who k.at) refl
      where
        by : (b : Bool) → same_endpoint who k.at ≡ b
            → Ever FromClient (made_in world two ((if b then length past ∷ [] else []) ++ view_places k.at past)
            ((if b then R.OfClient call ∷ [] else []) ++ seen past))
        by true e = Ever_front FromClient (made_at world two (length past) (seen past) (R.OfClient call))
            (made_there past)
            (client_here past who call h)
        by false e = absurd (not_same who k.at e h.0)

  -- what may be fed in the run may be there

  of_server : (past : List Entry) (bytes : List ℕ) → MayFeed config c past k.at config.server bytes
      → Ever (WasMade world two max_delivery (length past) config.server k.at bytes)
      (made_in world two (view_places k.at past) (seen past))
  of_server past bytes (inl h) = absurd ((range.each h.0 h.1).addresses.two h.2)
  of_server past bytes (inr (inl h)) = server_made (length past) bytes past h.1
  of_server past bytes (inr (inr none)) = absurd (none (inl refl))

  of_client : (past : List Entry) (bytes : List ℕ) → MayFeed config c past config.server k.at bytes
      → Ever (WasMade world two max_delivery (length past) k.at config.server bytes)
      (made_in world two (view_places k.at past) (seen past))
  of_client past bytes (inl h) =
      let same : h.0 ≡ k = one_client config.clients range.apart h.0 k h.1 client h.2 in
      client_made (length past) bytes past
      (subst (λ (l : Client). Sometime (MadeByClient config c l (length past)
      (record { to = config.server; bytes = bytes })) past) same h.3)
  of_client past bytes (inr (inl h)) = absurd (apart h.0)
  of_client past bytes (inr (inr none)) = absurd (none (inr (is_member k config.clients client)))

  goes_server : (past : List Entry) (call : S.Call) → MayMake config c past (OfServer call)
      → Goes world two max_delivery (length past) (view_places k.at past) (seen past) (R.OfServer call)
  goes_server past call may = record {
    later = last_place k.at past;
    at = server_at (c.server (length past)) (MayFeed config c past config.server) call may.1;
    to_client = λ bytes fed. absurd fed;
    to_server = λ bytes fed. of_client past bytes
        (fed_server (c.server (length past)) (MayFeed config c past config.server) k.at bytes call fed may.1);
  }

  goes_client : (past : List Entry) (call : C.Call) → MayMake config c past (OfClient k.at call)
      → Goes world two max_delivery (length past) (view_places k.at past) (seen past) (R.OfClient call)
  goes_client past call may = record {
    later = last_place k.at past;
    at = client_at (c.clients k.at (length past)) (MayFeed config c past k.at) call may.2;
    to_client = λ bytes fed. of_server past bytes
        (fed_client (c.clients k.at (length past)) (MayFeed config c past k.at) config.server bytes call fed may.2);
    to_server = λ bytes fed. absurd fed;
  }

  pub all_go : (run : List Entry) → Always (MayMake config c) run
      → AllGo world two max_delivery (view_places k.at run) (seen run)
  all_go [] may = tt
  all_go (OfServer call ∷ past) may = (goes_server past call may.0, all_go past may.1)
  all_go (OfClient who call ∷ past) may = by (same_endpoint who k.at) refl (all_go past may.1)
    where
      by : (b : Bool) → same_endpoint who k.at ≡ b
          → AllGo world two max_delivery (view_places k.at past) (seen past)
          → AllGo world two max_delivery ((if b then length past ∷ [] else []) ++ view_places k.at past)
          ((if b then R.OfClient call ∷ [] else []) ++ seen past)
      by true e rest = (
        goes_client past call
            (subst (λ (w : Endpoint). MayMake config c past (OfClient w call)) (same_endpoint_is who k.at e) may.0),
        rest,
      )
      by false e rest = rest
