-- What event each call of a run is, and that it is legal.
use Rattle.std.proofs.Common.{◌≡◌, inl, inr, ℕ, ◌<◌, ◌^◌, Bool, true, false, List, []}
use Rattle.std.proofs.Common.{◌∷◌, refl, ap, sym, ◌∙◌, subst, length, arith}
use Rattle.coap_types.specs.Past.{Ever, all_of}
use Rattle.coap_types.specs.declared.endpoint.Endpoint.{Endpoint}
use Rattle.coap_layer.specs.Trace.{Packet}
use Rattle.coap_client.specs.Trace as C
use Rattle.coap_server.specs.Trace as S
use Rattle.coap_record.specs.Events.{Calls, Cancels, Config, Deliver, Forgets, Observes, Removes, Sets}
use Rattle.coap_record.specs.Events.{StrangerToClient}
use Rattle.coap_record.specs.Events.{StrangerToServer, TickClient, TickServer, What}
use Rattle.coap_record.specs.Legal.{InRange}
use Rattle.coap_record.specs.Record.{AreTicks, ClientTick, Entry, Given, IsNumber, Makes, OnClient, OnServer}
use Rattle.coap_record.specs.Record.{ServerTick}
use Rattle.coap_record.specs.Record.{Turn, given_in}
use Rattle.coap_record.specs.declared.addresses.Addresses.{Addresses}
use Rattle.coap_promise.specs.Clocks.{Clocks, MayCome, Shows}
use Rattle.coap_record.specs.Legal.{max_delivery}
use Rattle.coap_order.specs.Inputs.{is_client_input, is_server_input}
use Rattle.coap_order.specs.Run.{MayCall, MayFeed, MayServe, WasMade, made}
use Rattle.coap_order.proofs.Givens.{found_in, numbered}

module _ (config : Config) (c : Clocks) (run : List Entry) (turns : List Turn) (len : length turns ≡ length run)
    (gave : (g : Given) → Ever (λ x. x ≡ g) (made config c run)
    → Ever (λ x. x ≡ g) (all_of (given_in config.addresses) turns)) where
  abbrev addresses : Addresses
  addresses = config.addresses

  -- an event that these calls of an end are, at what its clock shows
  pub record Is {X : Type 0} (On : List X → List Entry → Type 0) (at : ℕ) (calls : List X) : Type 0 where
    pub what : What
    pub word : ℕ
    pub refused : Bool
    pub word_in : word < 2 ^ 64
    pub range : InRange what
    pub comes : MayCome addresses c turns at what
    pub makes : (entries : List Entry) → On calls entries → Makes addresses turns at word what refused entries

  zero_in : 0 < 2 ^ 64
  zero_in = omega arith

  -- a datagram that was made before
  record Came (n : ℕ) (from to : Endpoint) (bytes : List ℕ) : Type 0 where
    given : Given
    was : WasMade config c max_delivery n from to bytes given
    number : ℕ
    is : IsNumber addresses number given turns

  came : (from to : Endpoint) (bytes : List ℕ) → Ever (WasMade config c max_delivery (length run) from to bytes)
      (made config c run)
      → Came (length turns) from to bytes
  came from to bytes h =
      let k = found_in (WasMade config c max_delivery (length run) from to bytes) (made config c run) h in
      let n = numbered k.0 (all_of (given_in addresses) turns) (gave k.0 k.2) in
      record {
        given = k.0;
        was = subst (λ (i : ℕ). WasMade config c max_delivery i from to bytes k.0) (sym len) k.1;
        number = n.0;
        is = n.1;
      }

  -- of the server

  abbrev server_at : ℕ
  server_at = c.server (length turns)

  server_now : {now : ℕ} → c.server (length run) ≡ now → now ≡ server_at
  server_now e = sym e ∙ ap c.server (sym len)

  pub server_idles : Is OnServer server_at []
  server_idles = record {
    what = TickServer;
    word = 0;
    refused = true;
    word_in = zero_in;
    range = tt;
    comes = refl;
    makes = λ entries on. ([], tt, on);
  }

  fed_server : (now : ℕ) (from : Endpoint) (bytes : List ℕ) (word : ℕ) (call : S.Call)
      → ((at : ℕ) (other : Endpoint) (same : List ℕ) → now ≡ at → other ≡ from → same ≡ bytes
      → (up : _) × (came : _) × (h : _) × (below : _) × (call ≡ S.Feeds at other same word up came h below))
      → now ≡ server_at → word < 2 ^ 64 → MayFeed config c max_delivery run addresses.server from bytes
      → Is OnServer server_at (call ∷ [])
  fed_server now from bytes word call is e word_in (inl h) =
      let k = came from addresses.server bytes h in
      let to : k.given.packet.to ≡ addresses.server = ap (λ (p : Packet). p.to) k.was.packet in
      record {
        what = Deliver k.number;
        word = word;
        refused = false;
        word_in = word_in;
        range = tt;
        comes = (
          k.given,
          k.is,
          inr (to, refl),
          (
            k.was.now,
            subst (λ (f : Endpoint). Shows addresses c (length turns) f k.was.now) (sym k.was.by) k.was.shown,
            k.was.young,
          ),
        );
        makes = λ entries on. (
          k.given,
          k.is,
          inl (
            to,
            call ∷ [],
            (
              call,
              is server_at k.given.from k.given.packet.bytes
                  e k.was.by (ap (λ (p : Packet). p.bytes) k.was.packet),
              refl,
            ),
            on,
          ),
        );
      }
  fed_server now from bytes word call is e word_in (inr h) = record {
    what = StrangerToServer from bytes;
    word = word;
    refused = false;
    word_in = word_in;
    range = tt;
    comes = (h.0, h.1, refl);
    makes = λ entries on. (call ∷ [], (call, is server_at from bytes e refl refl, refl), on);
  }

  ticked_server : (at word : ℕ) (call : S.Call) (answer : Bool) → ServerTick at word answer call
      → AreTicks (ServerTick at word) answer (call ∷ [])
  ticked_server at word call true h = (h, tt)
  ticked_server at word call false h = (h, tt)

  pub served : (call : S.Call) → is_server_input call ≡ true → MayServe config c max_delivery run call
      → Is OnServer server_at (call ∷ [])
  served (S.Sets now path format body answer left) input may =
      let e : now ≡ server_at = server_now may.0 in record {
        what = Sets path format body;
        word = 0;
        refused = false;
        word_in = zero_in;
        range = (may.1, may.2, may.3);
        comes = refl;
        makes = λ entries on. (
          S.Sets now path format body answer left ∷ [],
          (
            S.Sets now path format body answer left,
            (answer, left, ap (λ (n : ℕ). S.Sets n path format body answer left) e),
            refl,
          ),
          on,
        );
      }
  served (S.Removes now path answer left) input may =
      let e : now ≡ server_at = server_now may.0 in record {
        what = Removes path;
        word = 0;
        refused = false;
        word_in = zero_in;
        range = may.1;
        comes = refl;
        makes = λ entries on. (
          S.Removes now path answer left ∷ [],
          (
            (
              S.Removes now path answer left,
              (answer, left, ap (λ (n : ℕ). S.Removes n path answer left) e),
              refl,
            ),
            refl,
          ),
          on,
        );
      }
  served (S.Feeds now from bytes word up came h below) input may =
      fed_server now from bytes word (S.Feeds now from bytes word up came h below)
      (λ at other same e f g. (
        up,
        came,
        h,
        below,
        ap (λ (n : ℕ). S.Feeds n from bytes word up came h below) e
            ∙ (ap (λ (x : Endpoint). S.Feeds at x bytes word up came h below) (sym f)
            ∙ ap (λ (x : List ℕ). S.Feeds at other x word up came h below) (sym g)),
      ))
      (server_now may.0) may.1 may.2
  served (S.Ticks now word below room due passed h id answer) input may =
      let e : now ≡ server_at = server_now may.0 in record {
        what = TickServer;
        word = word;
        refused = answer;
        word_in = may.1;
        range = tt;
        comes = refl;
        makes = λ entries on. (
          S.Ticks now word below room due passed h id answer ∷ [],
          ticked_server server_at word (S.Ticks now word below room due passed h id answer) answer (
            below,
            room,
            due,
            passed,
            h,
            id,
            ap (λ (n : ℕ). S.Ticks n word below room due passed h id answer) e,
          ),
          on,
        );
      }
  served (S.Delays path ms answer) input may = absurd may
  served (S.Plains path answer) input may = absurd may
  served (S.Refuses now from bytes word code up came response below) input may = absurd may
  served (S.Forgets peer) input may = absurd may
  served (S.NextOut answer) input may = absurd (cc input)
  served (S.Gets path answer) input may = absurd (cc input)
  served (S.TellsApplied answer) input may = absurd (cc input)

  -- of the client

  abbrev client_at : ℕ
  client_at = c.client (length turns)

  client_now : {now : ℕ} → c.client (length run) ≡ now → now ≡ client_at
  client_now e = sym e ∙ ap c.client (sym len)

  pub client_idles : Is OnClient client_at []
  client_idles = record {
    what = TickClient;
    word = 0;
    refused = true;
    word_in = zero_in;
    range = tt;
    comes = refl;
    makes = λ entries on. ([], tt, on);
  }

  fed_client : (now : ℕ) (from : Endpoint) (bytes : List ℕ) (word : ℕ) (call : C.Call)
      → ((at : ℕ) (other : Endpoint) (same : List ℕ) → now ≡ at → other ≡ from → same ≡ bytes
      → (up : _) × (settled : _) × (event : _) × (sent : _) × (token : _) × (kept : _)
      × (call ≡ C.Feeds at other same word up settled event sent token kept))
      → now ≡ client_at → word < 2 ^ 64 → MayFeed config c max_delivery run addresses.client from bytes
      → Is OnClient client_at (call ∷ [])
  fed_client now from bytes word call is e word_in (inl h) =
      let k = came from addresses.client bytes h in
      let to : k.given.packet.to ≡ addresses.client = ap (λ (p : Packet). p.to) k.was.packet in
      record {
        what = Deliver k.number;
        word = word;
        refused = false;
        word_in = word_in;
        range = tt;
        comes = (
          k.given,
          k.is,
          inl (to, refl),
          (
            k.was.now,
            subst (λ (f : Endpoint). Shows addresses c (length turns) f k.was.now) (sym k.was.by) k.was.shown,
            k.was.young,
          ),
        );
        makes = λ entries on. (
          k.given,
          k.is,
          inr (
            to,
            call ∷ [],
            (
              call,
              is client_at k.given.from k.given.packet.bytes
                  e k.was.by (ap (λ (p : Packet). p.bytes) k.was.packet),
              refl,
            ),
            on,
          ),
        );
      }
  fed_client now from bytes word call is e word_in (inr h) = record {
    what = StrangerToClient from bytes;
    word = word;
    refused = false;
    word_in = word_in;
    range = tt;
    comes = (h.0, h.1, refl);
    makes = λ entries on. (call ∷ [], (call, is client_at from bytes e refl refl, refl), on);
  }

  ticked_client : (at word : ℕ) (call : C.Call) (answer : Bool) → ClientTick at word answer call
      → AreTicks (ClientTick at word) answer (call ∷ [])
  ticked_client at word call true h = (h, tt)
  ticked_client at word call false h = (h, tt)

  pub called : (call : C.Call) → is_client_input call ≡ true → MayCall config c max_delivery run call
      → Is OnClient client_at (call ∷ [])
  called (C.Calls now r answer) input may =
      let e : now ≡ client_at = client_now may.0 in record {
        what = Calls r;
        word = 0;
        refused = false;
        word_in = zero_in;
        range = may.1;
        comes = refl;
        makes = λ entries on. (
          C.Calls now r answer ∷ [],
          (
            C.Calls now r answer,
            (answer, ap (λ (n : ℕ). C.Calls n r answer) e),
            refl,
          ),
          on,
        );
      }
  called (C.Observes now path answer) input may =
      let e : now ≡ client_at = client_now may.0 in record {
        what = Observes path;
        word = 0;
        refused = false;
        word_in = zero_in;
        range = may.1;
        comes = refl;
        makes = λ entries on. (
          C.Observes now path answer ∷ [],
          (
            C.Observes now path answer,
            (answer, ap (λ (n : ℕ). C.Observes n path answer) e),
            refl,
          ),
          on,
        );
      }
  called (C.Cancels now number answer) input may =
      let e : now ≡ client_at = client_now may.0 in record {
        what = Cancels number;
        word = 0;
        refused = false;
        word_in = zero_in;
        range = may.1;
        comes = refl;
        makes = λ entries on. (
          C.Cancels now number answer ∷ [],
          (
            (
              C.Cancels now number answer,
              (answer, ap (λ (n : ℕ). C.Cancels n number answer) e),
              refl,
            ),
            refl,
          ),
          on,
        );
      }
  called (C.Forgets number kept answer) input may = record {
    what = Forgets number;
    word = 0;
    refused = false;
    word_in = zero_in;
    range = may;
    comes = refl;
    makes = λ entries on. (
      C.Forgets number kept answer ∷ [],
      (
        (
          C.Forgets number kept answer,
          (kept, answer, refl),
          refl,
        ),
        refl,
      ),
      on,
    );
  }
  called (C.Feeds now from bytes word up settled event sent token kept) input may =
      fed_client now from bytes word (C.Feeds now from bytes word up settled event sent token kept)
      (λ at other same e f g. (
        up,
        settled,
        event,
        sent,
        token,
        kept,
        ap (λ (n : ℕ). C.Feeds n from bytes word up settled event sent token kept) e
            ∙ (ap (λ (x : Endpoint). C.Feeds at x bytes word up settled event sent token kept) (sym f)
            ∙ ap (λ (x : List ℕ). C.Feeds at other x word up settled event sent token kept) (sym g)),
      ))
      (client_now may.0) may.1 may.2
  called (C.Ticks now word below turn sent token kept answer) input may =
      let e : now ≡ client_at = client_now may.0 in record {
        what = TickClient;
        word = word;
        refused = answer;
        word_in = may.1;
        range = tt;
        comes = refl;
        makes = λ entries on. (
          C.Ticks now word below turn sent token kept answer ∷ [],
          ticked_client client_at word (C.Ticks now word below turn sent token kept answer) answer (
            below,
            turn,
            sent,
            token,
            kept,
            ap (λ (n : ℕ). C.Ticks n word below turn sent token kept answer) e,
          ),
          on,
        );
      }
  called (C.NextOut answer) input may = absurd (cc input)
  called (C.NextReport answer) input may = absurd (cc input)
  called (C.Asked answer) input may = absurd (cc input)
