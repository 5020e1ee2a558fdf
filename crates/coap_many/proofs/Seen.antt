-- A turn of many, as one client and the server see it: a turn of theirs, or nothing.
use Rattle.std.proofs.Common.{◌≡◌, ◌⊎◌, ◌≤◌, ◌+◌, inl, inr, ℕ, Bool, true, false, Some, None, List, [], ◌∷◌, ◌++◌, map}
use Rattle.std.proofs.Common.{refl}
use Rattle.std.proofs.Common.{sym, ap, subst, ◌∙◌, ◌||◌, if◌then◌else◌, length}
use Rattle.std.specs.Prelude.{filter}
use Rattle.coap_types.specs.Past.{Ever, all_of}
use Rattle.coap_types.specs.SameEndpoint.{same_endpoint}
use Rattle.coap_types.specs.declared.endpoint.Endpoint.{Endpoint}
use Rattle.coap_types.proofs.Facts.Endpoints.{same_endpoint_is, same_endpoint_self}
use Rattle.coap_client.specs.Trace as C
use Rattle.coap_server.specs.Trace as S
use Rattle.coap_promise.specs.Clocks as by_clocks
use Rattle.coap_record.specs.Events as E
use Rattle.coap_record.specs.Legal as L
use Rattle.coap_record.specs.Record as W
use Rattle.coap_many.specs.Clients.{Client, Config, IsOfClient, IsEnd}
use Rattle.coap_many.specs.Clocks.{Clocks, Shows}
use Rattle.coap_many.specs.GoesOn.{CanCome}
use Rattle.coap_many.specs.Events.{Act, Calls, Observes, Cancels, Forgets}
use Rattle.coap_many.specs.Events.{Ticks, What, Acts, Sets, Removes, TickServer, Deliver, StrangerToClient}
use Rattle.coap_many.specs.Events.{StrangerToServer}
use Rattle.coap_many.specs.Entries.{Entry, Turn, IsNumber, as_of, given_in}
use Rattle.coap_many.specs.Record.{Makes, MakesAt, Delivers}
use Rattle.coap_many.specs.Events.{act_of}
use Rattle.coap_many.specs.Legal.{IsConfig, MayCome, InRange}
use Rattle.coap_many.specs.View.{view, view_what, view_entries}
use Rattle.coap_many.specs.Comings.{is_of, number_of}
use Rattle.coap_many.proofs.Entries.{AreApart, the_two, own_view, others_view, servers_view, clients_apart}
use Rattle.coap_many.proofs.Entries.{servers_apart}
use Rattle.coap_many.proofs.Numbers.{IsAt, Found, unique, found}

pub not_same : (a b : Endpoint) → (a ≡ b → ⊥) → same_endpoint a b ≡ false
not_same a b h = by (same_endpoint a b) refl
  where
    by : (x : Bool) → same_endpoint a b ≡ x → x ≡ false
    by true e = absurd (h (same_endpoint_is a b e))
    by false e = refl

same_as : (a b : Endpoint) → a ≡ b → same_endpoint a b ≡ true
same_as a b h = subst (λ x. same_endpoint a x ≡ true) h (same_endpoint_self a)

differ : (a b : Endpoint) → same_endpoint a b ≡ false → a ≡ b → ⊥
differ a b e h = let k = same_as a b h in cc (e, k)

-- a client of this address
pub member : (who : Endpoint) (ks : List Client) → Ever (λ (k : Client). k.at ≡ who) ks
    → (k : Client) × Ever (λ x. x ≡ k) ks × (k.at ≡ who)
member who [] h = absurd h
member who (x ∷ ks) (inl h) = (x, inl refl, h)
member who (x ∷ ks) (inr h) = let k = member who ks h in (k.0, inr k.1, k.2)

pub is_member : (k : Client) (ks : List Client) → Ever (λ x. x ≡ k) ks → Ever (λ (x : Client). x.at ≡ k.at) ks
is_member k [] h = absurd h
is_member k (x ∷ ks) (inl h) = inl (ap (λ (y : Client). y.at) h)
is_member k (x ∷ ks) (inr h) = inr (is_member k ks h)

pub apart_of : (config : Config) → IsConfig config → (who : Endpoint) → IsOfClient config who
    → same_endpoint who config.server ≡ false
apart_of config range who h =
    let k = member who config.clients h in
    not_same who config.server (λ e. (range.each k.0 k.1).addresses.two (k.2 ∙ e))

-- whose turn it is

on_client : (calls : List C.Call) (es : List W.Entry) → W.OnClient calls es → (cs : List C.Call)
    × (es ≡ map W.OfClient cs)
on_client calls es on = (
  C.NextReport None ∷ (map (λ r. C.NextReport (Some r)) on.reports
      ++ C.NextOut None ∷ (map (λ p. C.NextOut (Some p)) on.outs ++ calls)),
  on.is,
)

pub on_server : (calls : List S.Call) (es : List W.Entry) → W.OnServer calls es → (cs : List S.Call)
    × (es ≡ map W.OfServer cs)
on_server calls es on = (S.NextOut None ∷ (map (λ p. S.NextOut (Some p)) on.outs ++ calls), on.is)

client_turn : (A : _) (at word : ℕ) (refused : Bool) (es : List W.Entry) (act : Act)
    → W.Makes A [] at word (act_of act) refused es → (cs : List C.Call) × (es ≡ map W.OfClient cs)
client_turn A at word refused es (Calls r) m = on_client m.0 es m.2
client_turn A at word refused es (Observes path) m = on_client m.0 es m.2
client_turn A at word refused es (Cancels number) m = on_client m.0 es m.2
client_turn A at word refused es (Forgets number) m = on_client m.0 es m.2
client_turn A at word refused es Ticks m = on_client m.0 es m.2

-- what was given out before does not matter to it
pub any_past : (A B : _) (old past : List W.Turn) (at word : ℕ) (refused : Bool) (es : List W.Entry) (act : Act)
    → W.Makes A old at word (act_of act) refused es → W.Makes B past at word (act_of act) refused es
any_past A B old past at word refused es (Calls r) m = m
any_past A B old past at word refused es (Observes path) m = m
any_past A B old past at word refused es (Cancels number) m = m
any_past A B old past at word refused es (Forgets number) m = m
any_past A B old past at word refused es Ticks m = m

act_comes : (A : _) (v : by_clocks.Clocks) (past : List W.Turn) (at : ℕ) (act : Act) → v.client (length past) ≡ at
    → by_clocks.MayCome A v past at (act_of act)
act_comes A v past at (Calls r) h = h
act_comes A v past at (Observes path) h = h
act_comes A v past at (Cancels number) h = h
act_comes A v past at (Forgets number) h = h
act_comes A v past at Ticks h = h

module _ (config : Config) (range : IsConfig config) (me : Endpoint) (mine : IsOfClient config me) (past : List Turn)
    (at word : ℕ) (refused : Bool) (entries : List Entry)
    (given : all_of (W.given_in (the_two config me at)) (view config me past)
    ≡ filter (is_of config me) (all_of (given_in config) past)) where
  pub record Drops (what : What) : Type 0 where
    pub is : view_what config me past what ≡ None
    pub none : view_entries me entries ≡ []

  -- the clocks of the view show here what those of the run do
  pub record Follow (c : Clocks) (v : by_clocks.Clocks) : Type 0 where
    pub client : v.client (length (view config me past)) ≡ c.clients me (length past)
    pub server : v.server (length (view config me past)) ≡ c.server (length past)

  -- what may come in the run, by such clocks, may come in the view
  abbrev pub Comes : What → E.What → Type 0
  Comes what shown = (c : Clocks) (v : by_clocks.Clocks) → Follow c v → MayCome config c past at what
      → by_clocks.MayCome (the_two config me at) v (view config me past) at shown

  pub record Keeps (what : What) : Type 0 where
    pub shown : E.What
    pub is : view_what config me past what ≡ Some shown
    pub makes : W.Makes (the_two config me at) (view config me past) at word shown refused (view_entries me entries)
    pub comes : Comes what shown
    pub small : InRange what → L.InRange shown

  abbrev pub Seen : What → Type 0
  Seen what = (Drops what ⊎ Keeps what) × AreApart config entries

  pub no_end : (from : Endpoint) → (IsEnd config from → ⊥) → (from ≡ me → ⊥) × (from ≡ config.server → ⊥)
  no_end from stranger = (
    (λ e. stranger (inr (subst (IsOfClient config) (sym e) mine))),
    (λ e. stranger (inl e)),
  )

  own_not_server : (end : Endpoint) → end ≡ me → end ≡ config.server → ⊥
  own_not_server end own it = differ me config.server (apart_of config range me mine) (sym own ∙ it)

  server_shows : (c : Clocks) (v : by_clocks.Clocks) → Follow c v → (end : Endpoint) (t : ℕ) → end ≡ config.server
      → Shows config c (length past) end t → v.server (length (view config me past)) ≡ t
  server_shows c v f end t it (inl s) = f.server ∙ s.1
  server_shows c v f end t it (inr s) = absurd (differ end config.server (apart_of config range end s.0) it)

  client_shows : (c : Clocks) (v : by_clocks.Clocks) → Follow c v → (end : Endpoint) (t : ℕ) → end ≡ me
      → Shows config c (length past) end t → v.client (length (view config me past)) ≡ t
  client_shows c v f end t own (inl s) = absurd (own_not_server end own s.0)
  client_shows c v f end t own (inr s) = f.client ∙ ap (λ w. c.clients w (length past)) (sym own) ∙ s.1

  shows : (c : Clocks) (v : by_clocks.Clocks) → Follow c v → (end : Endpoint) (t : ℕ)
      → (end ≡ me) ⊎ (end ≡ config.server) → Shows config c (length past) end t
      → by_clocks.Shows (the_two config me at) v (length (view config me past)) end t
  shows c v f end t (inl own) s = inl (own, client_shows c v f end t own s)
  shows c v f end t (inr it) s = inr (it, server_shows c v f end t it s)

  -- a turn of the server
  of_server : (what : What) (kind : E.What) (who : Endpoint) (es : List W.Entry) (cs : List S.Call)
      → view_what config me past what ≡ Some kind → entries ≡ map (as_of who) es → es ≡ map W.OfServer cs
      → W.Makes (the_two config me at) (view config me past) at word kind refused es
      → Comes what kind → (InRange what → L.InRange kind) → Seen what
  of_server what kind who es cs is here there makes comes small =
      let there_is : view_entries me entries ≡ es = ap (view_entries me) (here ∙ ap (map (as_of who)) there)
      ∙ servers_view me who cs ∙ sym there in (
        inr (record {
          shown = kind;
          is = is;
          makes = subst (λ e. W.Makes (the_two config me at) (view config me past) at word kind refused e)
              (sym there_is) makes;
          comes = comes;
          small = small;
        }),
        subst (AreApart config) (sym (here ∙ ap (map (as_of who)) there)) (servers_apart config who cs),
      )

  -- .. of the client, or of another one
  own_turn : (what : What) (kind : E.What) (who : Endpoint) (es : List W.Entry) (cs : List C.Call)
      → same_endpoint who me ≡ true → IsOfClient config who → view_what config me past what ≡ Some kind
      → entries ≡ map (as_of who) es → es ≡ map W.OfClient cs
      → W.Makes (the_two config me at) (view config me past) at word kind refused es
      → Comes what kind → (InRange what → L.InRange kind) → Seen what
  own_turn what kind who es cs same of is here there makes comes small =
      let own : who ≡ me = same_endpoint_is who me same in
      let there_is : view_entries me entries ≡ es = ap (view_entries me) (here ∙ ap (map (as_of who)) there)
      ∙ ap (λ w. view_entries me (map (as_of w) (map W.OfClient cs))) own ∙ own_view me cs ∙ sym there in (
        inr (record {
          shown = kind;
          is = is;
          makes = subst (λ e. W.Makes (the_two config me at) (view config me past) at word kind refused e)
              (sym there_is) makes;
          comes = comes;
          small = small;
        }),
        subst (AreApart config) (sym (here ∙ ap (map (as_of who)) there))
            (clients_apart config who cs (apart_of config range who of)),
      )

  others_turn : (what : What) (who : Endpoint) (es : List W.Entry) (cs : List C.Call) → same_endpoint who me ≡ false
      → IsOfClient config who → view_what config me past what ≡ None
      → entries ≡ map (as_of who) es → es ≡ map W.OfClient cs → Seen what
  others_turn what who es cs other of is here there = (
    inl (record {
      is = is;
      none = ap (view_entries me) (here ∙ ap (map (as_of who)) there) ∙ others_view me who cs other;
    }),
    subst (AreApart config) (sym (here ∙ ap (map (as_of who)) there))
        (clients_apart config who cs (apart_of config range who of)),
  )

  act_turn : (who : Endpoint) (act : Act) → IsOfClient config who
      → MakesAt config who at word (act_of act) refused entries → Seen (Acts who act)
  act_turn who act of m = by (same_endpoint who me) refl
    where
      cs : (cs : List C.Call) × (m.0 ≡ map W.OfClient cs)
      cs = client_turn (record { client = who; server = config.server }) at word refused m.0 act m.1

      by : (b : Bool) → same_endpoint who me ≡ b → Seen (Acts who act)
      by true e = own_turn (Acts who act) (act_of act) who m.0 cs.0 e of
          (ap (λ b. if b then Some (act_of act) else None) e) m.2 cs.1
          (any_past (record { client = who; server = config.server }) (the_two config me at) [] (view config me past) at
          word
          refused m.0 act m.1)
          (λ c v f h. act_comes (the_two config me at) v (view config me past) at act
          (f.client ∙ ap (λ w. c.clients w (length past)) (sym (same_endpoint_is who me e)) ∙ h.1)) (λ s. s)
      by false e = others_turn (Acts who act) who m.0 cs.0 e of
          (ap (λ b. if b then Some (act_of act) else None) e) m.2 cs.1

  stranger_turn : (who from : Endpoint) (bytes : List ℕ) → IsOfClient config who
      → MakesAt config who at word (E.StrangerToClient from bytes) refused entries
      → Seen (StrangerToClient who from bytes)
  stranger_turn who from bytes of m = by (same_endpoint who me) refl
    where
      by : (b : Bool) → same_endpoint who me ≡ b → Seen (StrangerToClient who from bytes)
      by true e = own_turn (StrangerToClient who from bytes) (E.StrangerToClient from bytes) who m.0
          (on_client m.1.0 m.0 m.1.2).0 e of
          (ap (λ b. if b then Some (E.StrangerToClient from bytes) else None) e) m.2 (on_client m.1.0 m.0 m.1.2).1 m.1
          (λ c v f h. (
            (no_end from h.1).0,
            (no_end from h.1).1,
            f.client ∙ ap (λ w. c.clients w (length past)) (sym (same_endpoint_is who me e)) ∙ h.2,
          )) (λ s. tt)
      by false e = others_turn (StrangerToClient who from bytes) who m.0 (on_client m.1.0 m.0 m.1.2).0 e of
          (ap (λ b. if b then Some (E.StrangerToClient from bytes) else None) e) m.2 (on_client m.1.0 m.0 m.1.2).1

  -- a datagram that is none of the two's is a stranger's to them
  pub foreign : (g : W.Given) → is_of config me g ≡ false → (g.from ≡ me → ⊥) × (g.from ≡ config.server → ⊥)
  foreign g e = by (same_endpoint g.from config.server) refl
    where
      by : (b : Bool) → same_endpoint g.from config.server ≡ b → (g.from ≡ me → ⊥) × (g.from ≡ config.server → ⊥)
      by true s = let k : true ≡ is_of config me g = sym (ap (λ b. b || same_endpoint g.from me) s) in
          absurd (cc (k, e))
      by false s = (
        differ g.from me (sym (ap (λ b. b || same_endpoint g.from me) s) ∙ e),
        differ g.from config.server s,
      )

  of_the_two : (g : W.Given) → is_of config me g ≡ true → (g.from ≡ me) ⊎ (g.from ≡ config.server)
  of_the_two g e = by (same_endpoint g.from config.server) refl
    where
      by : (b : Bool) → same_endpoint g.from config.server ≡ b → (g.from ≡ me) ⊎ (g.from ≡ config.server)
      by true s = inr (same_endpoint_is g.from config.server s)
      by false s = inl (same_endpoint_is g.from me (sym (ap (λ b. b || same_endpoint g.from me) s) ∙ e))

  module _ (number : ℕ) (g : W.Given) (is : IsNumber config number g past) where
    f : Found config me number g (all_of (given_in config) past)
    f = found config me number g (all_of (given_in config) past) is

    -- its number among those of the two
    numbered : is_of config me g ≡ true
        → W.IsNumber (the_two config me at) (number_of config me f.before) g (view config me past)
    numbered e = subst (IsAt (number_of config me f.before) g) (sym given) (f.numbered e)

    -- by which clocks it comes
    of_number : (c : Clocks) → (may : MayCome config c past at (Deliver number)) → may.0 ≡ g
    of_number c may = unique number may.0 g (all_of (given_in config) past) may.1 is

    arrives : (c : Clocks) → MayCome config c past at (Deliver number) → Shows config c (length past) g.packet.to at
    arrives c may = subst (λ (x : W.Given). Shows config c (length past) x.packet.to at) (of_number c may) may.2

    delivers : is_of config me g ≡ true → (g.packet.to ≡ me) ⊎ (g.packet.to ≡ config.server)
        → Comes (Deliver number) (E.Deliver (number_of config me f.before))
    delivers e to c v w may = (
      g,
      numbered e,
      shows c v w g.packet.to at to (arrives c may),
      (
        may.3.0,
        shows c v w g.from may.3.0 (of_the_two g e)
            (subst (λ (x : W.Given). Shows config c (length past) x.from may.3.0) (of_number c may) may.3.1),
        subst (λ (x : W.Given). may.3.0 ≤ x.at + L.max_delivery) (of_number c may) may.3.2,
      ),
    )

    to_server : g.packet.to ≡ config.server
        → MakesAt config config.server at word (E.StrangerToServer g.from g.packet.bytes) refused entries
        → Seen (Deliver number)
    to_server to m = by (is_of config me g) refl
      where
        comes : (b : Bool) → is_of config me g ≡ b → view_what config me past (Deliver number)
            ≡ Some (if b then E.Deliver (number_of config me f.before) else E.StrangerToServer g.from g.packet.bytes)
        comes b e = f.comes ∙ ap (λ x. if x then Some
            (if is_of config me g then E.Deliver (number_of config me f.before)
            else E.StrangerToServer g.from g.packet.bytes) else (if same_endpoint g.packet.to me
            then Some (if is_of config me g then E.Deliver (number_of config me f.before)
            else E.StrangerToClient g.from g.packet.bytes) else None)) (same_as g.packet.to config.server to)
            ∙ ap (λ x. Some (if x then E.Deliver (number_of config me f.before)
            else E.StrangerToServer g.from g.packet.bytes)) e

        by : (b : Bool) → is_of config me g ≡ b → Seen (Deliver number)
        by true e = of_server (Deliver number) (E.Deliver (number_of config me f.before)) config.server m.0
            (on_server m.1.0 m.0 m.1.2).0
            (comes true e) m.2 (on_server m.1.0 m.0 m.1.2).1 (g, numbered e, inl (to, m.1.0, m.1.1, m.1.2))
            (delivers e (inr to)) (λ s. tt)
        by false e = of_server (Deliver number) (E.StrangerToServer g.from g.packet.bytes) config.server m.0
            (on_server m.1.0 m.0 m.1.2).0
            (comes false e) m.2 (on_server m.1.0 m.0 m.1.2).1 m.1
            (λ c v w may. ((foreign g e).0, (foreign g e).1, server_shows c v w g.packet.to at to (arrives c may)))
            (λ s. tt)

    to_client : (who : Endpoint) → g.packet.to ≡ who → IsOfClient config who
        → MakesAt config who at word (E.StrangerToClient g.from g.packet.bytes) refused entries
        → Seen (Deliver number)
    to_client who to of m = by (same_endpoint g.packet.to me) refl
      where
        first : view_what config me past (Deliver number) ≡ (if same_endpoint g.packet.to me
            then Some (if is_of config me g then E.Deliver (number_of config me f.before)
            else E.StrangerToClient g.from g.packet.bytes) else None)
        first = f.comes ∙ ap (λ x. if x then Some
            (if is_of config me g then E.Deliver (number_of config me f.before)
            else E.StrangerToServer g.from g.packet.bytes) else (if same_endpoint g.packet.to me
            then Some (if is_of config me g then E.Deliver (number_of config me f.before)
            else E.StrangerToClient g.from g.packet.bytes) else None))
            (ap (λ w. same_endpoint w config.server) to ∙ apart_of config range who of)

        second : (b : Bool) → same_endpoint g.packet.to me ≡ b → (c : Bool) → is_of config me g ≡ c
            → view_what config me past (Deliver number) ≡ (if b
            then Some (if c then E.Deliver (number_of config me f.before)
            else E.StrangerToClient g.from g.packet.bytes) else None)
        second b e c h = first ∙ ap (λ x. if x
            then Some (if is_of config me g then E.Deliver (number_of config me f.before)
            else E.StrangerToClient g.from g.packet.bytes) else None) e
            ∙ ap (λ x. if b then Some (if x then E.Deliver (number_of config me f.before)
            else E.StrangerToClient g.from g.packet.bytes) else None) h

        own : same_endpoint g.packet.to me ≡ true → (c : Bool) → is_of config me g ≡ c → Seen (Deliver number)
        own e true h = own_turn (Deliver number) (E.Deliver (number_of config me f.before)) who m.0
            (on_client m.1.0 m.0 m.1.2).0
            (ap (λ w. same_endpoint w me) (sym to) ∙ e) of (second true e true h) m.2 (on_client m.1.0 m.0 m.1.2).1
            (g, numbered h, inr (same_endpoint_is g.packet.to me e, m.1.0, m.1.1, m.1.2))
            (delivers h (inl (same_endpoint_is g.packet.to me e))) (λ s. tt)
        own e false h = own_turn (Deliver number) (E.StrangerToClient g.from g.packet.bytes) who m.0
            (on_client m.1.0 m.0 m.1.2).0
            (ap (λ w. same_endpoint w me) (sym to) ∙ e) of (second true e false h) m.2 (on_client m.1.0 m.0 m.1.2).1 m.1
            (λ c v w may. (
              (foreign g h).0,
              (foreign g h).1,
              client_shows c v w g.packet.to at (same_endpoint_is g.packet.to me e) (arrives c may),
            )) (λ s. tt)

        by : (b : Bool) → same_endpoint g.packet.to me ≡ b → Seen (Deliver number)
        by true e = own e (is_of config me g) refl
        by false e = others_turn (Deliver number) who m.0 (on_client m.1.0 m.0 m.1.2).0
            (ap (λ w. same_endpoint w me) (sym to) ∙ e) of
            (second false e (is_of config me g) refl) m.2 (on_client m.1.0 m.0 m.1.2).1

  delivered : (number : ℕ) (g : W.Given) → IsNumber config number g past
      → Delivers config g at word refused entries → Seen (Deliver number)
  delivered number g is (inl m) = to_server number g is m.0 m.1
  delivered number g is (inr m) = to_client number g is g.packet.to refl m.0 m.1

  pub seen : (what : What) → Makes config past at word what refused entries → CanCome config past what → Seen what
  seen (Acts who act) m can = act_turn who act can m
  seen (Sets path format body) m can = of_server (Sets path format body) (E.Sets path format body) config.server m.0
      (on_server m.1.0 m.0 m.1.2).0 refl m.2 (on_server m.1.0 m.0 m.1.2).1 m.1 (λ c v f h. f.server ∙ h) (λ s. s)
  seen (Removes path) m can = of_server (Removes path) (E.Removes path) config.server m.0
      (on_server m.1.0 m.0 m.1.2).0 refl m.2 (on_server m.1.0 m.0 m.1.2).1 m.1 (λ c v f h. f.server ∙ h) (λ s. s)
  seen TickServer m can = of_server TickServer E.TickServer config.server m.0
      (on_server m.1.0 m.0 m.1.2).0 refl m.2 (on_server m.1.0 m.0 m.1.2).1 m.1 (λ c v f h. f.server ∙ h) (λ s. tt)
  seen (Deliver number) m can = delivered number m.0 m.1 m.2
  seen (StrangerToClient who from bytes) m can = stranger_turn who from bytes can m
  seen (StrangerToServer from bytes) m can = of_server (StrangerToServer from bytes) (E.StrangerToServer from bytes)
      config.server m.0 (on_server m.1.0 m.0 m.1.2).0 refl m.2 (on_server m.1.0 m.0 m.1.2).1 m.1
      (λ c v f h. ((no_end from h.0).0, (no_end from h.0).1, f.server ∙ h.1)) (λ s. tt)
