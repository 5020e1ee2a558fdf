-- In a smooth run each datagram is fed in time: the first time that it comes.
use Rattle.std.proofs.Common.{◌≡◌, ◌⊎◌, inl, inr, ⊎_elim, ◌≤◌, ◌<◌, ℕ, ◌+◌, nat_le, Bool, true, false, List, [], ◌∷◌}
use Rattle.std.proofs.Common.{◌++◌, map, length, refl, ap, sym, subst, ◌∙◌, arith, Some}
use Rattle.std.proofs.lemmas.Bool.{leb-true}
use Rattle.std.proofs.lemmas.Bool.Decides.{nat_tests}
use Rattle.coap_types.specs.Past.{Ever, Sometime, Always, all_of}
use Rattle.coap_types.specs.declared.endpoint.Endpoint.{Endpoint}
use Rattle.coap_types.proofs.Facts.Traces.{Sometime_back, Ever_of_Sometime}
use Rattle.coap_layer.specs.Trace.{Packet}
use Rattle.coap_client.specs.Trace as C
use Rattle.coap_server.specs.Trace as S
use Rattle.coap_promise.specs.Delivery.{FedToServer, FedToClient, arrives}
use Rattle.coap_record.specs.Events.{Config, Deliver}
use Rattle.coap_record.specs.Legal.{AllLegal}
use Rattle.coap_smooth.specs.Prompt.{FedWithin, AllPrompt}
use Rattle.coap_record.specs.Record.{Given, Entry, OfClient, OfServer, Turn, IsNumber, IsOne, OnClient, OnServer}
use Rattle.coap_record.specs.Record.{given_in, FeedsClient, FeedsServer, Makes}
use Rattle.coap_smooth.specs.Smooth.{max_age, WasDelivered, GoesSmoothly}
use Rattle.coap_promise.proofs.Facts.Delivery.GivenOutBefore.{number_unique, not_later}
use Rattle.coap_record.specs.declared.addresses.Addresses.{Addresses}

-- its number
numbered : (g : Given) (gs : List Given) → Ever (λ h. h ≡ g) gs
    → (n : ℕ) × Sometime (λ before h. (h ≡ g) × (length before ≡ n)) gs
numbered g [] h = absurd h
numbered g (x ∷ gs) (inl h) = (length gs, inl (h, refl))
numbered g (x ∷ gs) (inr h) = let k = numbered g gs h in (k.0, inr k.1)

pub in_or_late : (a b : ℕ) → (a ≤ b) ⊎ (b < a)
in_or_late a b = by (nat_le a b) refl
  where
    by : (x : Bool) → nat_le a b ≡ x → (a ≤ b) ⊎ (b < a)
    by true e = inl (leb-true a b e)
    by false e = inr (grind (arith, nat_tests, e))

-- the one call of a turn, behind what is taken after it
last_in : {X Y Z : Type 0} (P : Z → Type 0) (f : X → Z) (k : Y → X) (ys : List Y) (c : X) → P (f c)
    → Ever P (map f (map k ys ++ c ∷ []))
last_in P f k [] c h = inl h
last_in P f k (y ∷ ys) c h = inr (last_in P f k ys c h)

fed_server : (from : Endpoint) (bytes : List ℕ) (at word : ℕ) (calls : List S.Call) (entries : List Entry)
    → IsOne (FeedsServer at word from bytes) false calls → OnServer calls entries
    → Ever (FedToServer from bytes) entries
fed_server from bytes at word calls entries one on =
    subst (Ever (FedToServer from bytes)) (sym on.is)
    (inr (subst (λ cs. Ever (FedToServer from bytes) (map OfServer (map (λ p. S.NextOut (Some p)) on.outs ++ cs)))
    (sym one.2) (last_in (FedToServer from bytes) OfServer (λ (p : Packet). S.NextOut (Some p)) on.outs one.0
    (ap arrives one.1.4))))

behind : {X Y Z : Type 0} (P : Z → Type 0) (f : X → Z) (k : Y → X) (ys : List Y) (xs : List X) → Ever P (map f xs)
    → Ever P (map f (map k ys ++ xs))
behind P f k [] xs h = h
behind P f k (y ∷ ys) xs h = inr (behind P f k ys xs h)

fed_client : (from : Endpoint) (bytes : List ℕ) (at word : ℕ) (calls : List C.Call) (entries : List Entry)
    → IsOne (FeedsClient at word from bytes) false calls → OnClient calls entries
    → Ever (FedToClient from bytes) entries
fed_client from bytes at word calls entries one on =
    subst (Ever (FedToClient from bytes)) (sym on.is)
    (inr (behind (FedToClient from bytes) OfClient (λ (r : C.Reported). C.NextReport (Some r)) on.reports _
    (inr (subst (λ cs. Ever (FedToClient from bytes) (map OfClient (map (λ p. C.NextOut (Some p)) on.outs ++ cs)))
    (sym one.2) (last_in (FedToClient from bytes) OfClient (λ (p : Packet). C.NextOut (Some p)) on.outs one.0
    (at, word, one.1.0, one.1.1, one.1.2, one.1.3, one.1.4, one.1.5, one.1.6))))))

abbrev AllMade : Addresses → List Turn → Type 0
AllMade addresses turns = Always (λ past t. Makes addresses past t.event.at t.event.word t.event.what t.refused
    t.entries) turns

-- the turn in which the datagram of a number is delivered
module _ (config : Config) (two : config.addresses.client ≡ config.addresses.server → ⊥) (number : ℕ) (turn : Turn)
    (past : List Turn)
    (made : Makes config.addresses past turn.event.at turn.event.word turn.event.what turn.refused turn.entries)
    (legal : AllLegal config.addresses (turn ∷ past)) (goes : GoesSmoothly config past turn)
    (is : turn.event.what ≡ Deliver number) where
  pub makes : Makes config.addresses past turn.event.at turn.event.word (Deliver number) false turn.entries
  makes = subst (λ r. Makes config.addresses past turn.event.at turn.event.word (Deliver number) r turn.entries)
      goes.all_made
      (subst (λ w. Makes config.addresses past turn.event.at turn.event.word w turn.refused turn.entries) is made)

  -- its moment, where it comes in time
  pub times : (Fed : Entry → Type 0) → turn.event.at ≤ makes.0.at + max_age → Ever Fed turn.entries
      → FedWithin Fed makes.0 past turn
  times Fed soon fed =
      let before = not_later config.addresses past turn.event.at makes.0 legal.1 legal.0.later
      (Ever_of_Sometime _ (λ h. h ≡ makes.0) (λ b h k. inl k.0) (all_of (given_in config.addresses) past) makes.1) in
      record { fed = fed; from = before; till = soon }

  -- where it is for the server, and for the client
  pub to_server : (g : Given) → turn.event.at ≤ makes.0.at + max_age → makes.0 ≡ g
      → g.packet.to ≡ config.addresses.server
      → FedWithin (FedToServer g.from g.packet.bytes) g past turn
  to_server g soon same to = subst (λ (x : Given). FedWithin (FedToServer x.from x.packet.bytes) x past turn) same
      (⊎_elim (λ d. times (FedToServer makes.0.from makes.0.packet.bytes) soon
      (fed_server makes.0.from makes.0.packet.bytes turn.event.at turn.event.word d.1 turn.entries d.2 d.3))
      (λ d. absurd (two (sym d.0 ∙ (ap (λ (x : Given). x.packet.to) same ∙ to)))) makes.2)

  pub to_client : (g : Given) → turn.event.at ≤ makes.0.at + max_age → makes.0 ≡ g
      → g.packet.to ≡ config.addresses.client
      → FedWithin (FedToClient g.from g.packet.bytes) g past turn
  to_client g soon same to = subst (λ (x : Given). FedWithin (FedToClient x.from x.packet.bytes) x past turn) same
      (⊎_elim (λ d. absurd (two (sym (ap (λ (x : Given). x.packet.to) same ∙ to) ∙ d.0)))
      (λ d. times (FedToClient makes.0.from makes.0.packet.bytes) soon
      (fed_client makes.0.from makes.0.packet.bytes turn.event.at turn.event.word d.1 turn.entries d.2 d.3)) makes.2)

  -- where it comes late, it came before
  pub came_before : makes.0.at + max_age < turn.event.at → WasDelivered number past
  came_before late =
      goes.in_time number makes.0 makes.1 (⊎_elim (λ d. inr d.0) (λ d. inl d.0) makes.2) late

-- of the turns in which it is delivered, one that is in time
module _ (config : Config) (two : config.addresses.client ≡ config.addresses.server → ⊥) (whole : List Turn)
    (number : ℕ) (g : Given) (is : IsNumber config.addresses number g whole) where
  delivered : (P : List Turn → Turn → Type 0)
      → ((turn : Turn) (past : List Turn)
      (made : Makes config.addresses past turn.event.at turn.event.word turn.event.what turn.refused turn.entries)
      (legal : AllLegal config.addresses (turn ∷ past)) (goes : GoesSmoothly config past turn)
      (w : turn.event.what ≡ Deliver number)
      → turn.event.at ≤ (makes config two number turn past made legal goes w).0.at + max_age
      → (makes config two number turn past made legal goes w).0 ≡ g → P past turn)
      → (r : List Turn)
      → ((x : Given) → IsNumber config.addresses number x r → IsNumber config.addresses number x whole)
      → AllMade config.addresses r → AllLegal config.addresses r
      → Always (GoesSmoothly config) r → WasDelivered number r → Sometime P r
  delivered P f [] lift made legal goes h = absurd h
  delivered P f (turn ∷ past) lift made legal goes (inl w) =
      let m = makes config two number turn past made.0 legal goes.0 w in
      ⊎_elim
      (λ soon. inl (f turn past made.0 legal goes.0 w soon (number_unique number m.0 g
      (all_of (given_in config.addresses) whole)
      (lift m.0 (Sometime_back _ (given_in config.addresses turn) (all_of (given_in config.addresses) past) m.1)) is)))
      (λ late. inr (delivered P f past (λ x k. lift x (Sometime_back _ (given_in config.addresses turn)
      (all_of (given_in config.addresses) past) k))
      made.1 legal.1 goes.1 (came_before config two number turn past made.0 legal goes.0 w late)))
      (in_or_late turn.event.at (m.0.at + max_age))
  delivered P f (turn ∷ past) lift made legal goes (inr h) =
      inr (delivered P f past (λ x k. lift x (Sometime_back _ (given_in config.addresses turn)
      (all_of (given_in config.addresses) past) k)) made.1 legal.1
      goes.1 h)

pub all_prompt : (config : Config) → (config.addresses.client ≡ config.addresses.server → ⊥) → (turns : List Turn)
    → AllMade config.addresses turns → AllLegal config.addresses turns → Always (GoesSmoothly config) turns
    → AllPrompt config.addresses turns
all_prompt config two [] made legal goes = tt
all_prompt config two (turn ∷ past) made legal goes = (
  record {
    server = λ g h to late.
        (let k = numbered g (all_of (given_in config.addresses) past) h in
        delivered config two past k.0 g k.1 (FedWithin (FedToServer g.from g.packet.bytes) g)
        (λ t p m l s w soon same. to_server config two k.0 t p m l s w g soon same to) past (λ x y. y) made.1 legal.1
        goes.1
        (goes.0.in_time k.0 g k.1 (inr to) late));
    client = λ g h to late.
        (let k = numbered g (all_of (given_in config.addresses) past) h in
        delivered config two past k.0 g k.1 (FedWithin (FedToClient g.from g.packet.bytes) g)
        (λ t p m l s w soon same. to_client config two k.0 t p m l s w g soon same to) past (λ x y. y) made.1 legal.1
        goes.1
        (goes.0.in_time k.0 g k.1 (inl to) late));
  },
  all_prompt config two past made.1 legal.1 goes.1,
)
