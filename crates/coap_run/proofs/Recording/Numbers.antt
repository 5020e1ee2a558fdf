-- The number of a datagram is its place in the log.
use Rattle.std.proofs.Common.{◌≡◌, ◌⊎◌, inl, inr, ◌<◌, ◌≤◌, ℕ, zero, suc, ◌+◌, max, Bool, false, Some, None, List, []}
use Rattle.std.proofs.Common.{◌∷◌, ◌++◌, reverse, length, slice_get, refl, sym, ap, subst, ◌∙◌, arith}
use Rattle.std.proofs.lemmas.List.{length-reverse, reverse-append}
use Rattle.coap_types.specs.Past.{Sometime, all_of}
use Rattle.coap_types.specs.declared.endpoint.Endpoint.{Endpoint}
use Rattle.coap_layer.specs.Machine.State.{made}
use Rattle.coap_layer.specs.Machine.Ups.{IsQuiet}
use Rattle.coap_layer.specs.Trace as below
use Rattle.coap_resource.specs.Content.{Content}
use Rattle.coap_client.specs.Turns.Quiet.{TellsNothing}
use Rattle.coap_record.specs.Events.{Event, Deliver}
use Rattle.coap_record.specs.Legal.{MayCome, max_delivery}
use Rattle.coap_record.specs.Record.{OfServer, Given, given_in, Turn, IsNumber, FeedsClient, FeedsServer}
use Rattle.coap_run.specs.Run.Log.{Log, Begins, given_of, line_put, server_lines}
use Rattle.coap_run.specs.Run.Acts.{Fed, Taken}
use Rattle.coap_run.specs.Run.Ends.{ClientLed, ServerLed}
use Rattle.coap_run.specs.Run.Senders.{sender_in}
use Rattle.coap_run.specs.Run.Turning.{ClientEnds, ServerEnds, Turned}
use Rattle.coap_run.specs.declared.running.ends.ClientEnd.{ClientEnd}
use Rattle.coap_run.specs.declared.running.ends.ServerEnd.{ServerEnd}
use Rattle.coap_run.proofs.Recording.Lacking.{client_heeds_it, server_heeds_it}
use Rattle.coap_run.proofs.Recording.Turning.{client_turned, fed_acts, of_a_client, of_a_server, server_turned}
use Rattle.coap_record.specs.declared.addresses.Addresses.{Addresses}

module _ {X : Type 0} where
  placed : (xs : List X) (x g : X) (n : ℕ) → slice_get (xs ++ x ∷ []) n ≡ Some g
      → (slice_get xs n ≡ Some g) ⊎ ((x ≡ g) × (length xs ≡ n))
  placed [] x g zero h = inr (cc, refl)
  placed [] x g (suc n) h = cc
  placed (y ∷ xs) x g zero h = inl h
  placed (y ∷ xs) x g (suc n) h = elim (placed xs x g n h) [ inl a ↦ inl a | inr b ↦ inr (b.0, ap suc b.1) ]

  kept : (xs : List X) (x g : X) (n : ℕ) → slice_get xs n ≡ Some g → slice_get (xs ++ x ∷ []) n ≡ Some g
  kept [] x g n h = cc
  kept (y ∷ xs) x g zero h = h
  kept (y ∷ xs) x g (suc n) h = kept xs x g n h

  at_end : (xs : List X) (x : X) (n : ℕ) → length xs ≡ n → slice_get (xs ++ x ∷ []) n ≡ Some x
  at_end [] x zero h = refl
  at_end [] x (suc n) h = absurd (omega (arith, h))
  at_end (y ∷ xs) x zero h = absurd (omega (arith, h))
  at_end (y ∷ xs) x (suc n) h = at_end xs x n (omega (arith, h))

  pub once_place : (xs : List X) (n : ℕ) (g : X) → slice_get (reverse xs) n ≡ Some g
      → Sometime (λ before h. (h ≡ g) × (length before ≡ n)) xs
  once_place [] n g h = cc
  once_place (x ∷ xs) n g h =
      elim (placed (reverse xs) x g n (subst (λ r. slice_get r n ≡ Some g) (reverse-append (x ∷ []) xs) h)) [
        | inl a ↦ inr (once_place xs n g a)
        | inr b ↦ inl (b.0, sym (length-reverse xs) ∙ b.1)
      ]

  pub place_once : (xs : List X) (n : ℕ) (g : X) → Sometime (λ before h. (h ≡ g) × (length before ≡ n)) xs
      → slice_get (reverse xs) n ≡ Some g
  place_once [] n g h = absurd h
  place_once (x ∷ xs) n g (inl p) =
      subst (λ r. slice_get r n ≡ Some g) (sym (reverse-append (x ∷ []) xs))
      (at_end (reverse xs) x n (length-reverse xs ∙ p.1) ∙ ap Some p.0)
  place_once (x ∷ xs) n g (inr r) =
      subst (λ r. slice_get r n ≡ Some g) (sym (reverse-append (x ∷ []) xs))
      (kept (reverse xs) x g n (place_once xs n g r))

-- what stands in the log at that place
pub number_is : (addresses : Addresses) (past : List Turn) (log : Log) (n : ℕ) (g : Given) → log.given
    ≡ given_of addresses past
    → Some g ≡ slice_get log.given n → IsNumber addresses n g past
number_is addresses past log n g is h = once_place (all_of (given_in addresses) past) n g
    (sym (h ∙ ap (λ l. slice_get l n) is))

pub number_there : (addresses : Addresses) (past : List Turn) (log : Log) (n : ℕ) (g : Given) → log.given
    ≡ given_of addresses past → IsNumber addresses n g past
    → slice_get log.given n ≡ Some g
number_there addresses past log n g is h = ap (λ l. slice_get l n) is
    ∙ place_once (all_of (given_in addresses) past) n g h

module _ (addresses : Addresses) (past : List Turn) (log : Log) (at n : ℕ) (is : log.given ≡ given_of addresses past)
  where
    pub none_comes : (slice_get log.given n ≡ None) → MayCome addresses past at (Deliver n) → ⊥
    none_comes none may = let there : slice_get log.given n ≡ Some may.0 = number_there addresses past log n may.0 is
        may.1 in cc

    module _ (g : Given) (there : Some g ≡ slice_get log.given n) where
      same : (may : MayCome addresses past at (Deliver n)) → may.0 ≡ g
      same may = let here : slice_get log.given n ≡ Some may.0 = number_there addresses past log n may.0 is may.1 in cc

      pub late_comes : (g.at + max_delivery < at) → MayCome addresses past at (Deliver n) → ⊥
      late_comes late may = let e : may.0.at ≡ g.at = ap (λ (x : Given). x.at) (same may) in let age =
          may.3 in omega (arith, late, e, age)

      pub astray_comes : (g.packet.to ≡ addresses.client → ⊥) → (g.packet.to ≡ addresses.server → ⊥)
          → MayCome addresses past at (Deliver n) → ⊥
      astray_comes c s may =
          let e : may.0.packet.to ≡ g.packet.to = ap (λ (x : Given). x.packet.to) (same may) in
          elim may.2 [ inl a ↦ c (sym e ∙ a) | inr b ↦ s (sym e ∙ b) ]

abbrev pub delivery : ℕ → ℕ → ℕ → Event
delivery at word n = record { at = at; word = word; what = Deliver n }

module _ (addresses : Addresses) {A K : Type 0} (content : K → Content) (past : List Turn) (at word n : ℕ) (g : Given)
    (from : Endpoint)
    (bytes : List ℕ) (log begun left : Log) (refused : Bool)
    (is : log.given ≡ given_of addresses past) (there : Some g ≡ slice_get log.given n) (age : at ≤ g.at + max_delivery)
    (of : from ≡ g.from) (are : bytes ≡ g.packet.bytes) (begins : begun ≡ line_put (Begins at) log) where
  pub to_server :
      (a : ClientEnd A) (s t u : ServerEnd K A) (told : Log) → g.packet.to ≡ addresses.server
      → Taken addresses (ServerLed content) OfServer (server_lines addresses (sender_in a.senders)) at
      (FeedsServer at word from bytes) refused s begun t told
      → (IsQuiet (made s.server.exchanges.layer (max s.server.clock at) (below.Receive from bytes)) → refused ≡ false)
      → ServerEnds addresses (ServerLed content) (server_lines addresses (sender_in a.senders)) at refused t told u left
      → Turned addresses ClientLed (ServerLed content) past (delivery at word n) a s log a u left
  to_server a s t u told to fed quiet ends =
      let number : IsNumber addresses n g past = number_is addresses past log n g is there in
      let right : Taken addresses (ServerLed content) OfServer (server_lines addresses (sender_in a.senders)) at
      (FeedsServer at word g.from g.packet.bytes) refused s begun t told =
      subst (λ b. Taken addresses (ServerLed content) OfServer (server_lines addresses (sender_in a.senders)) at
      (FeedsServer at word g.from b) refused s begun t told) are
      (subst (λ f. Taken addresses (ServerLed content) OfServer (server_lines addresses (sender_in a.senders)) at
      (FeedsServer at word f bytes) refused s begun t told) of fed) in
      of_a_server addresses content past (delivery at word n) log left a s u
      (server_turned addresses content (sender_in a.senders) past
      (delivery at word n) refused right.calls s t u log begun told left (g, number, inr to, age)
      (λ entries on. (
        (g, number, inl (to, right.calls, right.are, on)),
        server_heeds_it addresses content past at word
            refused s entries n g from bytes number to of are quiet,
      ))
      begins right.acts ends)

  pub to_client :
      (a b c : ClientEnd A) (s : ServerEnd K A) → g.packet.to ≡ addresses.client
      → Fed ClientLed (FeedsClient at word from bytes) refused a b
      → (TellsNothing a.client at from bytes → refused ≡ false)
      → ClientEnds addresses ClientLed at refused b begun c left
      → Turned addresses ClientLed (ServerLed content) past (delivery at word n) a s log c s left
  to_client a b c s to fed quiet ends =
      let number : IsNumber addresses n g past = number_is addresses past log n g is there in
      let right : Fed ClientLed (FeedsClient at word g.from g.packet.bytes) refused a b =
      subst (λ x. Fed ClientLed (FeedsClient at word g.from x) refused a b) are
      (subst (λ f. Fed ClientLed (FeedsClient at word f bytes) refused a b) of fed) in
      of_a_client addresses content past (delivery at word n) log left a c s
      (client_turned addresses past (delivery at word n) refused right.calls a b c log begun begun left
      (g, number, inl to, age)
      (λ entries on. (
        (g, number, inr (to, right.calls, right.are, on)),
        client_heeds_it addresses past at word refused
            a entries n g from bytes number to of are quiet,
      ))
      begins (fed_acts addresses at word ClientLed g.from g.packet.bytes refused a b begun right) ends)
