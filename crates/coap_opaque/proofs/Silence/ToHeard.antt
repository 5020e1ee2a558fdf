-- What an end gives out goes to a peer that it heard, or to a client's server.
use Rattle.std.proofs.Common.{◌≡◌, ◌⊎◌, inl, inr, ℕ, Bool, true, false, Some, List, [], ◌∷◌, refl}
use Rattle.std.proofs.Common.{sym, subst, ◌∙◌, append-nil, true≢false}
use Rattle.coap_types.specs.Past.{Ever}
use Rattle.coap_types.specs.SameEndpoint.{same_endpoint}
use Rattle.coap_types.specs.declared.endpoint.Endpoint.{Endpoint}
use Rattle.coap_types.proofs.Facts.Endpoints.{same_endpoint_self}
use Rattle.coap_layer.specs.Trace.{Packet}
use Rattle.coap_layer.specs.declared.setup.Setup.{Setup}
use Rattle.coap_block.specs.Sizes.{Sizes}
use Rattle.coap_block.specs.Whole.{Each}
use Rattle.coap_resource.specs.Limits.{Limits}
use Rattle.coap_client.specs.Law.{ClientLaw}
use Rattle.coap_client.specs.Trace as C
use Rattle.coap_client_laws.proofs.Facts.Laws as client
use Rattle.coap_server.specs.Law.{ServerLaw}
use Rattle.coap_server.specs.Trace as S
use Rattle.coap_server_laws.proofs.Facts.Laws as server
use Rattle.coap_server_laws.specs.Follows.Silent as F
use Rattle.coap_opaque.specs.Silent.{ClientGivesToHeard, ClientHears, HearsElse, ServerGivesToHeard}
use Rattle.coap_opaque.specs.Silent.{ServerHears, StaysSilent}

not_itself : (a : Endpoint) → same_endpoint a a ≡ false → ⊥
not_itself a h = true≢false (sym (same_endpoint_self a) ∙ h)

module _ {Call : Type 0} (Hears Else : Call → Type 0) (which : (c : Call) → Else c ⊎ Hears c) where
  -- each call is another's, or at one the peer is heard
  heard_or : (t : List Call) → Each Else t ⊎ Ever Hears t
  heard_or [] = inl tt
  heard_or (c ∷ t) = by (which c) (heard_or t)
    where
      by : Else c ⊎ Hears c → Each Else t ⊎ Ever Hears t → Each Else (c ∷ t) ⊎ Ever Hears (c ∷ t)
      by (inr h) k = inr (inl h)
      by (inl e) (inl k) = inl (e, k)
      by (inl e) (inr h) = inr (inr h)

by_test : (b : Bool) → (b ≡ false) ⊎ (b ≡ true)
by_test true = inr refl
by_test false = inl refl

-- a client

client_which : (peer : Endpoint) (c : C.Call) → HearsElse peer c ⊎ ClientHears peer c
client_which peer (C.Feeds now from bytes word up settled event sent token kept) = by_test (same_endpoint from peer)
client_which peer _ = inl tt

module _ (at : Endpoint) (sizes : Sizes) (setup : Setup)
    (silent : (t : List C.Call) → StaysSilent at sizes setup t) where
  client_none : (p : Packet) (past : List C.Call) → ClientLaw at sizes setup (C.NextOut (Some p) ∷ past)
      → same_endpoint at p.to ≡ false → Each (HearsElse p.to) past → ⊥
  client_none p past law other e =
      let calls : List C.Call = C.NextOut (Some p) ∷ past in
      let k = silent [] p.to other calls (tt, e)
      (subst (ClientLaw at sizes setup) (sym (append-nil calls)) law) in
      not_itself p.to k.0

  client_gives : (c : C.Call) (past : List C.Call) → ClientLaw at sizes setup (c ∷ past) → (p : Packet)
      → c ≡ C.NextOut (Some p) → (same_endpoint at p.to ≡ true) ⊎ Ever (ClientHears p.to) past
  client_gives c past law p is =
      by (by_test (same_endpoint at p.to)) (heard_or (ClientHears p.to) (HearsElse p.to) (client_which p.to) past)
    where
      by : (same_endpoint at p.to ≡ false) ⊎ (same_endpoint at p.to ≡ true)
          → Each (HearsElse p.to) past ⊎ Ever (ClientHears p.to) past
          → (same_endpoint at p.to ≡ true) ⊎ Ever (ClientHears p.to) past
      by (inr h) k = inl h
      by (inl h) (inr k) = inr k
      by (inl h) (inl e) = absurd
          (client_none p past (subst (λ (d : C.Call). ClientLaw at sizes setup (d ∷ past)) is law) h e)

  pub client_to_heard : (t : List C.Call) → ClientLaw at sizes setup t → ClientGivesToHeard at t
  client_to_heard [] law = tt
  client_to_heard (c ∷ past) law = (
    client_gives c past law,
    client_to_heard past (client.back at sizes setup (c ∷ []) past law),
  )

-- a server

server_which : (peer : Endpoint) (c : S.Call) → F.HearsElse peer c ⊎ ServerHears peer c
server_which peer (S.Feeds now from bytes word up came h below) = by_test (same_endpoint from peer)
server_which peer (S.Refuses now from bytes word code up p response below) = by_test (same_endpoint from peer)
server_which peer _ = inl tt

module _ (limits : Limits) (szx : ℕ) (setup : Setup)
    (silent : (t : List S.Call) → F.StaysSilent limits szx setup t) where
  server_none : (p : Packet) (past : List S.Call) → ServerLaw limits szx setup (S.NextOut (Some p) ∷ past)
      → Each (F.HearsElse p.to) past → ⊥
  server_none p past law e =
      let calls : List S.Call = S.NextOut (Some p) ∷ past in
      let k = silent [] p.to 0 refl calls (tt, e)
      (subst (ServerLaw limits szx setup) (sym (append-nil calls)) law) in
      not_itself p.to k.0

  server_gives : (c : S.Call) (past : List S.Call) → ServerLaw limits szx setup (c ∷ past) → (p : Packet)
      → c ≡ S.NextOut (Some p) → Ever (ServerHears p.to) past
  server_gives c past law p is = by (heard_or (ServerHears p.to) (F.HearsElse p.to) (server_which p.to) past)
    where
      by : Each (F.HearsElse p.to) past ⊎ Ever (ServerHears p.to) past → Ever (ServerHears p.to) past
      by (inr k) = k
      by (inl e) = absurd
          (server_none p past (subst (λ (d : S.Call). ServerLaw limits szx setup (d ∷ past)) is law) e)

  pub server_to_heard : (t : List S.Call) → ServerLaw limits szx setup t → ServerGivesToHeard t
  server_to_heard [] law = tt
  server_to_heard (c ∷ past) law = (
    server_gives c past law,
    server_to_heard past (server.back limits szx setup (c ∷ []) past law),
  )
