-- What one client and the server see of the entries: their traces, and what they gave out.
use Rattle.std.proofs.Common.{◌≡◌, ℕ, Bool, true, false, cond, Option, Some, None, List, [], ◌∷◌, ◌++◌, map, refl, sym}
use Rattle.std.proofs.Common.{ap}
use Rattle.std.proofs.Common.{◌∙◌, ◌||◌, append_assoc, if◌then◌else◌}
use Rattle.std.specs.Prelude.{filter}
use Rattle.std.proofs.lemmas.List.Elements.{filter-append}
use Rattle.coap_types.specs.Past.{all_of}
use Rattle.coap_types.specs.SameEndpoint.{same_endpoint}
use Rattle.coap_types.specs.declared.endpoint.Endpoint.{Endpoint}
use Rattle.coap_types.proofs.Facts.Endpoints.{same_endpoint_is, same_endpoint_self}
use Rattle.coap_layer.specs.Trace.{Packet}
use Rattle.coap_client.specs.Trace as C
use Rattle.coap_server.specs.Trace as S
use Rattle.coap_record.specs.Record as W
use Rattle.coap_record.specs.declared.addresses.Addresses.{Addresses}
use Rattle.coap_many.specs.Clients.{Config}
use Rattle.coap_many.specs.Entries.{Entry, OfClient, OfServer, client_of, server_of, given_by, as_of}
use Rattle.coap_many.specs.View.{view_entry, view_entries}
use Rattle.coap_many.specs.Comings.{is_of}

pub all_of_append : {E F : Type 0} (f : E → List F) (s t : List E) → all_of f (s ++ t) ≡ all_of f s ++ all_of f t
all_of_append f [] t = refl
all_of_append f (e ∷ s) t = ap (λ x. f e ++ x) (all_of_append f s t)
    ∙ sym (append_assoc (f e) (all_of f s) (all_of f t))

-- the traces

pub client_view : (me : Endpoint) (es : List Entry) → W.client_of (view_entries me es) ≡ client_of me es
client_view me [] = refl
client_view me (OfClient who c ∷ es) = by (same_endpoint who me) (client_view me es)
  where
    by : (b : Bool) → W.client_of (view_entries me es) ≡ client_of me es
        → W.client_of ((if b then W.OfClient c ∷ [] else []) ++ view_entries me es)
        ≡ (if b then c ∷ [] else []) ++ client_of me es
    by true h = ap (λ l. c ∷ l) h
    by false h = h
client_view me (OfServer c ∷ es) = client_view me es

pub server_view : (me : Endpoint) (es : List Entry) → W.server_of (view_entries me es) ≡ server_of es
server_view me [] = refl
server_view me (OfClient who c ∷ es) = by (same_endpoint who me) (server_view me es)
  where
    by : (b : Bool) → W.server_of (view_entries me es) ≡ server_of es
        → W.server_of ((if b then W.OfClient c ∷ [] else []) ++ view_entries me es) ≡ server_of es
    by true h = h
    by false h = h
server_view me (OfServer c ∷ es) = ap (λ l. c ∷ l) (server_view me es)

-- a turn of the client, of another client, and of the server

pub own_view : (me : Endpoint) (cs : List C.Call) → view_entries me (map (as_of me) (map W.OfClient cs))
    ≡ map W.OfClient cs
own_view me [] = refl
own_view me (c ∷ cs) =
    ap (λ b. (if b then W.OfClient c ∷ [] else []) ++ view_entries me (map (as_of me) (map W.OfClient cs)))
    (same_endpoint_self me) ∙ ap (λ l. W.OfClient c ∷ l) (own_view me cs)

pub others_view : (me who : Endpoint) (cs : List C.Call) → same_endpoint who me ≡ false
    → view_entries me (map (as_of who) (map W.OfClient cs)) ≡ []
others_view me who [] other = refl
others_view me who (c ∷ cs) other =
    ap (λ b. (if b then W.OfClient c ∷ [] else []) ++ view_entries me (map (as_of who) (map W.OfClient cs))) other
    ∙ others_view me who cs other

pub servers_view : (me who : Endpoint) (cs : List S.Call) → view_entries me (map (as_of who) (map W.OfServer cs))
    ≡ map W.OfServer cs
servers_view me who [] = refl
servers_view me who (c ∷ cs) = ap (λ l. W.OfServer c ∷ l) (servers_view me who cs)

-- the client's entries are not at the server's address
abbrev pub IsApart : Config → Entry → Type 0
IsApart config (OfClient who c) = same_endpoint who config.server ≡ false
IsApart config (OfServer c) = Unit {0}

abbrev pub AreApart : Config → List Entry → Type 0
AreApart config [] = Unit {0}
AreApart config (e ∷ es) = IsApart config e × AreApart config es

pub clients_apart : (config : Config) (who : Endpoint) (cs : List C.Call) → same_endpoint who config.server ≡ false
    → AreApart config (map (as_of who) (map W.OfClient cs))
clients_apart config who [] h = tt
clients_apart config who (c ∷ cs) h = (h, clients_apart config who cs h)

pub servers_apart : (config : Config) (who : Endpoint) (cs : List S.Call)
    → AreApart config (map (as_of who) (map W.OfServer cs))
servers_apart config who [] = tt
servers_apart config who (c ∷ cs) = (tt, servers_apart config who cs)

-- what they gave out
module _ (config : Config) (me : Endpoint) (at : ℕ) where
  abbrev pub the_two : Addresses
  the_two = record { client = me; server = config.server }

  out_of_client : (who : Endpoint) (o : Option Packet) → same_endpoint who config.server ≡ false
      → all_of (W.given_by the_two at) (view_entry me (OfClient who (C.NextOut o)))
      ≡ filter (is_of config me) (W.given_as at who o)
  out_of_client who None h = by (same_endpoint who me)
    where
      by : (b : Bool) → all_of (W.given_by the_two at) (if b then W.OfClient (C.NextOut None) ∷ [] else []) ≡ []
      by true = refl
      by false = refl
  out_of_client who (Some p) h = by (same_endpoint who me) refl
      ∙ ap (λ b. cond b (g ∷ []) []) (sym (ap (λ b. b || same_endpoint who me) h))
    where
      g : W.Given
      g = record { at = at; from = who; packet = p }

      by : (b : Bool) → same_endpoint who me ≡ b
          → all_of (W.given_by the_two at) (if b then W.OfClient (C.NextOut (Some p)) ∷ [] else [])
          ≡ cond (same_endpoint who me) (g ∷ []) []
      by true e = ap (λ f. record { at = at; from = f; packet = p } ∷ []) (sym (same_endpoint_is who me e))
          ∙ ap (λ b. cond b (g ∷ []) []) (sym e)
      by false e = ap (λ b. cond b (g ∷ []) []) (sym e)

  none_of_client : (who : Endpoint) (c : C.Call) → W.given_by the_two at (W.OfClient c) ≡ []
      → all_of (W.given_by the_two at) (view_entry me (OfClient who c)) ≡ []
  none_of_client who c none = by (same_endpoint who me)
    where
      by : (b : Bool) → all_of (W.given_by the_two at) (if b then W.OfClient c ∷ [] else []) ≡ []
      by true = ap (λ l. l ++ []) none
      by false = refl

  out_of_server : (o : Option Packet) → W.given_as at config.server o
      ≡ filter (is_of config me) (W.given_as at config.server o)
  out_of_server None = refl
  out_of_server (Some p) = ap (λ b. cond b (g ∷ []) [])
      (sym (ap (λ b. b || same_endpoint config.server me) (same_endpoint_self config.server)))
    where
      g : W.Given
      g = record { at = at; from = config.server; packet = p }

  given_here : (e : Entry) → IsApart config e
      → all_of (W.given_by the_two at) (view_entry me e) ≡ filter (is_of config me) (given_by config at e)
  given_here (OfClient who (C.NextOut o)) h = out_of_client who o h
  given_here (OfClient who c) h = none_of_client who c refl
  given_here (OfServer (S.NextOut o)) h = ap (λ l. l ++ []) (out_of_server o) ∙ nil_right _
    where
      nil_right : {A : Type 0} (l : List A) → l ++ [] ≡ l
      nil_right [] = refl
      nil_right (x ∷ l) = ap (λ t. x ∷ t) (nil_right l)
  given_here (OfServer c) h = refl

  pub given_view : (es : List Entry) → AreApart config es
      → all_of (W.given_by the_two at) (view_entries me es)
      ≡ filter (is_of config me) (all_of (given_by config at) es)
  given_view [] h = refl
  given_view (e ∷ es) h =
      all_of_append (W.given_by the_two at) (view_entry me e) (view_entries me es)
      ∙ ap (λ l. l ++ all_of (W.given_by the_two at) (view_entries me es)) (given_here e h.0)
      ∙ ap (λ l. filter (is_of config me) (given_by config at e) ++ l) (given_view es h.1)
      ∙ sym (filter-append (is_of config me) (given_by config at e) (all_of (given_by config at) es))
