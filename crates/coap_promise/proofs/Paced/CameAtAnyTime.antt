-- A request from the client's address that is handed up is one that the client sent, at whatever time it comes.
use Rattle.std.proofs.Common.{◌≡◌, inl, inr, Some, List, [], ◌∷◌, ◌++◌, map, refl, ap, sym, subst, ◌∙◌}
use Rattle.coap_types.specs.Past.{Ever}
use Rattle.coap_types.proofs.Facts.Traces.{Ever_map}
use Rattle.coap_types.specs.declared.endpoint.Endpoint.{Endpoint}
use Rattle.coap_codec.specs.Message.{Message, Spells}
use Rattle.coap_layer.specs.AtAnyTime.{FairLaw}
use Rattle.coap_layer.specs.Channel.{Hop, Far, near_of, far_of, HandedBy}
use Rattle.coap_layer.specs.Sends.{PlainOut}
use Rattle.coap_layer.specs.Trace as T
use Rattle.coap_layer.specs.Words.{Open, begun, handed, handed_in, Incoming}
use Rattle.coap_layer.specs.declared.setup.Setup.{Setup}
use Rattle.coap_layer.proofs.Facts.AtAnyTime.{earlier, begun_so, nons_sent}
use Rattle.coap_layer.proofs.Facts.Laws.{handed_spelled}
use Rattle.coap_exchange.specs.declared.answerer.Asked.{Asked}
use Rattle.coap_exchange.specs.AnswererSteps.{asked_of}
use Rattle.coap_client_laws.specs.Follows.Sendings.{SendsNon, NoNons}
use Rattle.coap_client_laws.proofs.Facts.Laws as client_facts
use Rattle.coap_server.specs.Follows.Brings.{HandsUp, Comes}
use Rattle.coap_server.specs.Checks.{Verdict}
use Rattle.coap_server.specs.Trace as S
use Rattle.coap_promise.specs.CameFrom.{CameFrom, CamesFrom}
use Rattle.coap_record.specs.Events.{Config}
use Rattle.coap_promise.specs.Hops.{hops_at, hops_in, server_adds}
use Rattle.coap_record.specs.Record.{Entry, OfClient, OfServer, client_of, server_trace}
use Rattle.coap_promise.proofs.Facts.Delivery.HopsAreEntries.{near_far, near_is}
use Rattle.coap_promise.proofs.Facts.Requests.CameFrom.{UpOf, FromClient, Says, handed_there, same_request}

pub fair_back : (one other : Setup) (near far : Endpoint) (later past : List Hop)
    → FairLaw one other near far (later ++ past)
    → FairLaw one other near far past
fair_back one other near far [] past law = law
fair_back one other near far (h ∷ later) past law =
    fair_back one other near far later past (earlier one other near far (later ++ past) h law)

-- the CON in which the request came
record Found (near far : Endpoint) (V : Message → Type 0) (a : Asked) (hs : List Hop) : Type 0 where
  con : Open
  begun_before : Ever (λ b. begun b ≡ Some con) (near_of hs)
  to : con.to ≡ far
  message : Message
  spells : Spells con.bytes message
  id : con.id ≡ message.id
  asked : a ≡ asked_of near message
  verdict : V message

module _ (one other : Setup) (near far : Endpoint) (V : Message → Type 0) (a : Asked) (from : a.from ≡ near) where
  module _ (past : List Hop) (y : T.Entry) (law : FairLaw one other near far (Far y ∷ past))
      (nons : NoNons (near_of past))
      (up : UpOf V a y) where
    abbrev incoming : Incoming
    incoming = record { from = near; message = up.message }

    is_handed : handed y ≡ Some incoming
    is_handed = ap (λ c. handed_in c y.answer) (up.call ∙ ap (λ f. T.Receive f up.bytes) from)
        ∙ ap (λ b. handed_in (T.Receive near up.bytes) b) up.answer

    by : HandedBy y incoming
    by = (handed_spelled other (y ∷ far_of past) law.far_law).0 incoming is_handed

    here : Found near far V a past
    here = elim by.kind [
      | inl k ↦ (let b = begun_so one other near far past y by.bytes up.message law by.call by.spells k in
          record {
            con = b.con;
            begun_before = b.begun;
            to = b.to_is;
            message = up.message;
            spells = subst (λ z. Spells z up.message) (sym b.bytes_are) by.spells;
            id = b.id_is;
            asked = up.asked_is ∙ ap (λ f. asked_of f up.message) from;
            verdict = up.verdict;
          })
      | inr k ↦ absurd (nons (Ever_map (λ b. PlainOut b (record { to = far; bytes = by.bytes })) SendsNon
          (λ e p. (far, p.content, p.call)) (near_of past)
          ((nons_sent one other near far (Far y ∷ past) law).0 y by.bytes up.message refl by.call by.spells k)))
    ]

  -- .. in these entries of the far layer
  find_at : (adds : List T.Entry) (hs : List Hop) → FairLaw one other near far (map Far adds ++ hs)
      → NoNons (near_of hs)
      → Ever (UpOf V a) adds → Found near far V a hs
  find_at [] hs law nons h = absurd h
  find_at (y ∷ adds) hs law nons (inr h) =
      find_at adds hs (earlier one other near far (map Far adds ++ hs) (Far y) law) nons h
  find_at (y ∷ adds) hs law nons (inl h) =
      let is = near_far adds hs in
      let k = here (map Far adds ++ hs) y law (subst NoNons (sym is) nons) h in
      record {
        con = k.con;
        begun_before = subst (Ever (λ b. begun b ≡ Some k.con)) is k.begun_before;
        to = k.to;
        message = k.message;
        spells = k.spells;
        id = k.id;
        asked = k.asked;
        verdict = k.verdict;
      }

module _ (config : Config) where
  abbrev IsFair : List Entry → Type 0
  IsFair t = FairLaw config.client_setup config.server_setup config.addresses.client config.addresses.server
      (hops_in config t)

  came_here : (past : List Entry) (c : S.Call) → IsFair (OfServer c ∷ past) → FromClient config past → (a : Asked)
      (v : Verdict) → Comes config.limits config.server_szx config.server_setup (server_trace config past) c a v
      → a.from ≡ config.addresses.client → CameFrom config past (OfServer c) a v
  came_here past c law own a v up from =
      let adds : List T.Entry = server_adds config (server_trace config past) c in
      let ups = Ever_map (HandsUp config.server_szx a v) (UpOf (Says config v) a)
      (λ e u. record {
        message = u.message;
        bytes = u.bytes;
        call = u.call;
        answer = u.answer;
        asked_is = u.asked_is;
        verdict = u.verdict;
      }) adds
      (handed_there config (server_trace config past) c a v up)
      in
      let nons = subst NoNons (sym (near_is config past))
      (client_facts.nons config.addresses.server config.client_sizes config.client_setup (client_of past)) in
      let f = find_at config.client_setup config.server_setup config.addresses.client config.addresses.server
      (Says config v) a from adds
      (hops_in config past) law nons ups in
      let r = client_facts.begins config.addresses.server config.client_sizes config.client_setup (client_of past) own
      f.con
      (subst (Ever (λ b. begun b ≡ Some f.con)) (near_is config past) f.begun_before) in
      let same = same_request config.addresses f.con f.message r.0 r.2 f.spells f.id in
      record {
        sending = r.0;
        sent = r.1;
        con = f.con;
        begun_before = f.begun_before;
        is = r.2;
        spells = subst (Spells f.con.bytes) same f.spells;
        asked = f.asked ∙ ap (asked_of config.addresses.client) same;
        verdict = subst (Says config v) same f.verdict;
      }

  pub came_at_any_time : (all : List Entry) → IsFair all → FromClient config all → CamesFrom config all
  came_at_any_time [] law own = tt
  came_at_any_time (OfClient c ∷ past) law own = (
    λ a v comes from. absurd comes,
    came_at_any_time past (fair_back config.client_setup config.server_setup config.addresses.client
        config.addresses.server
        (hops_at config past (OfClient c)) (hops_in config past) law)
        (client_facts.back config.addresses.server config.client_sizes config.client_setup (c ∷ []) (client_of past)
        own),
  )
  came_at_any_time (OfServer c ∷ past) law own = (
    λ a v comes from. came_here past c law own a v comes from,
    came_at_any_time past (fair_back config.client_setup config.server_setup config.addresses.client
        config.addresses.server
        (hops_at config past (OfServer c)) (hops_in config past) law) own,
  )
