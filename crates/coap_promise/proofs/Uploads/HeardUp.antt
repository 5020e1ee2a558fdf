-- A request that was answered was handed up before.
use Rattle.std.proofs.Common.{◌≡◌, ◌≤◌, inl, inr, ℕ, Some, List, [], ◌∷◌, ◌++◌, map, refl, ap, sym, subst, ◌∙◌}
use Rattle.coap_types.specs.Past.{Ever, Sometime}
use Rattle.coap_types.specs.declared.endpoint.Endpoint.{Endpoint}
use Rattle.coap_types.proofs.Facts.Traces.{Ever_front, Ever_back, Ever_by_law, Sometime_map}
use Rattle.coap_codec.specs.Message.{Message, Spells}
use Rattle.coap_layer.specs.Channel.{Hop, Near, OnFar}
use Rattle.coap_layer.specs.Clocks.{Clocks}
use Rattle.coap_layer.specs.Paced.{HandsUpAs, Takes}
use Rattle.coap_layer.specs.Trace as T
use Rattle.coap_layer.specs.Words.{Open}
use Rattle.coap_layer.proofs.Facts.Paced.{only_that_con}
use Rattle.coap_resource.specs.Serves.{Question}
use Rattle.coap_exchange.specs.declared.answerer.Asked.{Asked}
use Rattle.coap_client_laws.specs.Follows.Order.{call_of, HearsBy}
use Rattle.coap_client.specs.Trace as C
use Rattle.coap_client.specs.Sendings.{Taken, WasTaken, Sending}
use Rattle.coap_server.specs.Follows.Observes.{MadeBy, MadeWith, WasMade}
use Rattle.coap_server.specs.Follows.Serves.{Serving, serving}
use Rattle.coap_server.specs.Checks.{Verdict, Uploads}
use Rattle.coap_server.specs.Law.{own_of}
use Rattle.coap_server.specs.Trace as S
use Rattle.coap_server_laws.proofs.Facts.Laws as server_facts
use Rattle.coap_promise.specs.Answers.{IsAnswer, AnswersAt, replies, continues, refuses, notifies}
use Rattle.coap_promise.specs.CameFrom.{request_of, ComesAt}
use Rattle.coap_record.specs.Events.{Config}
use Rattle.coap_promise.specs.Hops.{hops_in, hops_at, client_adds}
use Rattle.coap_record.specs.Legal.{IsRequest}
use Rattle.coap_record.specs.Record.{Entry, OfClient, OfServer, client_of, server_trace, Setting, DelayOf, PlainOf}
use Rattle.coap_record.specs.Record.{gives_it, settings}
use Rattle.coap_promise.specs.Serves.{BroughtAt}
use Rattle.coap_promise.proofs.Facts.Reports.Answered.{all_answered}
use Rattle.coap_promise.proofs.Facts.Requests.OfACall.{Lawful}
use Rattle.coap_promise.proofs.Facts.Requests.Traced.{brought_in}
use Rattle.coap_promise.proofs.Uploads.Parts.{Begun, Sent, Carries, Part, part_back, one_con}
use Rattle.coap_observe.specs.Observers.{Observer}
use Rattle.coap_promise.proofs.Facts.Requests.AtAnyTime.{at_any_time}

off_near : (P : T.Entry → Type 0) (adds : List T.Entry) (hs : List Hop) → Ever (OnFar P) (map Near adds ++ hs)
    → Ever (OnFar P) hs
off_near P [] hs h = h
off_near P (e ∷ adds) hs (inl h) = absurd h
off_near P (e ∷ adds) hs (inr h) = off_near P adds hs h

module _ (config : Config) (clocks : Clocks) (all : List Entry) (small : config.client_sizes.szx ≤ 6)
    (whole : Lawful config all)
    (in_range : (x : Taken) → WasTaken x (client_of all) → IsRequest x.request) where
  abbrev PartOf : List Entry → Type 0
  PartOf w = Part config clocks all small whole in_range w

  module _ (old : Open) (x : Sending) (k : ℕ) (of : call_of x.operation ≡ Some k) (sent : Sent config x all)
      (begun_all : Begun config old all) (carries : Carries config old x) where
    abbrev UpIn : List Hop → Type 0
    UpIn hs = Ever (OnFar (HandsUpAs clocks config.addresses.client old)) hs

    same_con : (con : Open) (n : Message) → Begun config con all → Spells con.bytes n
        → con.id ≡ n.id → n.token ≡ x.token → con ≡ old
    same_con con n b s id token = one_con config clocks all small whole in_range x k sent of con old b begun_all n
        (request_of old.id x) s carries.spells id refl token refl

    comes_up : (past : List Entry) (e : Entry) (a : Asked) (v : Verdict) → PartOf (e ∷ past) → ComesAt config a v past e
        → a.from ≡ config.addresses.client → a.token ≡ x.token → UpIn (hops_in config (e ∷ past))
    comes_up past e a v p comes from token =
        let came = p.comes.0 a v comes from in
        let f = came.0 in
        let there = (part_back config clocks all small whole in_range past e p).begun_there f.con f.begun_before in
        let same = same_con f.con (request_of f.con.id f.sending) there f.spells refl
        (sym (ap (λ (z : Asked). z.token) f.asked) ∙ token) in
        Ever_front (OnFar (HandsUpAs clocks config.addresses.client old)) (hops_at config past e) (hops_in config past)
        (subst (λ z. Ever (OnFar (HandsUpAs clocks config.addresses.client z)) (hops_at config past e)) same came.1)

    later_up : (past : List Entry) (e : Entry) → UpIn (hops_in config past) → UpIn (hops_in config (e ∷ past))
    later_up past e h = Ever_back (OnFar (HandsUpAs clocks config.addresses.client old)) (hops_at config past e)
        (hops_in config past) h

    brought_up : (a : Asked) (q : Question) (w : List Entry) → PartOf w → Sometime (BroughtAt config a q) w
        → a.from ≡ config.addresses.client → a.token ≡ x.token → UpIn (hops_in config w)
    brought_up a q [] p h from token = absurd h
    brought_up a q (OfClient c ∷ w) p (inl h) from token = absurd h
    brought_up a q (OfServer c ∷ w) p (inl h) from token = comes_up w (OfServer c) a h.verdict p h.comes from token
    brought_up a q (e ∷ w) p (inr h) from token =
        later_up w e (brought_up a q w (part_back config clocks all small whole in_range w e p) h from token)

    served_up : (past : List Entry) (c : S.Call) → PartOf (OfServer c ∷ past) → (s : Serving)
        → serving (own_of config.limits config.server_szx (server_trace config past)) c ≡ Some s
        → s.asked.from ≡ config.addresses.client → s.asked.token ≡ x.token
        → UpIn (hops_in config (OfServer c ∷ past))
    served_up past c p s here from token =
        let w : List Entry = OfServer c ∷ past in
        let brings = (server_facts.handed config.limits config.server_szx config.server_setup
        (server_trace config w) p.law.server).0 s here in
        brought_up s.asked s.question w p (brought_in config s.asked s.question w brings) from token

    abbrev MadeIn : Endpoint → List ℕ → List (List ℕ) → List S.Call → Type 0
    MadeIn to token path t = Sometime (MadeBy config.limits config.server_szx to token path) t

    none_made : (to : Endpoint) (token : List ℕ) (path : List (List ℕ)) (ss : List Setting)
        → MadeIn to token path (map gives_it ss) → ⊥
    none_made to token path [] h = h
    none_made to token path (s ∷ ss) (inr h) = none_made to token path ss h
    none_made to token path (DelayOf d ∷ ss) (inl h) = let here = h.here in cc here
    none_made to token path (PlainOf p ∷ ss) (inl h) = let here = h.here in cc here

    made_in : (o : Observer) (t : List S.Call) → WasMade config.limits config.server_szx t o
        → MadeIn o.to o.token o.path t
    made_in o t made = Sometime_map (MadeWith config.limits config.server_szx o.to o.token o.path o.szx)
        (MadeBy config.limits config.server_szx o.to o.token o.path) (λ past c k. k.made) t made

    made_up : (to : Endpoint) (token : List ℕ) (path : List (List ℕ)) (w : List Entry) → PartOf w
        → MadeIn to token path (server_trace config w) → to ≡ config.addresses.client → token ≡ x.token
        → UpIn (hops_in config w)
    made_up to token path [] p h from is = absurd (none_made to token path (settings config) h)
    made_up to token path (OfClient c ∷ w) p h from is =
        later_up w (OfClient c) (made_up to token path w
        (part_back config clocks all small whole in_range w (OfClient c) p) h from is)
    made_up to token path (OfServer c ∷ w) p (inl h) from is =
        served_up w c p h.request h.here (h.from ∙ from) (h.token_is ∙ is)
    made_up to token path (OfServer c ∷ w) p (inr h) from is =
        later_up w (OfServer c) (made_up to token path w
        (part_back config clocks all small whole in_range w (OfServer c) p) h from is)

    answer_by : (m : Message) (past : List Entry) (c : S.Call) → PartOf (OfServer c ∷ past)
        → IsAnswer config m (server_trace config past) c → m.token ≡ x.token → UpIn (hops_in config (OfServer c ∷ past))
    answer_by m past c p (replies s here is) token = served_up past c p s here is.to_client (is.token_is ∙ token)
    answer_by m past c p (continues z size here more asks is) token =
        let k = (server_facts.blocks config.limits config.server_szx config.server_setup
        (server_trace config (OfServer c ∷ past)) p.law.server).0 z here in
        comes_up past (OfServer c) z.asked (Uploads k.question k.block) p k.comes is.to_client (is.token_is ∙ token)
    answer_by m past c p (refuses a v code comes handed unserved why is) token =
        comes_up past (OfServer c) a v p comes is.to_client (is.token_is ∙ token)
    answer_by m past c p (notifies o reply here made shows is) token =
        later_up past (OfServer c) (made_up o.to o.token o.path past
        (part_back config clocks all small whole in_range past (OfServer c) p)
        (made_in o (server_trace config past) made) is.to_client (is.token_is ∙ token))

    answers_up : (m : Message) (w : List Entry) → PartOf w → Sometime (AnswersAt config m) w → m.token ≡ x.token
        → UpIn (hops_in config w)
    answers_up m [] p h token = absurd h
    answers_up m (OfClient c ∷ w) p (inl h) token = absurd h
    answers_up m (OfServer c ∷ w) p (inl h) token = answer_by m w c p h token
    answers_up m (e ∷ w) p (inr h) token = later_up w e
        (answers_up m w (part_back config clocks all small whole in_range w e p) h token)

    heard_up : (w : List Entry) → PartOf w → Ever (HearsBy x.token) (client_of w) → UpIn (hops_in config w)
    heard_up [] p h = absurd h
    heard_up (OfServer c ∷ w) p h = later_up w (OfServer c)
        (heard_up w (part_back config clocks all small whole in_range w (OfServer c) p) h)
    heard_up (OfClient c ∷ w) p (inr h) = later_up w (OfClient c)
        (heard_up w (part_back config clocks all small whole in_range w (OfClient c) p) h)
    heard_up (OfClient c ∷ w) p (inl h) =
        later_up w (OfClient c) (answers_up h.0 w (part_back config clocks all small whole in_range w (OfClient c) p)
        ((all_answered config (OfClient c ∷ w) (at_any_time p.law)).0 h.0 h.1) h.2)

    -- .. and taken
    pub heard_taken : (past : List Entry) (c : C.Call) → PartOf (OfClient c ∷ past) → Begun config old past
        → Ever (HearsBy x.token) (c ∷ client_of past) → Ever (OnFar (Takes clocks config.addresses.client old))
        (hops_in config past)
    heard_taken past c p there h =
        let earlier = part_back config clocks all small whole in_range past (OfClient c) p in
        let up = off_near (HandsUpAs clocks config.addresses.client old) (client_adds config (client_of past) c)
        (hops_in config past)
        (heard_up (OfClient c ∷ past) p h) in
        Ever_by_law (λ q e. OnFar (HandsUpAs clocks config.addresses.client old) e
        → OnFar (Takes clocks config.addresses.client old) e)
        (OnFar (HandsUpAs clocks config.addresses.client old)) (OnFar (Takes clocks config.addresses.client old))
        (λ q e l k. l.0 k) (hops_in config past)
        (only_that_con clocks config.client_setup config.server_setup config.addresses.client config.addresses.server
        (hops_in config past) earlier.channel old there) up
