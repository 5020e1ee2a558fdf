-- Which request of the client it is that the server hands up, serves, or asks of its store.
use Rattle.std.proofs.Common.{◌≡◌, ◌≤◌, inl, inr, ℕ, Some, None, List, [], ◌∷◌, ap, subst}
use Rattle.coap_types.specs.MethodCode.{method_of}
use Rattle.coap_types.specs.Past.{Sometime}
use Rattle.coap_codec.specs.Message.{Message, Spells}
use Rattle.coap_layer.specs.Words.{Open}
use Rattle.coap_resource.specs.Serves.{Question}
use Rattle.coap_exchange.specs.declared.answerer.Asked.{Asked}
use Rattle.coap_exchange.specs.AnswererSteps.{asked_of}
use Rattle.coap_client_laws.specs.Follows.Begins.{WasSent}
use Rattle.coap_client.specs.Sendings.{Taken, WasTaken, Sending}
use Rattle.coap_server.specs.Follows.Brings.{AsksBy}
use Rattle.coap_server_laws.specs.Follows.Reads.{ReadsOf}
use Rattle.coap_server.specs.Follows.Serves.{Serving, hands, refuses}
use Rattle.coap_server.specs.Follows.Takes.{Took, took, took_by, taken_by, takes_block}
use Rattle.coap_block.specs.declared.block_verdict.BlockVerdict.{BlockVerdict}
use Rattle.coap_block.specs.declared.block_verdict.BlockVerdict.TheVariants.{Refuse}
use Rattle.coap_block.specs.AssemblyState.{AssemblyState}
use Rattle.coap_server.specs.Checks.{Verdict, Uploads, verdict_on}
use Rattle.coap_server.specs.Handling.{incoming, heard}
use Rattle.coap_server.specs.Law.{own_of}
use Rattle.coap_server.specs.Trace as S
use Rattle.coap_server.specs.Uploads.{ruling_of}
use Rattle.coap_server_laws.proofs.Facts.Laws as server_facts
use Rattle.coap_promise.specs.CameFrom.{request_of, CameFrom, CamesFrom}
use Rattle.coap_record.specs.Events.{Config}
use Rattle.coap_record.specs.Legal.{IsRequest}
use Rattle.coap_record.specs.Record.{Entry, OfClient, OfServer, client_of, server_trace}
use Rattle.coap_promise.specs.Serves.{BroughtAt}
use Rattle.coap_promise.specs.Words.{ServesAt}
use Rattle.coap_promise.proofs.Facts.Requests.LastRequests.{Final}
use Rattle.coap_promise.proofs.Any.Requests.OfACall.{final_of, method_asked, Lawful, Begun, Sent, Later, later_back}
use Rattle.coap_promise.proofs.Facts.Requests.Traced.{sent_later, brought_in}

ruled_asked : (v : BlockVerdict) (x y : Took) → took_by v x ≡ Some y → x.asked ≡ y.asked
ruled_asked (Refuse why) x y h = absurd (cc h)
ruled_asked _ x y h = let e : x ≡ y = cc h in ap (λ (z : Took). z.asked) e

taken_asked : (uploads : AssemblyState) (at : ℕ) (a : Asked) (v : Verdict) (y : Took) → taken_by uploads at a v ≡ Some y
    → a ≡ y.asked
taken_asked uploads at a (Uploads q b) y h = ruled_asked (ruling_of uploads at a q b) (took a q b) y h
taken_asked uploads at a _ y h = absurd (cc h)

pub takes_handed : (s : S.Own) (c : S.Call) (y : Took) → takes_block s c ≡ Some y → hands c ≡ Some y.asked
takes_handed s (S.Feeds now from bytes word up (Some p) h below) y is =
    ap (λ a. Some a) (taken_asked s.uploads (heard s now (incoming s now from bytes up (Some p))).clock p.0
    (verdict_on s.szx p.1) y is)
takes_handed s _ y is = absurd (cc is)

-- here the request is handed up, and its block is taken
abbrev pub TakesIn : Config → Asked → List S.Call → S.Call → Type 0
TakesIn config a past c = (hands c ≡ Some a) × ((y : Took)
    × (takes_block (own_of config.limits config.server_szx past) c ≡ Some y))

-- here it is handed up, and not refused
abbrev pub HandsIn : Asked → List S.Call → S.Call → Type 0
HandsIn a past c = (hands c ≡ Some a) × (refuses c ≡ None)

-- what happened at the server by an entry, happened by a later one
pub server_later : (config : Config) (P : List S.Call → S.Call → Type 0) (e : Entry) (w : List Entry)
    → Sometime P (server_trace config w) → Sometime P (server_trace config (e ∷ w))
server_later config P (OfClient c) w h = h
server_later config P (OfServer c) w h = inr h

module _ (config : Config) (number : ℕ) (all : List Entry) (small : config.client_sizes.szx ≤ 6)
    (whole : Lawful config all)
    (in_range : (x : Taken) → WasTaken x (client_of all) → IsRequest x.request) where
  abbrev pub LaterAll : List Entry → Type 0
  LaterAll t = Later config number all small whole in_range t

  abbrev pub SentAll : Sending → Type 0
  SentAll x = Sent config number all small whole in_range x all

  -- it is this request of the client, and comes to this
  pub record Origin (a : Asked) (v : Verdict) : Type 0 where
    pub sending : Sending
    pub con : Open
    pub sent : SentAll sending
    pub begun_there : Begun config number all small whole in_range con all
    pub spells : Spells con.bytes (request_of con.id sending)
    pub asked : a ≡ asked_of config.addresses.client (request_of con.id sending)
    pub verdict : verdict_on config.server_szx (request_of con.id sending) ≡ v

  pub origin_of : (w : List Entry) (e : Entry) → LaterAll (e ∷ w) → (a : Asked) (v : Verdict) → CameFrom config w e a v
      → Origin a v
  origin_of w e later a v k =
      let before = later_back config number all small whole in_range e w later in
      record {
        sending = k.sending;
        con = k.con;
        sent = before.0 k.sending k.sent;
        begun_there = before.1 k.con k.begun_before;
        spells = k.spells;
        asked = k.asked;
        verdict = k.verdict;
      }

  -- what is asked of the store is asked by this request, whose last block was taken
  pub record Brought (a : Asked) (q : Question) (t : List Entry) : Type 0 where
    pub verdict : Verdict
    pub final : Final verdict
    pub origin : Origin a verdict
    pub before : WasSent config.client_sizes origin.sending (client_of t)
    pub method : method_of (request_of origin.con.id origin.sending).code ≡ Some q.method
    pub handed : Sometime (HandsIn a) (server_trace config t)
    pub took : (p : Question) (b : _) → verdict ≡ Uploads p b → Sometime (TakesIn config a) (server_trace config t)

  took_here : (w : List Entry) (c : S.Call) (a : Asked) (q : Question) (v : Verdict)
      → AsksBy config.limits config.server_szx (server_trace config w) c a q v → (p : Question) (b : _) → v
      ≡ Uploads p b
      → TakesIn config a (server_trace config w) c
  took_here w c a q v h p b is =
      let k = subst (AsksBy config.limits config.server_szx (server_trace config w) c a q) is h in (
        takes_handed (own_of config.limits config.server_szx (server_trace config w)) c (took a p b) k.takes,
        (took a p b, k.takes),
      )

  brought_here : (w : List Entry) (c : S.Call) (a : Asked) (q : Question) → LaterAll (OfServer c ∷ w)
      → CamesFrom config (OfServer c ∷ w) → a.from ≡ config.addresses.client → BroughtAt config a q w (OfServer c)
      → Brought a q (OfServer c ∷ w)
  brought_here w c a q later came from h =
      let k = came.0 a h.verdict h.comes from in
      let m : Message = request_of k.con.id k.sending in
      let read = subst (ReadsOf config.server_szx m) k.verdict (server_facts.reads config.server_szx m) in
      record {
        verdict = h.verdict;
        final = final_of config.limits config.server_szx (server_trace config w) c a q h.verdict h.asks;
        origin = record {
          sending = k.sending;
          con = k.con;
          sent = later.0 k.sending k.sent;
          begun_there = (later_back config number all small whole in_range (OfServer c) w later).1 k.con k.begun_before;
          spells = k.spells;
          asked = k.asked;
          verdict = k.verdict;
        };
        before = k.sent;
        method = method_asked config.limits config.server_szx (server_trace config w) c a q m h.verdict h.asks read;
        handed = inl (h.handed, h.taken);
        took = λ p b is. inl (took_here w c a q h.verdict h.asks p b is);
      }

  pub brought_by : (a : Asked) (q : Question) (t : List Entry) → LaterAll t → CamesFrom config t → a.from
      ≡ config.addresses.client
      → Sometime (BroughtAt config a q) t → Brought a q t
  brought_by a q [] later came from h = absurd h
  brought_by a q (OfClient c ∷ w) later came from (inl h) = absurd h
  brought_by a q (OfServer c ∷ w) later came from (inl h) = brought_here w c a q later came from h
  brought_by a q (e ∷ w) later came from (inr h) =
      let k = brought_by a q w (later_back config number all small whole in_range e w later) came.1 from h in
      record {
        verdict = k.verdict;
        final = k.final;
        origin = k.origin;
        before = sent_later config k.origin.sending w e k.before;
        method = k.method;
        handed = server_later config (HandsIn a) e w k.handed;
        took = λ p b is. server_later config (TakesIn config a) e w (k.took p b is);
      }

  -- of what is served here
  pub brought_served : (w : List Entry) (c : S.Call) → LaterAll (OfServer c ∷ w) → Lawful config (OfServer c ∷ w)
      → (x : Serving) → ServesAt config x w (OfServer c) → x.asked.from ≡ config.addresses.client
      → Brought x.asked x.question (OfServer c ∷ w)
  brought_served w c later law x here from =
      let t : List Entry = OfServer c ∷ w in
      let brings = (server_facts.handed config.limits config.server_szx config.server_setup
      (server_trace config t) law.server).0 x here in
      brought_by x.asked x.question t later law.came from (brought_in config x.asked x.question t brings)
