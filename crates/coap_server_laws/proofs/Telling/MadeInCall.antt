-- What a server's message layer is given in a call is Empty, or carries a response that this very call made.
use Rattle.std.proofs.Common.{◌≡◌, ◌⊎◌, inl, inr, ℕ, Some, List, [], ◌∷◌, ◌++◌, refl, sym, subst, arith}
use Rattle.coap_types.specs.Past.{Ever}
use Rattle.coap_types.specs.declared.endpoint.Endpoint.{Endpoint}
use Rattle.coap_types.specs.declared.message.Kind.TheVariants.{Non}
use Rattle.coap_codec.specs.Message.{Message, Spells}
use Rattle.coap_codec.specs.Spelling.{message_bytes}
use Rattle.coap_codec.proofs.Facts.EveryDatagram.{one_message}
use Rattle.coap_layer.specs.Rows.{LayerLaw, Row, IsSpelled, RefusesIds, SendsAs}
use Rattle.coap_layer.specs.Sends.{PlainOut}
use Rattle.coap_layer.specs.Trace as L
use Rattle.coap_layer.specs.Trace.{with_head}
use Rattle.coap_layer.specs.Words.{Open, begun}
use Rattle.coap_layer.specs.declared.setup.Setup.{Setup}
use Rattle.coap_resource.specs.Limits.{Limits}
use Rattle.coap_server.specs.Trace.{Call}
use Rattle.coap_server.specs.Asks.{lower}
use Rattle.coap_server.specs.Law.{ServerLaw, own_of, lower_of, layer_of}
use Rattle.coap_server_laws.specs.Follows.Adds.{call_adds, call_asks}
pub use Rattle.coap_server_laws.specs.Follows.MadeHere.{Made}
use Rattle.coap_server_laws.specs.Follows.MadeHere.{AllMadeHere, MakesWhatItGives}
use Rattle.coap_server_laws.proofs.Replying.Sources.{Source}
use Rattle.coap_server_laws.proofs.Facts.Laws as facts
use Rattle.coap_server_laws.proofs.Replying.LayerSendsResponses.{called, made_in}
use Rattle.coap_server_laws.proofs.Replying.ResponsesHaveRequests.{here}
use Rattle.coap_server_laws.proofs.Replying.Sourced.{begun_source}
use Rattle.coap_server.proofs.Facts.Serving.Brought.{server_back}
use Rattle.coap_server_laws.proofs.Telling.LayerCalls.{layer_next, steps_here}

-- at entries in front of others
front : (setup : Setup) (K M : L.Entry → Type 0)
    → ((past : List L.Entry) (e : L.Entry) → LayerLaw setup (e ∷ past) → K e → M e) → (xs past : List L.Entry)
    → LayerLaw setup (xs ++ past) → Ever K xs → Ever M xs
front setup K M f [] past law h = h
front setup K M f (x ∷ xs) past law (inl h) = inl (f (xs ++ past) x law h)
front setup K M f (x ∷ xs) past law (inr h) = inr (front setup K M f xs past law.1 h)

module _ (limits : Limits) (szx : ℕ) (setup : Setup) (to : Endpoint) (m : Message) where
  -- it gives the layer a datagram, for there, that spells the message
  record Brings (e : L.Entry) : Type 0 where
    pub packet : L.Packet
    pub there : packet.to ≡ to
    pub spells : Spells packet.bytes m
    pub source : Source packet e.call

  one_packet : (xs : List L.Entry) → Ever Brings xs
      → (p : L.Packet) × (p.to ≡ to) × Spells p.bytes m × Ever (λ (e : L.Entry). Source p e.call) xs
  one_packet [] h = absurd h
  one_packet (e ∷ xs) (inl h) = (h.packet, h.there, h.spells, inl h.source)
  one_packet (e ∷ xs) (inr h) = let k = one_packet xs h in (k.0, k.1, k.2, inr k.3)

  abbrev made_by : List Call → Call → Type 0
  made_by t c = Made limits szx setup to m t c

  module _ (t : List Call) (c : Call) (law : ServerLaw limits szx setup (c ∷ t)) where
    abbrev adds : List L.Entry
    adds = call_adds limits szx setup t c

    made_here : Ever Brings adds → made_by t c
    made_here h =
        let k = one_packet adds h in
        let s = steps_here limits szx setup t c law in
        let asked = called (Source k.0) s.0 (call_asks limits szx t c)
        (subst (Ever (λ (e : L.Entry). Source k.0 e.call)) s.3 k.3) in
        record {
          packet = k.0;
          there = k.1;
          spells = k.2;
          made = elim (made_in k.0 (lower_of limits szx t) (lower (own_of limits szx t) c) law.exchanges.rows asked) [
            | inl x ↦ inl x
            | inr x ↦ inr (here limits szx setup k.0 t c law x)
          ];
        }

    in_law : LayerLaw setup (adds ++ layer_of limits szx setup t)
    in_law = subst (LayerLaw setup) (layer_next limits szx setup t c) (facts.layer limits szx setup (c ∷ t) law)

    -- a CON that begins
    pub con_made : (con : Open) → Ever (λ b. begun b ≡ Some con) adds → con.to ≡ to → Spells con.bytes m → made_by t c
    con_made con h place spells = made_here
        (front setup (λ b. begun b ≡ Some con) Brings (λ past e l k. record {
          packet = record { to = con.to; bytes = con.bytes };
          there = place;
          spells = spells;
          source = begun_source setup con past e l k;
        }) adds (layer_of limits szx setup t) in_law h)

    -- a NON
    plain_brings : (bytes : List ℕ) → Spells bytes m → (past : List L.Entry) (e : L.Entry) → LayerLaw setup (e ∷ past)
        → PlainOut e (record { to = to; bytes = bytes }) → Brings e
    plain_brings bytes spells past e l q =
        let row : IsSpelled q.content × (RefusesIds setup past e ⊎ SendsAs Non setup past e to q.content) =
        subst (Row setup past e) q.call l.0.row in
        let low = q.spells.id in
        let is : m ≡ with_head Non q.id q.content = one_message bytes m (with_head Non q.id q.content) spells
        q.spells in
        let out = row.0 Non q.id (omega (arith, low)) in
        record {
          packet = record { to = to; bytes = message_bytes (with_head Non q.id q.content) };
          there = refl;
          spells = subst (Spells (message_bytes (with_head Non q.id q.content))) (sym is) out;
          source = inr (record {
            kind = Non;
            content = q.content;
            id = q.id;
            call_is = inl q.call;
            bytes = refl;
            spells = out;
          });
        }

    pub plain_made : (bytes : List ℕ) → Ever (λ b. PlainOut b (record { to = to; bytes = bytes })) adds → Spells bytes m
        → made_by t c
    plain_made bytes h spells = made_here
        (front setup (λ b. PlainOut b (record { to = to; bytes = bytes })) Brings (plain_brings bytes spells) adds
        (layer_of limits szx setup t) in_law h)

    -- a reply
    pub reply_made : (bytes : List ℕ) → Ever (λ (b : L.Entry). b.call ≡ L.Reply to m.id bytes) adds → Spells bytes m
        → made_by t c
    reply_made bytes h spells = made_here
        (front setup (λ (b : L.Entry). b.call ≡ L.Reply to m.id bytes) Brings (λ past e l k. record {
          packet = record { to = to; bytes = bytes };
          there = refl;
          spells = spells;
          source = inl (record { id = m.id; call_is = k; small = (let low = spells.id in omega (arith, low)) });
        }) adds (layer_of limits szx setup t) in_law h)

-- all of it
pub makes_what_it_gives : (limits : Limits) (szx : ℕ) (setup : Setup) (t : List Call) (c : Call)
    → ServerLaw limits szx setup (c ∷ t) → MakesWhatItGives limits szx setup t c
makes_what_it_gives limits szx setup t c law = record {
  cons = λ to m. con_made limits szx setup to m t c law;
  nons = λ to m. plain_made limits szx setup to m t c law;
  replies = λ to m. reply_made limits szx setup to m t c law;
}

pub all_made_here : (limits : Limits) (szx : ℕ) (setup : Setup) (t : List Call) → ServerLaw limits szx setup t
    → AllMadeHere limits szx setup t
all_made_here limits szx setup [] law = tt
all_made_here limits szx setup (c ∷ t) law = (
  makes_what_it_gives limits szx setup t c law,
  all_made_here limits szx setup t (server_back limits szx setup c t law),
)
