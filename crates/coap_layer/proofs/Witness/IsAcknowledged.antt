-- Two layers that stand in the law of a channel: a CON is begun at 0, arrives at 10 and is acknowledged; the
-- acknowledgement is taken at 20 (RFC 7252, section 4.2).
use Rattle.coap_layer.specs.Examples.{began}
use Rattle.std.proofs.Common.{◌≡◌, inl, inr, ℕ, List, [], ◌∷◌, ◌++◌, true, refl, ap, subst, arith}
use Rattle.coap_types.specs.declared.endpoint.Endpoint.{Endpoint}
use Rattle.coap_types.specs.declared.message.Kind.TheVariants.{Con, Ack}
use Rattle.coap_codec.specs.Message.{Message, Spells}
use Rattle.coap_codec.specs.Reading.{extended, value_at, nibbles_at, option_at, walk_of, walk, payload_at, frame_fault}
use Rattle.coap_codec.specs.Reading.{body_at}
use Rattle.coap_codec.specs.Decoded.{decoded}
use Rattle.coap_codec.specs.IsSpelled.{has_spelling, is_spelled}
use Rattle.coap_codec.specs.Spelling.{options_bytes}
use Rattle.coap_layer.specs.Trace.{Content, Receive, Reply, Confirm, Request, Acked, Becomes, Nothing, Sent, Entry}
use Rattle.coap_layer.specs.Words.{Open}
use Rattle.coap_layer.specs.Rows.{LayerLaw, IsSpelled}
use Rattle.coap_layer.specs.Machine.State.{start, made}
use Rattle.coap_layer.specs.Machine.Steps.{Asked, Steps, entries, left_after}
use Rattle.coap_layer.specs.Channel.{Hop, Near, Far, GaveOut, RepliesAtOnce, HearsAck, Takes}
use Rattle.coap_layer.specs.OneClock.{ChannelLaw}
use Rattle.coap_layer.proofs.Paced.AtOneClock.{one_pace}
use Rattle.std.proofs.Common.{◌≤◌}
use Rattle.coap_layer.specs.Examples.{IsAcknowledged}
use Rattle.coap_layer.proofs.Facts.Calls.{led_steps}

abbrev client : Endpoint
client = record { ip = 127 ∷ 0 ∷ 0 ∷ 1 ∷ []; port = 40000 }

abbrev server : Endpoint
server = record { ip = 127 ∷ 0 ∷ 0 ∷ 1 ∷ []; port = 5683 }

-- a GET with nothing more, and an Empty acknowledgement
abbrev get : Content
get = record { code = 1; token = []; options = []; payload = [] }

abbrev request : List ℕ
request = 0x40 ∷ 1 ∷ 0 ∷ 0 ∷ []

abbrev request_message : Message
request_message = record { kind = Con; code = 1; id = 0; token = []; options = []; payload = [] }

abbrev ack : List ℕ
ack = 0x60 ∷ 0 ∷ 0 ∷ 0 ∷ []

abbrev ack_message : Message
ack_message = record { kind = Ack; code = 0; id = 0; token = []; options = []; payload = [] }

get_spelled : IsSpelled get
unfolding options_bytes
get_spelled kind id small = record {
  code = omega arith;
  id = omega (arith, small);
  token = omega arith;
  option_bytes = [];
  options = refl;
  parts = refl;
  empty = λ z. absurd (omega (arith, z));
}

ack_spelled : Spells ack ack_message
ack_spelled = record {
  code = omega arith;
  id = omega arith;
  token = omega arith;
  option_bytes = [];
  options = refl;
  parts = refl;
  empty = λ z. refl;
}

-- the calls of each, the newest first
abbrev near_begins : Asked
near_begins = record { now = 0; call = Confirm server get 1000; answer = Sent 0 }

abbrev near_hears : Asked
near_hears = record { now = 20; call = Receive server ack; answer = Becomes (Acked 0) }

abbrev far_takes : Asked
far_takes = record { now = 10; call = Receive client request; answer = Becomes (Request request_message true) }

abbrev far_replies : Asked
far_replies = record { now = 10; call = Reply client 0 ack; answer = Nothing }

abbrev near_run : List Asked
near_run = near_hears ∷ near_begins ∷ []

abbrev far_run : List Asked
far_run = far_replies ∷ far_takes ∷ []

near_steps : Steps (start began) near_run (left_after (start began) near_run)
unfolding decoded frame_fault body_at walk walk_of option_at nibbles_at value_at extended payload_at is_spelled
    has_spelling options_bytes
near_steps = (
  _,
  (_, refl, record { may = get_spelled; right = refl; new_is = refl }),
  record { may = tt; right = refl; new_is = refl },
)

far_steps : Steps (start began) far_run (left_after (start began) far_run)
unfolding decoded frame_fault body_at walk walk_of option_at nibbles_at value_at extended payload_at is_spelled
    has_spelling options_bytes
far_steps = (
  _,
  (
    _,
    refl,
    record { may = tt; right = refl; new_is = refl },
  ),
  record { may = refl; right = refl; new_is = refl },
)

abbrev near_trace : List Entry
near_trace = entries (start began) near_run ++ []

abbrev far_trace : List Entry
far_trace = entries (start began) far_run ++ []

near_lawful : LayerLaw began near_trace
near_lawful = (led_steps began [] (start began) (left_after (start began) near_run) near_run
    (record { law = tt; kept = refl }) near_steps).law

far_lawful : LayerLaw began far_trace
far_lawful = (led_steps began [] (start began) (left_after (start began) far_run) far_run
    (record { law = tt; kept = refl }) far_steps).law

-- in the order of time
abbrev hops : List Hop
hops =
    Near (made (left_after (start began) (near_begins ∷ [])) 20 near_hears.call) ∷
    Far (made (left_after (start began) (far_takes ∷ [])) 10 far_replies.call) ∷
    Far (made (start began) 10 far_takes.call) ∷
    Near (made (start began) 0 near_begins.call) ∷
    []

reply_once : RepliesAtOnce (made (start began) 10 far_takes.call ∷ []) 10 0 ack
unfolding decoded frame_fault body_at walk walk_of option_at nibbles_at value_at extended payload_at is_spelled
    has_spelling options_bytes
reply_once = record {
  to_what = record { from = client; message = request_message };
  latest = inl (refl, refl);
  reply = ack_message;
  spells = ack_spelled;
  id_is = refl;
  kind = inr (refl, refl);
}

same_bytes : (a b : List ℕ) (from to : Endpoint) → Receive from a ≡ Receive to b → a ≡ b
same_bytes a b from to h = cc h

request_out : GaveOut server request 10 (made (start began) 0 near_begins.call)
unfolding options_bytes
request_out = record { out = inl refl; from = omega arith; till = omega arith }

ack_out : GaveOut client ack 20 (made (left_after (start began) (far_takes ∷ [])) 10 far_replies.call)
unfolding decoded frame_fault body_at walk walk_of option_at nibbles_at value_at extended payload_at is_spelled
    has_spelling options_bytes
ack_out = record { out = inl refl; from = omega arith; till = omega arith }

channel : ChannelLaw began began client server hops
unfolding decoded frame_fault body_at walk walk_of option_at nibbles_at value_at extended payload_at is_spelled
    has_spelling options_bytes
channel = record {
  pace = one_pace;
  near_law = near_lawful;
  far_law = far_lawful;
  near_replies = ((λ to id bytes h. absurd (cc h)), ((λ to id bytes h. absurd (cc h)), tt));
  far_replies = (
    (λ to id bytes h. let i : 0 ≡ id = cc h in let b : ack
        ≡ bytes = cc h in subst (λ (n : ℕ). RepliesAtOnce (made (start began) 10 far_takes.call ∷ []) 10 n bytes) i
        (subst (λ (x : List ℕ). RepliesAtOnce (made (start began) 10 far_takes.call ∷ []) 10 0 x) b reply_once)),
    ((λ to id bytes h. absurd (cc h)), tt),
  );
  fair = (
    (λ bytes h. record {
      instant = 20;
      shown = refl;
      later = let k : 10 ≤ 20 = omega arith in k;
      so = inl (subst (λ (x : List ℕ). GaveOut client x 20
          (made (left_after (start began) (far_takes ∷ [])) 10 far_replies.call))
          (same_bytes ack bytes server server h) ack_out);
    }),
    (
      (λ bytes h. absurd (cc h)),
      (
        (λ bytes h. record {
          instant = 10;
          shown = refl;
          later = let k : 0 ≤ 10 = omega arith in k;
          so = inl (subst (λ (x : List ℕ). GaveOut server x 10 (made (start began) 0 near_begins.call))
              (same_bytes request bytes client client h) request_out);
        }),
        ((λ bytes h. absurd (cc h)), tt),
      ),
    ),
  );
}

-- the acknowledgement is heard, and the CON was taken
abbrev con : Open
con = record { to = server; id = 0; bytes = request; timeout = 3000; first = 0; last = 0 }

hears : HearsAck con (made (start began) 0 near_begins.call ∷ [])
    (made (left_after (start began) (near_begins ∷ [])) 20 near_hears.call)
unfolding decoded frame_fault body_at walk walk_of option_at nibbles_at value_at extended payload_at is_spelled
    has_spelling options_bytes
hears = record { is_outstanding = inl refl; bytes = ack; call = refl; answer = inl refl }

takes : Takes client con (made (start began) 10 far_takes.call)
unfolding decoded frame_fault body_at walk walk_of option_at nibbles_at value_at extended payload_at is_spelled
    has_spelling options_bytes
takes = record { call = refl; up = refl; from = omega arith; till = omega arith }

pub acknowledged : IsAcknowledged
acknowledged = record {
  near = client;
  far = server;
  hops = hops;
  apart = λ h. (let e : 40000 ≡ 5683 = ap (λ (x : Endpoint). x.port) h in absurd (omega (arith, e)));
  law = channel;
  con = con;
  heard = inl (_, refl, hears, inr (inl takes));
}
