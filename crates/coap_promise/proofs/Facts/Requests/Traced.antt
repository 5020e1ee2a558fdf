-- Where the request was handed up that is served, and which one of the client it is.
use Rattle.std.proofs.Common.{◌≡◌, inl, inr, Some, List, [], ◌∷◌, ◌++◌, map, sym, subst}
use Rattle.coap_types.specs.Past.{Ever, Sometime}
use Rattle.coap_layer.specs.Channel.{Hop, Near, Far, near_of}
use Rattle.coap_layer.specs.Trace as T
use Rattle.coap_layer.specs.Words.{begun}
use Rattle.coap_resource.specs.Serves.{Question}
use Rattle.coap_exchange.specs.declared.answerer.Asked.{Asked}
use Rattle.coap_client_laws.specs.Follows.Begins.{WasSent}
use Rattle.coap_client.specs.Sendings.{Sending}
use Rattle.coap_server.specs.Follows.Brings.{AsksBy, Brings, HandsUp}
use Rattle.coap_server.specs.Checks.{Verdict}
use Rattle.coap_server.specs.Trace as S
use Rattle.coap_promise.specs.CameFrom.{CameFrom, CamesFrom}
use Rattle.coap_record.specs.Events.{Config}
use Rattle.coap_promise.specs.Hops.{hops_at, hops_in}
use Rattle.coap_promise.specs.Serves.{BroughtAt}
use Rattle.coap_record.specs.Record.{Entry, OfClient, OfServer, client_of, server_trace}
use Rattle.coap_record.specs.Record.{Setting, DelayOf, PlainOf, gives_it, settings}
use Rattle.coap_promise.proofs.Facts.Delivery.HopsAreEntries.{server_layer}
use Rattle.coap_promise.proofs.Facts.Requests.CameFrom.{same_front}

-- what was begun is so for good
pub near_later : (P : T.Entry → Type 0) (front hs : List Hop) → Ever P (near_of hs) → Ever P (near_of (front ++ hs))
near_later P [] hs h = h
near_later P (Near e ∷ front) hs h = inr (near_later P front hs h)
near_later P (Far e ∷ front) hs h = near_later P front hs h

module _ (config : Config) where
  -- .. and what was sent
  pub sent_later : (x : Sending) (past : List Entry) (e : Entry) → WasSent config.client_sizes x (client_of past)
      → WasSent config.client_sizes x (client_of (e ∷ past))
  sent_later x past (OfClient c) h = inr h
  sent_later x past (OfServer c) h = h

  none_brought : (a : Asked) (q : Question) (ss : List Setting)
      → Sometime (λ old b. Brings config.limits config.server_szx config.server_setup old b a q) (map gives_it ss)
      → ⊥
  none_brought a q [] h = h
  none_brought a q (s ∷ ss) (inr h) = none_brought a q ss h
  none_brought a q (DelayOf d ∷ ss) (inl k) =
      let none : [] ≡ k.comes.news = same_front [] k.comes.news (server_layer config (map gives_it ss)) k.comes.is in
      subst (Ever (HandsUp config.server_szx a k.verdict)) (sym none) k.comes.here
  none_brought a q (PlainOf p ∷ ss) (inl k) =
      let none : [] ≡ k.comes.news = same_front [] k.comes.news (server_layer config (map gives_it ss)) k.comes.is in
      subst (Ever (HandsUp config.server_szx a k.verdict)) (sym none) k.comes.here

  pub brought_in : (a : Asked) (q : Question) (w : List Entry)
      → Sometime (λ old b. Brings config.limits config.server_szx config.server_setup old b a q) (server_trace config w)
      → Sometime (BroughtAt config a q) w
  brought_in a q [] h = absurd (none_brought a q (settings config) h)
  brought_in a q (OfClient c ∷ past) h = inr (brought_in a q past h)
  brought_in a q (OfServer c ∷ past) (inl h) = inl h
  brought_in a q (OfServer c ∷ past) (inr h) = inr (brought_in a q past h)

  -- which of the client's requests it is, by these entries
  pub record Traced (a : Asked) (q : Question) (w : List Entry) : Type 0 where
    pub past : List Entry
    pub call : S.Call
    pub verdict : Verdict
    pub asks : AsksBy config.limits config.server_szx (server_trace config past) call a q verdict
    pub came : CameFrom config past (OfServer call) a verdict
    pub sent : WasSent config.client_sizes came.sending (client_of w)
    pub begun_before : Ever (λ b. begun b ≡ Some came.con) (near_of (hops_in config w))

  later : (a : Asked) (q : Question) (e : Entry) (w : List Entry) → Traced a q w → Traced a q (e ∷ w)
  later a q e w k =
      record {
        past = k.past;
        call = k.call;
        verdict = k.verdict;
        asks = k.asks;
        came = k.came;
        sent = sent_later k.came.sending w e k.sent;
        begun_before = near_later (λ b. begun b ≡ Some k.came.con) (hops_at config w e)
            (hops_in config w) k.begun_before;
      }

  pub traced : (a : Asked) (q : Question) (w : List Entry) → CamesFrom config w → a.from ≡ config.addresses.client
      → Sometime (BroughtAt config a q) w → Traced a q w
  traced a q [] came from h = absurd h
  traced a q (OfClient c ∷ w) came from (inl h) = absurd h
  traced a q (OfServer c ∷ w) came from (inl h) =
      let k = came.0 a h.verdict h.comes from in
      record {
        past = w;
        call = c;
        verdict = h.verdict;
        asks = h.asks;
        came = k;
        sent = k.sent;
        begun_before = near_later (λ b. begun b ≡ Some k.con) (hops_at config w (OfServer c))
            (hops_in config w) k.begun_before;
      }
  traced a q (e ∷ w) came from (inr h) = later a q e w (traced a q w came.1 from h)
