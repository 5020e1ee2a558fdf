-- What is shown by some entry was held, and what was sent, held and taken by some entries is so for good.
use Rattle.std.proofs.Common.{◌≡◌, ◌⊎◌, inl, inr, ℕ, Some, List, [], ◌∷◌, ◌++◌, ap, ◌∙◌}
use Rattle.coap_types.specs.Past.{Sometime}
use Rattle.coap_types.specs.RequestPath.{path_of}
use Rattle.coap_codec.specs.Message.{Message}
use Rattle.coap_resource.specs.Content.{Held}
use Rattle.coap_client_laws.specs.Follows.Begins.{WasSent}
use Rattle.coap_client_laws.specs.Follows.Order.{call_of}
use Rattle.coap_client.specs.Own.{Transfer}
use Rattle.coap_client.specs.Requests.{options_of, block_option}
use Rattle.coap_client_laws.specs.Follows.Tokens.{Deregisters}
use Rattle.coap_client.specs.Trace.{Request}
use Rattle.coap_client.specs.Sendings.{Sending}
use Rattle.coap_server.specs.Follows.Tags.{WasHeld}
use Rattle.coap_client_laws.proofs.Facts.Laws as client_facts
use Rattle.coap_record.specs.Events.{Config}
use Rattle.coap_record.specs.Record.{Entry, OfClient, OfServer, client_of, server_trace}
use Rattle.coap_promise.specs.Words.{WasCalled}
use Rattle.coap_promise.proofs.Facts.Requests.LastRequests.{of_call_at}
use Rattle.coap_promise.proofs.Any.Requests.OfACall.{Lawful, lawful_back, no_call, no_call_behind}
use Rattle.coap_promise.proofs.Facts.Requests.ReadBack.{bare_options}
use Rattle.coap_promise.proofs.Facts.Requests.Traced.{sent_later}
use Rattle.coap_promise.proofs.Facts.Reports.ContentRead.{IsShown}
use Rattle.coap_promise.proofs.Facts.Reports.PathRead.{path_of_call}
use Rattle.coap_promise.proofs.Facts.Reports.Shown.{ShownAt}

module _ (config : Config) where
  abbrev pub HeldIn : List (List ℕ) → Held → List Entry → Type 0
  HeldIn path held w = WasHeld config.limits config.server_szx path held (server_trace config w)

  pub held_later : (path : List (List ℕ)) (held : Held) (w : List Entry) (e : Entry) → HeldIn path held w
      → HeldIn path held (e ∷ w)
  held_later path held w (OfClient c) h = h
  held_later path held w (OfServer c) h = inr h

  -- what was so after some entries is so after all
  pub record Within (w all : List Entry) : Type 0 where
    pub sent : (x : Sending) → WasSent config.client_sizes x (client_of w)
        → WasSent config.client_sizes x (client_of all)
    pub held : (path : List (List ℕ)) (held : Held) → HeldIn path held w → HeldIn path held all

  pub within_back : (all w : List Entry) (e : Entry) → Within (e ∷ w) all → Within w all
  within_back all w e k = record {
    sent = λ x h. k.sent x (sent_later config x w e h);
    held = λ path held h. k.held path held (held_later path held w e h);
  }

  pub within_self : (all : List Entry) → Within all all
  within_self all = record { sent = λ x h. h; held = λ path held h. h }

  -- at each entry, by the laws as they stood there
  pub each_within : (P R : List Entry → Entry → Type 0) (all : List Entry)
      → ((past : List Entry) (e : Entry) → Lawful config (e ∷ past) → Within (e ∷ past) all → P past e → R past e)
      → (w : List Entry) → Lawful config w → Within w all → Sometime P w → Sometime R w
  each_within P R all f [] law in_all h = h
  each_within P R all f (e ∷ past) law in_all (inl h) = inl (f past e law in_all h)
  each_within P R all f (e ∷ past) law in_all (inr h) = inr (each_within P R all f past (lawful_back config past e law)
      (within_back all past e in_all) h)

  -- what is shown, somewhere
  pub record ShownIn (m : Message) (w : List Entry) : Type 0 where
    pub path : List (List ℕ)
    pub held : Held
    pub was : HeldIn path held w
    pub shown : IsShown held m

  pub shown_there : (m : Message) (past : List Entry) (e : Entry) → (k : ShownAt config m past e)
      → HeldIn (path_of k.sending.request.options) k.held (e ∷ past)
  shown_there m past (OfServer c) k = inl k.is_held
  shown_there m past (OfClient c) k = absurd k.answers

  pub some_shown : (m : Message) (w : List Entry) → Sometime (ShownAt config m) w → ShownIn m w
  some_shown m [] h = absurd h
  some_shown m (e ∷ past) (inl k) = record {
    path = path_of k.sending.request.options;
    held = k.held;
    was = shown_there m past e k;
    shown = k.shown;
  }
  some_shown m (e ∷ past) (inr h) = let k = some_shown m past h in record
      { path = k.path; held = k.held; was = held_later k.path k.held past e k.was; shown = k.shown }

  -- a request of a call, under its token: the call was made before, and its path is asked for
  pub record OfCall (number : ℕ) (x : Sending) (w : List Entry) : Type 0 where
    pub request : Request
    pub called : WasCalled number request w
    pub transfer : Transfer
    pub options : x.request.options ≡ options_of request ++ block_option transfer
    pub path : path_of x.request.options ≡ request.path

  pub of_call : (number : ℕ) (x : Sending) (w : List Entry) → WasSent config.client_sizes x (client_of w)
      → call_of x.operation ≡ Some number → OfCall number x w
  of_call number x w sent of =
      let g = of_call_at config.client_sizes (client_of w)
      (client_facts.of_calls config.client_sizes (client_of w)) x number sent of in
      let options = ap (λ r. r.options) g.message ∙ bare_options g.request g.transfer in
      record {
        request = g.request;
        called = g.taken;
        transfer = g.transfer;
        options = options;
        path = ap path_of options ∙ path_of_call g.request g.transfer;
      }

  -- one token of a call, one request
  pub one_of_call : (all : List Entry) → Lawful config all → (x y : Sending) (number : ℕ)
      → WasSent config.client_sizes x (client_of all) → WasSent config.client_sizes y (client_of all)
      → call_of y.operation ≡ Some number
      → x.token ≡ y.token → call_of x.operation ≡ Some number
  one_of_call all law x y number sent there of token =
      by (client_facts.tokens config.addresses.server config.client_sizes config.client_setup
      (client_of all) law.client x y sent there token)
    where
      by : (x ≡ y) ⊎ (Deregisters x y ⊎ Deregisters y x) → call_of x.operation ≡ Some number
      by (inl same) = ap (λ (z : Sending). call_of z.operation) same ∙ of
      by (inr (inl d)) = absurd (no_call_behind x y number of d)
      by (inr (inr d)) = absurd (no_call y x number of d)
