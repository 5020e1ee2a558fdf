-- Which answer it is that the client takes: one that the server made before, for it, under that token (RFC 7252,
-- section 5.3.2; RFC 7641, section 3.2; RFC 7959, section 2.9).
use Rattle.std.specs.Prelude.{◌≡◌, ℕ, true, None, Some, List}
use Rattle.coap_types.specs.Past.{Sometime, Always}
use Rattle.coap_types.specs.declared.endpoint.Endpoint.{Endpoint}
use Rattle.coap_codec.specs.Message.{Message}
use Rattle.coap_observe.specs.Observers.{Observer}
use Rattle.coap_resource.specs.Serves.{Reply}
use Rattle.coap_exchange.specs.declared.answerer.Asked.{Asked}
use Rattle.coap_exchange.specs.AnswererTrace as E
use Rattle.coap_client.specs.Sendings.{hears}
use Rattle.coap_server.specs.Checks.{Verdict}
use Rattle.coap_server.specs.Law.{own_of}
use Rattle.coap_server.specs.Notifying.{notification}
use Rattle.coap_server.specs.Responses.{response_with, bare}
use Rattle.coap_server.specs.Uploads.{continuing, last_block}
use Rattle.coap_server.specs.Follows.Brings.{Comes}
use Rattle.coap_server_laws.specs.Follows.Gives.{refusal_in, size_in, NoticeOf}
use Rattle.coap_server.specs.Follows.Observes.{WasMade}
use Rattle.coap_server.specs.Follows.Serves.{Serving, serving, hands}
use Rattle.coap_server_laws.specs.Follows.Shows.{notice_in}
use Rattle.coap_server.specs.Follows.Takes.{Took, takes_block}
use Rattle.coap_server.specs.Trace as S
use Rattle.coap_record.specs.Events.{Config}
use Rattle.coap_record.specs.Record.{Entry, OfClient, OfServer, server_trace}
use Rattle.coap_record.specs.declared.addresses.Addresses.{Addresses}

-- the message is this response, for the client, under this token
pub record IsResponse (addresses : Addresses) (m : Message) (to : Endpoint) (token : List ℕ) (r : E.Response) : Type 0
  where
    pub to_client : to ≡ addresses.client
    pub token_is : token ≡ m.token
    pub code : m.code ≡ r.code
    pub options : m.options ≡ r.options
    pub payload : m.payload ≡ r.payload

module _ (config : Config) (m : Message) (past : List S.Call) (c : S.Call) where
  abbrev own : S.Own
  own = own_of config.limits config.server_szx past

  -- the reply of the store to a request that is served here; 2.31 to a block that is taken here; the refusal of a
  -- request that is handed up here; the notification to an observer that is sent here, of what its path holds here
  pub data IsAnswer : Type 0 where
    replies : (x : Serving) → serving own c ≡ Some x
        → IsResponse config.addresses m x.asked.from x.asked.token
        (response_with x.reply x.sequence (last_block x.question)) → IsAnswer
    continues :
        (x : Took) (size : ℕ) → takes_block own c ≡ Some x → x.part.more ≡ true → size_in own c ≡ Some size
        → IsResponse config.addresses m x.asked.from x.asked.token (continuing size
        (record { num = x.part.num; more = true; szx = x.part.szx })) → IsAnswer
    refuses :
        (a : Asked) (v : Verdict) (code : ℕ) → Comes config.limits config.server_szx config.server_setup past c a v
        → hands c ≡ Some a → serving own c ≡ None → refusal_in own c ≡ Some code
        → IsResponse config.addresses m a.from a.token (bare code) → IsAnswer
    notifies :
        (o : Observer) (reply : Reply) → notice_in c ≡ Some (o, reply) → WasMade config.limits config.server_szx past o
        → NoticeOf o.szx (own.store.holds o.path) (notification own.store o reply)
        → IsResponse config.addresses m o.to o.token (notification own.store o reply) → IsAnswer

module _ (config : Config) where
  abbrev pub AnswersAt : Message → List Entry → Entry → Type 0
  AnswersAt m past (OfClient c) = ⊥
  AnswersAt m past (OfServer c) = IsAnswer config m (server_trace config past) c

  abbrev pub HearsAt : Message → Entry → Type 0
  HearsAt m (OfClient c) = hears c ≡ Some m
  HearsAt m (OfServer c) = ⊥

  -- Each answer that the client takes was made by the server before.
  abbrev pub AllAnswered : List Entry → Type 0
  AllAnswered all = Always (λ past e. (m : Message) → HearsAt m e → Sometime (AnswersAt m) past) all
