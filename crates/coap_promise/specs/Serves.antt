-- How the server serves what its message layer hands up (RFC 7252, sections 5.2, 5.8 and 5.10.8; RFC 7959, section
-- 2.5).
use Rattle.std.specs.Prelude.{◌≡◌, true, false, List, ◌∷◌}
use Rattle.coap_types.specs.Past.{Sometime, Always}
use Rattle.coap_resource.specs.RequestOptions.{precondition_fails}
use Rattle.coap_resource.specs.Serves.{Question}
use Rattle.coap_resource.specs.Serves as R
use Rattle.coap_exchange.specs.declared.answerer.Asked.{Asked}
use Rattle.coap_server.specs.Follows.Brings.{Brings}
use Rattle.coap_server.specs.Follows.Serves.{Serving}
use Rattle.coap_server_laws.specs.Follows.Table.{MethodsHere, UploadsHere}
use Rattle.coap_server.specs.Law.{own_of}
use Rattle.coap_server.specs.Serving.{is_applied}
use Rattle.coap_server.specs.Trace.{Own}
use Rattle.coap_record.specs.Events.{Config}
use Rattle.coap_record.specs.Record.{Entry, OfClient, OfServer, server_trace}
use Rattle.coap_promise.specs.Words.{ServesAt, holds_at}

module _ (config : Config) where
  abbrev own : List Entry → Own
  own past = own_of config.limits config.server_szx (server_trace config past)

  -- here the request is handed up, or the last block of its body, and this is what is asked of the store
  abbrev pub BroughtAt : Asked → Question → List Entry → Entry → Type 0
  BroughtAt a q past (OfClient c) = ⊥
  BroughtAt a q past (OfServer c) = Brings config.limits config.server_szx config.server_setup
      (server_trace config past) c a q

  -- A request that is handed up and asks whole is served here, unless it has to wait: then it waits.
  abbrev pub MethodsAt : List Entry → Entry → Type 0
  MethodsAt past (OfClient c) = Unit {0}
  MethodsAt past (OfServer c) = MethodsHere config.limits config.server_szx (server_trace config past) c

  -- So is one whose last block is taken here: it asks with the whole body of its blocks.
  abbrev pub UploadsAt : List Entry → Entry → Type 0
  UploadsAt past (OfClient c) = Unit {0}
  UploadsAt past (OfServer c) = UploadsHere config.limits config.server_szx (server_trace config past) c

  pub record ServesRight (past : List Entry) (e : Entry) : Type 0 where
    -- What is served came in a datagram, here or before, and is what that asks, with the whole body of its blocks.
    pub brought : (x : Serving) → ServesAt config x past e → Sometime (BroughtAt x.asked x.question) (e ∷ past)
    -- Its reply, and what the store holds then, are those of the table of the methods, for what it held, at that
    -- moment;
    pub table : (x : Serving) → ServesAt config x past e
        → R.Serves (own past).store (own (e ∷ past)).clock x.question x.reply (own (e ∷ past)).store
    -- where it is applied, its preconditions hold of what its path holds.
    pub preconditions : (x : Serving) → ServesAt config x past e → is_applied x.reply.code ≡ true
        → precondition_fails (holds_at config x.question.path past) x.question.options ≡ false
    pub methods : MethodsAt past e
    pub uploads : UploadsAt past e

  abbrev pub AllServed : List Entry → Type 0
  AllServed all = Always ServesRight all
