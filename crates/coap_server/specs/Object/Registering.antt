-- When a request registers an observer, step by step (RFC 7641, section 4.1).
use Rattle.std.specs.Prelude.{ℕ, ◌==◌, nat_lt, Bool, ◌&&◌, List, length}
use Rattle.coap_observe.specs.Observers.{Observer, registered, removed}
use Rattle.coap_observe.specs.declared.observers.TheConstants.{MAX_OBSERVERS as max_observers}
use Rattle.coap_resource.specs.RequestOptions.{block_of, szx_by}
use Rattle.coap_resource.specs.Serves.{Question, Reply}
use Rattle.coap_exchange.specs.declared.answerer.Asked.{Asked}
use Rattle.coap_exchange.specs.SuccessCodes.{content}
use Rattle.coap_server.specs.Observers.{observes}

abbrev pub may_register : Question → Reply → Bool
may_register q reply = observes 0 q && ((reply.code == content) && (reply.offset == 0))

abbrev pub has_place : Asked → List Observer → Bool
has_place a os = nat_lt (length (removed a.from a.token os)) max_observers

abbrev pub registered_by : ℕ → Asked → Question → List Observer → List Observer
registered_by at a q os = registered at a.from a.token q.path (szx_by (block_of q.options) q.szx) os
