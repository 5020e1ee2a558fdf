-- How many exchanges a call makes at most in a legal run, and how long a body is that is held (RFC 7959, sections 2.4
-- and 2.5; the bounds are a profile).
use Rattle.std.specs.Prelude.{◌≡◌, ◌≤◌, ℕ, ◌+◌, ◌*◌, max, Some, List, ◌∷◌, length}
use Rattle.coap_types.specs.Past.{Always}
use Rattle.coap_types.specs.declared.request.Method.{Method}
use Rattle.coap_types.specs.declared.request.Method.TheVariants.{Get, Post, Put, Delete}
use Rattle.coap_block.specs.declared.fetch_judging.TheConstants.{MAX_RESTARTS as max_restarts}
use Rattle.coap_resource.specs.Content.{Held}
use Rattle.coap_client_laws.specs.Follows.Bounds.{max_blocks, most_requests, requests}
use Rattle.coap_client.specs.Trace.{Request}
use Rattle.coap_client.specs.Sendings.{Taken, WasTaken}
use Rattle.coap_record.specs.Events.{Config}
use Rattle.coap_record.specs.Record.{Entry, client_of}
use Rattle.coap_promise.specs.Words.{last_at}

-- A GET asks for all blocks of the longest body at most, and anew at most MAX_RESTARTS times: that is as long as the
-- larger of both limits, since a client whose limit is smaller asks for one part too many. A body that is longer than a
-- block of the client's size is sent in as many blocks as its limit has. Each other call asks once.
abbrev pub most_exchanges : Config → Request → Method → ℕ
most_exchanges config r Get = (max_restarts + 1) * max_blocks (max config.client_sizes.limit config.limits.body)
most_exchanges config r Post = most_requests config.client_sizes r Post
most_exchanges config r Put = most_requests config.client_sizes r Put
most_exchanges config r Delete = 1

module _ (config : Config) where
  -- No call makes more exchanges: so many requests are sent for it, each with a token of its own.
  abbrev pub AreBounded : List Entry → Type 0
  AreBounded all =
      (x : Taken) → WasTaken x (client_of all) → requests config.client_sizes x.number
      (client_of all) ≤ most_exchanges config x.request x.request.method

  -- No path holds a body that is longer than the server's limit.
  abbrev pub AreShort : List Entry → Type 0
  AreShort all = Always (λ past e. (path : List (List ℕ)) (held : Held) → last_at config path (e ∷ past) ≡ Some held
      → length held.body ≤ config.limits.body) all
