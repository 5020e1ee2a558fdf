-- What the words of a subcommand have a client ask.
use Rattle.std.specs.Prelude.{◌≡◌, ⊤, ℕ, Bool, true, false, List, [], Option, None}
use Rattle.coap_types.specs.declared.request.Method.{Method}
use Rattle.coap_types.specs.declared.request.Method.TheVariants as method
use Rattle.coap_client.specs.Trace.{Request}
use Rattle.coap_arguments.specs.declared.orders.AskOptions.{AskOptions}
use Rattle.coap_arguments.specs.declared.orders.Content.{Content}
use Rattle.coap_arguments.specs.declared.orders.Content.TheVariants as content
use Rattle.coap_arguments.specs.declared.orders.What.{What}
use Rattle.coap_arguments.specs.declared.orders.What.TheVariants.{Get, Put, Post, Delete, Observe}

-- the bytes of a text; those of a file may be any
abbrev pub IsContent : Content → List ℕ → Type 0
IsContent (content.Text text) body = body ≡ text.now
IsContent (content.File name) body = ⊤

-- the body of what is asked for (RFC 7252, section 5.8)
abbrev pub IsBody : What → List ℕ → Type 0
IsBody Get body = body ≡ []
IsBody (Put content) body = IsContent content body
IsBody (Post content) body = IsContent content body
IsBody Delete body = body ≡ []
IsBody Observe body = body ≡ []

abbrev pub asked_method : What → Method
asked_method Get = method.Get
asked_method (Put content) = method.Put
asked_method (Post content) = method.Post
asked_method Delete = method.Delete
asked_method Observe = method.Get

-- the request, with this body
abbrev pub asked_request : What → List (List ℕ) → AskOptions → List ℕ → Request
asked_request what path options body =
    record {
      method = asked_method what;
      path = path;
      format = options.format;
      body = body;
      etags = options.etags;
      if_match = options.if_match;
      if_none_match = options.if_none_match;
      accept = options.accept;
    }

-- an observation is asked for (RFC 7641)
abbrev pub is_observe : What → Bool
is_observe Get = false
is_observe (Put content) = false
is_observe (Post content) = false
is_observe Delete = false
is_observe Observe = true

-- after how many seconds it is asked for again: a GET alone may be
abbrev pub period_of : What → AskOptions → Option ℕ
period_of Get options = options.every
period_of (Put content) options = None
period_of (Post content) options = None
period_of Delete options = None
period_of Observe options = None
