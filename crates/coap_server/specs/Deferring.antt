-- Which requests are answered later, and what they ask then (RFC 7252, section 5.2.2; that a path has a delay is a
-- profile).
use Rattle.std.specs.Prelude.{◌≡◌, ℕ, ◌-◌, nat_lt, nat_le, Bool, true, false, ◌&&◌, not, Option, Some, None, List, []}
use Rattle.std.specs.Prelude.{◌∷◌, ◌++◌, length, filter, if◌then◌else◌}
use Rattle.coap_types.specs.Path.{same_path}
use Rattle.coap_types.specs.SameEndpoint.{same_endpoint}
use Rattle.coap_types.specs.declared.endpoint.Endpoint.{Endpoint}
use Rattle.coap_types.specs.declared.message.Kind.{Kind}
use Rattle.coap_types.specs.declared.message.Kind.TheVariants.{Con}
use Rattle.coap_resource.specs.Content.{Content}
use Rattle.coap_resource.specs.Serves.{Question}
use Rattle.coap_exchange.specs.declared.answerer.Asked.{Asked}
use Rattle.coap_exchange.specs.AnswererFollows.{same_asked}
use Rattle.coap_exchange.specs.AnswererSteps.{may_defer}
use Rattle.coap_exchange.specs.AnswererTrace as E
use Rattle.coap_server.specs.declared.limits.TheConstants.{MAX_DELAYS as max_delays}
use Rattle.coap_server.specs.Trace.{Delay, Waiting, Own, Handling, Silent, Waits}
use Rattle.coap_server.specs.Serving.{IsServed}

-- the delays of paths (that there are at most so many is a profile)

abbrev pub others : List (List ℕ) → List Delay → List Delay
others path ds = filter (λ d. not (same_path d.path path)) ds

abbrev pub may_delay : List (List ℕ) → List Delay → Bool
may_delay path ds = nat_lt (length (others path ds)) max_delays

abbrev pub delays_with : List (List ℕ) → ℕ → Bool → List Delay → List Delay
delays_with path ms true ds = others path ds ++ record { path = path; ms = ms } ∷ []
delays_with path ms false ds = ds

abbrev pub delay_of : List (List ℕ) → List Delay → Option ℕ
delay_of path [] = None
delay_of path (d ∷ ds) = if same_path d.path path then Some d.ms else delay_of path ds

-- a CON to a path that has a delay is to wait, and does where the exchanges have a place

abbrev pub delay_for : Kind → List (List ℕ) → List Delay → Option ℕ
delay_for Con path ds = delay_of path ds
delay_for _ path ds = None

abbrev pub WaitsBy : Option ℕ → Bool → Content → ℕ → Question → Handling → Type 0
WaitsBy (Some delay) true old at q h = h ≡ Waits q delay
WaitsBy _ _ old at q h = IsServed old at q h

abbrev pub deferral_by : Option ℕ → Bool → ℕ → Asked → List E.Call
deferral_by (Some delay) place at a = E.Defers at a delay place ∷ []
deferral_by None place at a = []

-- of what is asked whole: what becomes of it, and what is asked of the exchanges
abbrev pub HandlesWhole : Own → Asked → Question → Handling → Type 0
HandlesWhole s a q h = WaitsBy (delay_for a.kind q.path s.delays) (may_defer s.exchanges.deferred) s.store s.clock q h

abbrev pub deferral : Own → Asked → Question → List E.Call
deferral s a q = deferral_by (delay_for a.kind q.path s.delays) (may_defer s.exchanges.deferred) s.clock a

abbrev pub waiting_with : ℕ → Asked → Handling → List Waiting → List Waiting
waiting_with at a (Waits q delay) ws = ws ++ record { asked = a; at = at; delay = delay; question = q } ∷ []
waiting_with at a h ws = ws

-- the request that is ready is served at the moment of its response

abbrev pub is_of : ℕ → Asked → Waiting → Bool
is_of at a w = same_asked a w.asked && nat_le w.delay (at - w.at)

abbrev pub question_of : ℕ → Asked → List Waiting → Option Question
question_of at a [] = None
question_of at a (w ∷ ws) = if is_of at a w then Some w.question else question_of at a ws

abbrev pub without_waiting : ℕ → Asked → List Waiting → List Waiting
without_waiting at a [] = []
without_waiting at a (w ∷ ws) = if is_of at a w then ws else w ∷ without_waiting at a ws

-- what waits of other peers, in order
abbrev pub waiting_elsewhere : Endpoint → List Waiting → List Waiting
waiting_elsewhere peer ws = filter (λ w. not (same_endpoint w.asked.from peer)) ws

abbrev pub AnswersWaiting : Option Question → Content → ℕ → Handling → Type 0
AnswersWaiting None old at h = h ≡ Silent
AnswersWaiting (Some q) old at h = IsServed old at q h
