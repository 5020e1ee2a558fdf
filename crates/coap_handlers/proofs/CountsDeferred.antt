-- How many requests are deferred, and how many messages are remembered at most, behind each call.
use Rattle.std.proofs.Common.{◌≡◌, ℕ, ◌+◌, Bool, true, false, Option, Some, None, List, [], ◌∷◌, length, ap}
use Rattle.std.specs.Prelude.{if◌then◌else◌}
use Rattle.std.proofs.Common.{arith, ◌∙◌}
use Rattle.std.specs.Option.{option_map}
use Rattle.coap_layer.specs.Machine.State as L
use Rattle.coap_layer.specs.Machine.Steps.{Asked, Steps}
use Rattle.coap_exchange.specs.declared.answerer.Asked.{Asked as Request}
use Rattle.coap_exchange.specs.declared.separate.Deferred.{Deferred}
use Rattle.coap_exchange.specs.declared.separate.Separate.{Separate}
use Rattle.coap_exchange.specs.AnswererLaw.{State, Step}
use Rattle.coap_exchange.specs.AnswererSteps.{first_ready, is_ready, lower, without_ready}
use Rattle.coap_exchange.specs.AnswererTrace.{Call}

-- no call of the layer changes how many it remembers at most
same_places : (old new : L.State) (calls : List Asked) → Steps old calls new → new.most ≡ old.most
same_places old new [] is = ap (λ (s : L.State). s.most) is
same_places old new (a ∷ earlier) steps =
    ap (λ (s : L.State). s.most) steps.2.new_is ∙ same_places old steps.0 earlier steps.1

pub same_most : (old new : State) (c : Call) → Step old c new → new.layer.most ≡ old.layer.most
same_most old new c step = same_places old.layer new.layer (lower old.own c) step.under

-- where one is ready, just one fewer is left without it
fewer_by : (is : Bool) (e d : Deferred) (ds rest : List Deferred) (first : Option Deferred)
    → (if is then Some e else first) ≡ Some d → (first ≡ Some d → length ds ≡ length rest + 1)
    → length (e ∷ ds) ≡ length (if is then ds else e ∷ rest) + 1
fewer_by true e d ds rest first found others = omega arith
fewer_by false e d ds rest first found others = let so = others found in omega (arith, so)

pub one_fewer : (at : ℕ) (xs : List Separate) (ds : List Deferred) (d : Deferred) → first_ready at xs ds ≡ Some d
    → length ds ≡ length (without_ready at xs ds) + 1
one_fewer at xs [] d is = absurd cc
one_fewer at xs (e ∷ ds) d is =
    fewer_by (is_ready at xs e) e d ds (without_ready at xs ds) (first_ready at xs ds) is (one_fewer at xs ds d)

pub fewer_when : (at : ℕ) (xs : List Separate) (ds : List Deferred) (found : Option Deferred) (a : Request)
    → first_ready at xs ds ≡ found → option_map (λ (d : Deferred). d.asked) found ≡ Some a
    → length ds ≡ length (without_ready at xs ds) + 1
fewer_when at xs ds (Some d) a is some = one_fewer at xs ds d is
fewer_when at xs ds None a is some = absurd cc
