-- A request that has If-None-Match is applied only where its path holds nothing.
use Rattle.std.proofs.Common.{◌≡◌, ℕ, Bool, true, false, not, ◌||◌, ◌&&◌, Option, Some, None, List, [], ◌∷◌, refl, sym}
use Rattle.std.proofs.Common.{ap}
use Rattle.std.proofs.Common.{◌∙◌}
use Rattle.coap_types.specs.CoapOption.{CoapOption}
use Rattle.coap_types.specs.OptionValues.{has}
use Rattle.coap_types.specs.Past.{Always}
use Rattle.coap_types.specs.declared.option_number.TheConstants.{IF_MATCH as if_match, IF_NONE_MATCH as if_none_match}
use Rattle.coap_resource.specs.Content.{Content, Held}
use Rattle.coap_resource.specs.RequestOptions.{precondition_fails, if_match_names}
use Rattle.coap_server.specs.Follows.Holds.{AllServed}
use Rattle.coap_server.specs.Follows.Serves.{Serving}
use Rattle.coap_server.specs.Law.{own_of}
use Rattle.coap_server.specs.Serving.{is_applied}
use Rattle.coap_many.specs.Clients.{Config}
use Rattle.coap_many.specs.Entries.{Entry, OfClient, OfServer, server_trace}
use Rattle.coap_many.specs.Winners.{RequestsMake}
use Rattle.coap_many.specs.Words.{ServesAt, holds_at}
use Rattle.coap_many.proofs.OneRequestWins.{stored}

none_there : (o : Option Held) (os : List CoapOption) → has if_none_match os ≡ true → precondition_fails o os ≡ false
    → o ≡ None
none_there None os some h = refl
none_there (Some held) os some h =
    let x = has if_match os && not (if_match_names held.version os) in
    absurd (always x (sym (ap (λ b. x || b) some) ∙ h))
  where
    always : (x : Bool) → (x || true) ≡ false → ⊥
    always true e = cc e
    always false e = cc e

module _ (config : Config) where
  abbrev Served : List Entry → Type 0
  Served es = AllServed config.limits config.szx (server_trace config es)

  served_back : (e : Entry) (past : List Entry) → Served (e ∷ past) → Served past
  served_back (OfClient who c) past h = h
  served_back (OfServer c) past h = h.1

  made : (past : List Entry) (e : Entry) → Served (e ∷ past) → (x : Serving) → ServesAt config x past e
      → is_applied x.reply.code ≡ true → has if_none_match x.question.options ≡ true
      → holds_at config x.question.path past ≡ None
  made past (OfClient who c) served x here applied some = absurd here
  made past (OfServer c) served x here applied some =
      let there = stored (own_of config.limits config.szx (server_trace config past)) c x here in
      ap (λ (o : Content). o.holds x.question.path) (sym there.old)
      ∙ none_there (x.old.holds x.question.path) x.question.options some (served.0.applied x here applied).preconditions

  pub requests_make : (all : List Entry) → Served all → RequestsMake config all
  requests_make [] served = tt
  requests_make (e ∷ past) served =
      ((λ x here applied some. made past e served x here applied some), requests_make past (served_back e past served))
