-- Each Message ID that is given has 16 bits.
use Rattle.coap_layer.specs.Trace.{Setup}
use Rattle.std.proofs.Common.{◌≡◌, ◌<◌, ℕ, List, [], ◌∷◌, ◌++◌, subst, arith}
use Rattle.coap_layer.specs.Ids.{Issued, NumbersLaw}
use Rattle.coap_layer.specs.Trace.{Sent, Entry}
use Rattle.coap_layer.specs.Words.{numbers}
use Rattle.coap_layer.specs.Rows.{LayerLaw}
use Rattle.coap_layer.specs.Follows.{IdsSmall}
use Rattle.coap_types.specs.declared.message.TheConstants.{MESSAGE_IDS as message_ids}
use Rattle.coap_layer.proofs.Numbers.EqualIdsAreApart.{small}
use Rattle.coap_layer.proofs.Machine.WhatIsIssued.{numbers_law}
use Rattle.coap_layer.proofs.Numbers.OneEntryForAnId.{sent_number}

small_here : (setup : Setup) (past : List Entry) (e : Entry) (id : ℕ) → LayerLaw setup (e ∷ past) → e.answer ≡ Sent id
    → id < message_ids
small_here setup past e id law h =
    let numbered : NumbersLaw setup.word (record { at = e.at; id = id } ∷ numbers past) =
    subst (λ (gs : List Issued). NumbersLaw setup.word (gs ++ numbers past)) (sent_number e id h)
    (numbers_law setup (e ∷ past) law) in
    let next = numbered.0.right.next in
    let bound = small setup.word (numbers past) in
    omega (arith, next, bound)

pub ids_small : (setup : Setup) (t : List Entry) → LayerLaw setup t → IdsSmall t
ids_small setup [] law = tt
ids_small setup (e ∷ past) law = ((λ id h. small_here setup past e id law h), ids_small setup past law.1)
