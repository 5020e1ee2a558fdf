-- Where few notifications are sent and few messages come, a Message ID is free at the server's side.
use Rattle.std.proofs.Common.{ℕ, ◌-◌, List, [], ◌∷◌, arith}
use Rattle.coap_layer.specs.Taking.{HeldIsMany}
use Rattle.coap_layer.specs.Words.{numbers}
use Rattle.coap_exchange.specs.AnswererTrace.{Call}
use Rattle.coap_exchange.specs.AnswererLaw.{own_of, below_of, ResponseLaw}
use Rattle.coap_exchange.specs.AnswererIds.{notifies, IdIsFree}
use Rattle.coap_exchange.proofs.Deferring.LongEnough.{rises_at}
use Rattle.coap_exchange.proofs.Ids.CountsOfFew.{Rises, since_reuse}
use Rattle.coap_exchange.proofs.Ids.FewGive.{few_came}
use Rattle.coap_exchange.proofs.Ids.ServerIds.{clock_is, ids_counted}
use Rattle.coap_exchange.proofs.Leading.ServerLeads.{layer_stands}
use Rattle.coap_layer.specs.declared.setup.Setup.{Setup}

abbrev clock_of : List Call → ℕ
clock_of t = (own_of t).clock

clock_rises : (t : List Call) → Rises clock_of notifies t
clock_rises [] = tt
clock_rises (c ∷ t) = (rises_at t c, clock_rises t)

pub id_is_free : (setup : Setup) (t : List Call) → ResponseLaw setup t
    → HeldIsMany setup.word (numbers (below_of setup t))
    → IdIsFree setup t
id_is_free setup t law held most now few_ids few_told few le withheld =
    let m = held now withheld in
    let young = m.young in
    let many = m.many in
    let all = ids_counted setup t law m.since in
    let same = clock_is setup t in
    let told = since_reuse clock_of notifies most (most - 1) m.since now t (clock_rises t) few_told (omega arith)
    (omega (arith, same, le)) young in
    let came = few_came setup most (most - 1) m.since now (below_of setup t) (layer_stands setup t law) few
    (omega arith) le young in
    omega (arith, many, all, told, came, few_ids)
