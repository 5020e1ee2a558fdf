-- A call that takes its turn is reported in time.
use Rattle.std.proofs.Common.{◌≤◌, ◌⊎◌, inl, inr, ℕ, ◌+◌, ◌*◌, List, arith}
use Rattle.std.proofs.Math.Nat.{mul-le-mul_right}
use Rattle.coap_types.specs.declared.endpoint.Endpoint.{Endpoint}
use Rattle.coap_layer.specs.declared.setup.Setup.{Setup}
use Rattle.coap_block.specs.Sizes.{Sizes}
use Rattle.coap_client.specs.Law.{ClientLaw}
use Rattle.coap_client.specs.Trace.{Call}
use Rattle.coap_client_laws.specs.Follows.Answered.{AreAnswered, HasReport}
use Rattle.coap_given_back.specs.AskerYoung.{longest_exchange}
use Rattle.coap_given_back.specs.GivenBack.{AreGivenBackInLine, AreGivenBackInAll}
use Rattle.coap_given_back.proofs.GivenBack.EachGivenBack.{are_given_back}
use Rattle.coap_given_back.proofs.GivenBack.InLine.{in_line, few_sent, few_counted}
use Rattle.coap_given_back.proofs.GivenBack.Reported.{reported_or_not}

-- where fewer were sent, a later moment is late enough
pub later_yet : (longest at sent most now : ℕ) → 1 + sent ≤ most → at + most * longest ≤ now
    → at + (1 + sent) * longest ≤ now
later_yet longest at sent most now few over =
    let less : (1 + sent) * longest ≤ most * longest = mul-le-mul_right longest few in
    omega (arith, less, over)

pub in_time : (server : Endpoint) (sizes : Sizes) (setup : Setup)
    → ((u : List Call) → ClientLaw server sizes setup u → AreAnswered server sizes setup u)
    → (t : List Call) → (late : ℕ) → ClientLaw server sizes setup t → AreGivenBackInLine server sizes setup late t
in_time server sizes setup answered t late law x at waiting further now h up over =
    by (reported_or_not server sizes setup x.number t)
  where
    by : HasReport server sizes setup x.number t ⊎ (HasReport server sizes setup x.number t → ⊥)
        → HasReport server sizes setup x.number t
    by (inl told) = told
    by (inr untold) =
        let k = few_sent server sizes setup x at waiting further t
        (in_line server sizes setup x at waiting further t law h untold) in
        let few = k.2 in
        are_given_back server sizes setup late answered t law x at k.0 now k.1 up
        (later_yet (longest_exchange late) at k.0 (2 + (waiting + further)) now (omega (arith, few)) over)

pub in_all : (server : Endpoint) (sizes : Sizes) (setup : Setup)
    → ((u : List Call) → ClientLaw server sizes setup u → AreAnswered server sizes setup u)
    → (t : List Call) → (late : ℕ) → ClientLaw server sizes setup t → AreGivenBackInAll server sizes setup late t
in_all server sizes setup answered t late law x at waiting further now most h none few some up over =
    by (reported_or_not server sizes setup x.number t)
  where
    by : HasReport server sizes setup x.number t ⊎ (HasReport server sizes setup x.number t → ⊥)
        → HasReport server sizes setup x.number t
    by (inl told) = told
    by (inr untold) =
        let k = few_counted server sizes setup x at waiting further t
        (in_line server sizes setup x at waiting further t law h untold) most some none few in
        are_given_back server sizes setup late answered t law x at k.0 now k.1 up
        (later_yet (longest_exchange late) at k.0 ((2 + waiting) * most) now k.2 over)
