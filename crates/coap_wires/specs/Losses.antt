-- Whether datagrams go, as far as the system tells.
use Rattle.std.specs.Prelude.{Bool, true, false}
use Rattle.coap_wires.specs.declared.losses.Going.{Going}
use Rattle.coap_wires.specs.declared.losses.Going.TheVariants.{Lost, Unsent, Well}

-- after a send: it failed, or one went again
abbrev pub after_send : Going → (is_lost : Bool) → Going
after_send going true = Unsent
after_send Well false = Well
after_send Unsent false = Well
after_send Lost false = Lost

-- after a receive: the system told of one that was lost, or something came again
abbrev pub after_receive : Going → (is_lost came : Bool) → Going
after_receive Well true came = Lost
after_receive Well false came = Well
after_receive Unsent is_lost came = Unsent
after_receive Lost true came = Lost
after_receive Lost false true = Well
after_receive Lost false false = Lost
