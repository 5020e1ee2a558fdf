-- What is said where a store refuses what it is to hold.
use Rattle.std.specs.Prelude.{ℕ, List, codes, decimal}
use Rattle.std.specs.Prelude.{◌++◌}
use Rattle.coap_resource.specs.Content.{refusal_number}
use Rattle.coap_resource.specs.declared.refusal.StoreRefusal.{StoreRefusal}

abbrev pub refused_text : StoreRefusal → List ℕ
refused_text why = codes "refused " ++ (decimal (refusal_number why) ++ codes "\n")
