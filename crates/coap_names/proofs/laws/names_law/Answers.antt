use Rattle.coap_names.proofs.Histories.{one_owner, inverse, never_again, keeps_names, gives_the_same, keeps_held}
use Rattle.coap_names.proofs.Histories.{full_when_taken, few_led, names_are_of}
use Rattle.coap_names.proofs.laws.names_law.Goals as goal

pub returns-clause-one_owner : goal.returns-clause-one_owner
returns-clause-one_owner g c = one_owner g.met.K.Eq.laws

pub returns-clause-inverse : goal.returns-clause-inverse
returns-clause-inverse g c = inverse g.met.K.Eq.laws

pub returns-clause-never_again : goal.returns-clause-never_again
returns-clause-never_again g c = never_again g.met.K.Eq.laws

pub returns-clause-keeps : goal.returns-clause-keeps
returns-clause-keeps g c = keeps_names g.met.K.Eq.laws

pub returns-clause-same : goal.returns-clause-same
returns-clause-same g c = gives_the_same g.met.K.Eq.laws

pub returns-clause-held : goal.returns-clause-held
returns-clause-held g c = keeps_held g.met.K.Eq.laws

pub returns-clause-full : goal.returns-clause-full
returns-clause-full g c = full_when_taken g.met.K.Eq.laws

pub returns-clause-few : goal.returns-clause-few
returns-clause-few g c = few_led g.met.K.Eq.laws

pub returns-clause-numbered : goal.returns-clause-numbered
returns-clause-numbered g c = names_are_of g.met.K.Eq.laws
