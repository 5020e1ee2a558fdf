use Rattle.std.proofs.Common.{◌∷◌, true}
use Rattle.coap_lives_many.specs.Lives.{Stops, filled}
use Rattle.coap_lives_many.proofs.Filled.{client_same, legal_run, legal_stop, own_same, run_of, stops_now}
use Rattle.coap_lives_many.proofs.laws.lives_of_many_law.Goals as goal

pub returns-clause-promised : goal.returns-clause-promised
returns-clause-promised s c config deeds lives legal =
    let law = s.order_of_many_law.ensures in
    let es = filled config true deeds in
    let run = run_of config deeds lives in
    let may = legal_run config c deeds legal in
    record {
      run = run;
      legal = may;
      each = law.each c config es run may;
      fresh = law.fresh c config es run may;
      bounded = law.bounded c config es run may;
      points = law.points c config es run may;
      once = law.once c config es run may;
      never_failed = law.never_failed c config es run may;
      owned = law.owned c config es run may;
      clients = λ me. client_same config me true deeds;
      holds = own_same config true deeds;
    }

pub returns-clause-durable : goal.returns-clause-durable
returns-clause-durable s c config deeds lives legal now =
    let law = s.order_of_many_law.ensures in
    let es = filled config true (Stops ∷ deeds) in
    let run = run_of config (Stops ∷ deeds) (stops_now config deeds lives) in
    let may = legal_run config c (Stops ∷ deeds) (legal_stop config c deeds legal now) in
    record {
      run = run;
      legal = may;
      each = law.each c config es run may;
      fresh = law.fresh c config es run may;
      bounded = law.bounded c config es run may;
      points = law.points c config es run may;
      once = law.once c config es run may;
      never_failed = law.never_failed c config es run may;
      owned = law.owned c config es run may;
      clients = λ me. client_same config me true (Stops ∷ deeds);
      holds = own_same config true (Stops ∷ deeds);
    }
