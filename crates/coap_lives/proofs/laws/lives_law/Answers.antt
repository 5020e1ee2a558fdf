use Rattle.std.proofs.Common.{◌≡◌, ◌∷◌, true}
use Rattle.coap_record.specs.Record.{Given}
use Rattle.coap_lives.specs.Lives.{Stops, filled}
use Rattle.coap_lives.proofs.Filled.{any_run, any_stop, client_same, inputs_same, legal_run, legal_stop, own_same}
use Rattle.coap_lives.proofs.Filled.{run_of, stops_now}
use Rattle.coap_lives.proofs.Staying.{made_stays, stays}
use Rattle.coap_lives.proofs.laws.lives_law.Goals as goal

pub returns-clause-promised : goal.returns-clause-promised
returns-clause-promised s c config deeds lives legal = record {
  run = run_of config deeds lives;
  legal = legal_run config c deeds legal;
  promised = s.order_law.ensures.promised c config (filled config true deeds) (run_of config deeds lives)
      (legal_run config c deeds legal);
  inputs = inputs_same config true deeds;
  client = client_same config true deeds;
  holds = own_same config true deeds;
}

pub returns-clause-durable : goal.returns-clause-durable
returns-clause-durable s c config deeds lives legal now =
    let stopped = stops_now config deeds lives in record {
      run = run_of config (Stops ∷ deeds) stopped;
      legal = legal_run config c (Stops ∷ deeds) (legal_stop config c deeds legal now);
      promised = s.order_law.ensures.promised c config (filled config true (Stops ∷ deeds)) (run_of config
          (Stops ∷ deeds) stopped)
          (legal_run config c (Stops ∷ deeds) (legal_stop config c deeds legal now));
      inputs = inputs_same config true (Stops ∷ deeds);
      client = client_same config true (Stops ∷ deeds);
      holds = own_same config true (Stops ∷ deeds);
    }

pub returns-clause-stays : goal.returns-clause-stays
returns-clause-stays s config later past = stays config later past

pub returns-clause-made_stays : goal.returns-clause-made_stays
returns-clause-made_stays s c config later past g h = made_stays config c (λ (x : Given). x ≡ g) true later past h

pub returns-clause-ever : goal.returns-clause-ever
returns-clause-ever s c config deeds lives legal = record {
  promised = s.ever_law.ensures.ever c config (filled config true deeds) (run_of config deeds lives)
      (any_run config c deeds legal);
  inputs = inputs_same config true deeds;
  client = client_same config true deeds;
  holds = own_same config true deeds;
}

pub returns-clause-durable_ever : goal.returns-clause-durable_ever
returns-clause-durable_ever s c config deeds lives legal now =
    let stopped = stops_now config deeds lives in record {
      promised = s.ever_law.ensures.ever c config (filled config true (Stops ∷ deeds)) (run_of config
          (Stops ∷ deeds) stopped)
          (any_run config c (Stops ∷ deeds) (any_stop config c deeds legal now));
      inputs = inputs_same config true (Stops ∷ deeds);
      client = client_same config true (Stops ∷ deeds);
      holds = own_same config true (Stops ∷ deeds);
    }

pub returns-clause-told_is_kept : goal.returns-clause-told_is_kept
returns-clause-told_is_kept s c config deeds lives legal now =
    s.order_law.ensures.applied c config (filled config true (Stops ∷ deeds))
    (run_of config (Stops ∷ deeds) (stops_now config deeds lives))
    (legal_run config c (Stops ∷ deeds) (legal_stop config c deeds legal now))

pub returns-clause-held : goal.returns-clause-held
returns-clause-held s c config deeds lives legal =
    s.order_law.ensures.held c config (filled config true deeds) (run_of config deeds lives)
    (legal_run config c deeds legal)
