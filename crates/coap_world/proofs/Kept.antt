-- The record of a run keeps the promise.
use Rattle.std.proofs.Common.{List, Result, Ok, Err, IfOk, reverse}
use Rattle.coap_record.specs.Events.{Config, Event}
use Rattle.coap_record.specs.Record.{entries_of}
use Rattle.coap_run.specs.Run.Log.{Log}
use Rattle.coap_run.specs.Run.Runs as plain
use Rattle.coap_promise.proofs.Facts.Promised.{agrees, lawful, no_fault}
use Rattle.coap_world.specs.Kept.{IsRunOf}
use Rattle.coap_world.proofs.Recording.Naming.{each_named}

pub keeps : (config : Config) (events : List Event) (log : Log) → plain.IsRunOf config events log
    → IsRunOf config events log
keeps config events log run = record {
  turns = run.turns;
  made = run.made;
  legal = run.legal;
  shows = run.shows;
  named = each_named config (entries_of run.turns) (lawful config (reverse events) run.turns run.made run.legal);
  keeps = agrees config (reverse events) run.turns run.made run.legal;
  no_fault = no_fault config (reverse events) run.turns run.made run.legal;
}

pub if_kept : {E : Type 0} (config : Config) (events : List Event) (answer : Result Log E)
    → IfOk answer (λ shown. plain.IsRunOf config events shown) → IfOk answer (λ shown. IsRunOf config events shown)
if_kept config events (Ok log) run = keeps config events log run
if_kept config events (Err why) run = tt
