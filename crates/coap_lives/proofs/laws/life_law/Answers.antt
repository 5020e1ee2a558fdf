use Rattle.std.proofs.Common.{◌≡◌, [], ◌∷◌, ◌++◌, true, false, refl, sym, subst}
use Rattle.coap_server.proofs.Facts.EachCall.{led_lawful}
use Rattle.coap_record.specs.Record.{server_trace}
use Rattle.coap_lives.specs.Life.{IsLed}
use Rattle.coap_lives.specs.Lives.{left}
use Rattle.coap_journal.specs.Records.{Woke}
use Rattle.coap_lives.proofs.Chaining.{each_goes, replays_then}
use Rattle.coap_lives.proofs.Living.{lived, waits_kept}
use Rattle.coap_lives.proofs.GoesOut.{made_synced}
use Rattle.coap_lives.proofs.laws.life_law.Goals as goal

pub returns-clause-lived : goal.returns-clause-lived
returns-clause-lived g c config old deeds start now t none zero led synced each life =
    lived g.F.JournalFile.appends g.F.JournalFile.syncs config old start t deeds now none zero (led, synced, each) life

pub returns-clause-goes_on : goal.returns-clause-goes_on
returns-clause-goes_on g c config old deeds start now t none zero led synced each life =
    let k = lived g.F.JournalFile.appends g.F.JournalFile.syncs config old start t deeds now none zero
    (led, synced, each) life in
    record {
      records = k.records;
      frames_are = k.frames_are;
      stands = (
        led_lawful config.limits config.server_szx config.server_setup (server_trace config (left false deeds))
            k.kept k.led,
        k.stands,
      );
      led = λ out kept replays.
          let same : kept ≡ k.kept = c.replay_law.ensures.one config.limits config.server_szx config.server_setup
          (server_trace config (left true old)) start.end kept k.kept k.records out k.out led replays k.replays in
          let there = subst (IsLed config deeds false) (sym same) k.led in (there, there);
    }

pub returns-clause-each : goal.returns-clause-each
returns-clause-each g c old deeds start between new t acts life does =
    each_goes g.F.JournalFile.appends g.F.JournalFile.syncs old start t deeds between acts new life does

pub returns-clause-next : goal.returns-clause-next
returns-clause-next g c config begin records old deeds start now t file none zero life =
    let k = lived g.F.JournalFile.appends g.F.JournalFile.syncs config old start t deeds now none zero
    (file.runs, file.synced, file.stands) life in
    let replays = replays_then begin start.end k.kept records k.records file.out k.out file.replays k.replays in
    record {
      more = k.records;
      frames_are = k.frames_are;
      revived = k.kept;
      stands = record {
        root = file.root;
        begun = file.begun;
        out = file.out ++ k.out;
        replays = replays;
        runs = k.led;
        synced = k.led;
        stands = (
          led_lawful config.limits config.server_szx config.server_setup (server_trace config (left false deeds))
              k.kept k.led,
          k.stands,
        );
      };
      one = λ out other h. c.replay_law.ensures.one config.limits config.server_szx config.server_setup file.root begin
          other k.kept (records ++ k.records) out (file.out ++ k.out) file.begun h replays;
    }

pub returns-clause-woke : goal.returns-clause-woke
returns-clause-woke g c config begin s records deeds life file = record {
  root = file.root;
  begun = file.begun;
  out = file.out ++ [];
  replays = replays_then begin s s records (Woke life ∷ []) file.out [] file.replays
      (s, [], [], (refl, refl), refl, (refl, refl));
  runs = file.runs;
  synced = file.synced;
  stands = file.stands;
}

pub returns-clause-goes_out : goal.returns-clause-goes_out
returns-clause-goes_out g c clocks config old deeds start between new t p none zero led synced each life taken one =
    let k = waits_kept g.F.JournalFile.appends g.F.JournalFile.syncs config old start t deeds between new p none zero
    (led, synced, each) life taken one in
    made_synced config clocks deeds p k.kept k.each k.led k.waits
