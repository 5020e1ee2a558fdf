use Rattle.std.proofs.Common.{◌≡◌, ℕ, List, Result, Ok, Err, IfOk, subst}
use Rattle.hex.specs.Hex.{decode_of}
use Rattle.coap_showing.specs.Dumps.{IsLineStatus}
use Rattle.coap_answers.specs.Shown.{IsShown}
use Rattle.coap_status.specs.declared.status.Status.{Status}
use Rattle.coap_status.specs.declared.status.Status.TheVariants as status
use Rattle.coap_status.specs.declared.status.Stop.{Stop}
use Rattle.coap_showing.proofs.dumping.dump_line.Goals as goal

-- a line is shown as the datagram is that it is the hex of
shown_line : (line datagram : List ℕ) (r : Result Status Stop) → decode_of line ≡ Ok datagram
    → IfOk r (IsShown datagram)
    → IfOk r (IsLineStatus line)
shown_line line datagram (Ok status.Done) is h = (datagram, is, h)
shown_line line datagram (Ok status.Refused) is h = (datagram, is, h)
shown_line line datagram (Ok status.Words) is h = absurd h
shown_line line datagram (Ok status.Failed) is h = absurd h
shown_line line datagram (Ok status.Memory) is h = absurd h
shown_line line datagram (Err stop) is h = tt

pub returns-in-Ok : goal.returns-in-Ok
returns-in-Ok g c =
    shown_line c.args.line.now _ c.dump_datagram.result c.in-Ok.ensures.ok
    (subst (λ (d : List ℕ). IfOk c.dump_datagram.result (IsShown d)) c.as_slice.ensures.value c.dump_datagram.ensures)
