-- What a server comes to that serves as the words say: it is set up, and then turned until so many datagrams were fed.
use Rattle.std.specs.Prelude.{◌≡◌, ◌⊎◌, ◌≤◌, ◌+◌, ⊤, ℕ, List, [], ◌∷◌, Option}
use Rattle.std.specs.Borrow.{Bor}
use Rattle.std.specs.Io.KnownBytes.{Appends}
use Rattle.coap_resource.specs.declared.refusal.StoreRefusal.{StoreRefusal}
use Rattle.coap_server.specs.Led.{State, Step}
use Rattle.coap_server.specs.Trace.{Call, Feeds, NextOut, Ticks}
use Rattle.coap_arguments.specs.declared.orders.ServeOptions.{ServeOptions}
use Rattle.coap_wires.specs.Words.{IsOrigin}
use Rattle.coap_serving.specs.Printed.{bad_line_text, served_text}
use Rattle.coap_answers.specs.Printed.{refused_text}
use Rattle.coap_serving.specs.ScriptSettings.{AnyText, AreOfScriptIn, IsBadInScript}
use Rattle.coap_serving.specs.SettingUp.{IsRefusedAfter, IsServerAfter}
use Rattle.coap_serving.specs.declared.serve_script.BadLine.{BadLine}
use Rattle.coap_serving.specs.declared.setting_up.NotSetUp.{NotSetUp}
use Rattle.coap_serving.specs.declared.setting_up.NotSetUp.TheVariants as notSetUp
use Rattle.coap_wires.specs.declared.word.Origin.{Origin}
use Rattle.coap_scripts.specs.Settings.{Setting}
use Rattle.coap_status.specs.declared.status.Status.{Status}
use Rattle.coap_status.specs.declared.status.Status.TheVariants as status

-- a call of a server that is turned: a datagram is fed, time passes, or what is out is taken
abbrev pub IsTurning : Call → Type 0
IsTurning (Feeds now from bytes word up came handling below) = ⊤
IsTurning (Ticks now word below room due passed handling id answer) = ⊤
IsTurning (NextOut answer) = ⊤
IsTurning call = ⊥

abbrev pub AllTurning : List Call → Type 0
AllTurning [] = ⊤
AllTurning (c ∷ earlier) = IsTurning c × AllTurning earlier

-- how many datagrams are fed
abbrev pub fed_by : Call → ℕ
fed_by (Feeds now from bytes word up came handling below) = 1
fed_by call = 0

abbrev pub fed_in : List Call → ℕ
fed_in [] = 0
fed_in (c ∷ earlier) = fed_by c + fed_in earlier

-- these calls, the newest first, lead from one state to the other
abbrev pub Leads : State → List Call → State → Type 0
Leads old [] new = new ≡ old
Leads old (c ∷ earlier) new = (between : State) × Leads old earlier between × Step between c new

-- such calls alone lead from one state to the other, and at least so many datagrams are fed
abbrev pub FedFrom : ℕ → State → State → Type 0
FedFrom count old new = (calls : List Call) × AllTurning calls × (count ≤ fed_in calls) × Leads old calls new

-- the status of a server that isn't set up: words are at fault in a line of its script
abbrev pub not_set_up_status : NotSetUp → Status
not_set_up_status (notSetUp.Refused why) = status.Refused
not_set_up_status (notSetUp.Line bad) = status.Words

-- (`Begins` is what a server may begin with)
module _ (Begins : Origin → Type 0) (old new : Option (List ℕ)) where
  -- the store of a server that began so refuses what the words name, and that is written behind what a writer has
  abbrev pub IsRefusedBy : ServeOptions → List Setting → Type 0
  IsRefusedBy options settings = (origin : Origin) × Begins origin × (why : StoreRefusal)
      × IsRefusedAfter origin options settings (notSetUp.Refused why) × Appends old new (refused_text why)

  -- the server that began so doesn't take what a line of the settings says, whose number is written
  abbrev pub IsBadBy : ServeOptions → List Setting → Type 0
  IsBadBy options settings = (origin : Origin) × Begins origin × (bad : BadLine)
      × IsRefusedAfter origin options settings (notSetUp.Line bad) × Appends old new (bad_line_text bad.0)

  -- a server that was set up as the words and these settings say is turned so, and that is done; or its store refuses
  -- what the words name, or it doesn't take what a line of the settings says; and that is written
  abbrev pub IsServedFrom : ℕ → ServeOptions → List Setting → Status → Type 0
  IsServedFrom count options settings s = ((s ≡ status.Refused) × IsRefusedBy options settings)
      ⊎ (((s ≡ status.Words) × IsBadBy options settings)
      ⊎ ((s ≡ status.Done) × (origin : Origin) × Begins origin × (first : State)
      × IsServerAfter origin options settings first × (last : State) × FedFrom count first last
      × Appends old new (served_text count)))

  -- .. where the settings are those of the script that is named, if any (`has` is which texts a file may have); or the
  -- number of its first line that says none is written
  abbrev pub IsServedIn : (has : List ℕ → List ℕ → Type 0) → ℕ → ServeOptions → Option (Bor (List ℕ)) → Status → Type 0
  IsServedIn has count options script s =
      ((s ≡ status.Words) × (number : ℕ) × IsBadInScript has script number × Appends old new (bad_line_text number))
      ⊎ ((settings : List Setting) × AreOfScriptIn has script settings × IsServedFrom count options settings s)

-- as the words say
abbrev pub IsServed : (old new : Option (List ℕ)) → ℕ → ServeOptions → Option (Bor (List ℕ)) → Status → Type 0
IsServed old new count options script s =
    IsServedIn (IsOrigin options.word) old new AnyText count options script s
