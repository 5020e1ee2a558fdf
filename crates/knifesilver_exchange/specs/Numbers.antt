-- The numbers of refusals.
use Rattle.std.specs.Prelude.{ℕ, ℤ, pos}
use Rattle.coap_block.specs.declared.assembly_step.AssemblyRefusal.{AssemblyRefusal}
use Rattle.coap_block.specs.declared.assembly_step.AssemblyRefusal.TheVariants as assembly
use Rattle.coap_block.specs.declared.fetch_step.FetchRefusal.{FetchRefusal}
use Rattle.coap_block.specs.declared.fetch_step.FetchRefusal.TheVariants as fetch
use Rattle.coap_handlers.specs.declared.refusal.AnswerRefusal.{AnswerRefusal}
use Rattle.coap_handlers.specs.declared.refusal.AnswerRefusal.TheVariants as answer
use Rattle.coap_handlers.specs.declared.refusal.NotifyRefusal.{NotifyRefusal}
use Rattle.coap_handlers.specs.declared.refusal.NotifyRefusal.TheVariants as notify
use Rattle.coap_exchange.specs.declared.asker.AskRefusal.{AskRefusal}
use Rattle.coap_exchange.specs.declared.asker.AskRefusal.TheVariants as ask
use Rattle.coap_options.specs.declared.writing.AddRefusal.{AddRefusal}
use Rattle.coap_options.specs.declared.writing.AddRefusal.TheVariants as add
use Rattle.knifesilver_exchange.specs.declared.answers.TheConstants.{NO_MEMORY as no_memory, SMALL_ROOM as small_room}

abbrev pub answer_number : AnswerRefusal → ℕ
answer_number answer.NotAsked = 112
answer_number answer.Given = 113
answer_number answer.DeferralsFull = 114
answer_number answer.NotReady = 115
answer_number answer.NotConfirmable = 118
answer_number answer.BadResponse = 119

abbrev pub notify_number : NotifyRefusal → ℤ
notify_number notify.NotReady = pos 115
notify_number notify.BadResponse = pos 119
notify_number notify.Memory = no_memory

abbrev pub add_number : AddRefusal → ℤ
add_number add.Order = pos 120
add_number add.TooLong = pos 121
add_number add.NoRoom = small_room

abbrev pub ask_number : AskRefusal → ℤ
ask_number ask.Running = pos 116
ask_number ask.TokensSpent = pos 117
ask_number ask.NoIds = pos 122
ask_number ask.Memory = no_memory

abbrev pub fetch_number : FetchRefusal → ℤ
fetch_number fetch.BadBlock = pos 124
fetch_number fetch.NoTag = pos 125
fetch_number fetch.TooLarge = pos 126
fetch_number fetch.Changed = pos 127

abbrev pub assembly_number : AssemblyRefusal → ℤ
assembly_number assembly.BadRequest = pos 128
assembly_number assembly.EntityIncomplete = pos 129
assembly_number assembly.EntityTooLarge = pos 130
assembly_number assembly.Unavailable = pos 131
