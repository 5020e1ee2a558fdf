-- Numbers on the command line: decimal numerals, before which a `+` may stand. Each argument has a least and a greatest
-- value.
use Rattle.std.specs.Prelude.{◌≡◌, ◌≤◌, ◌<◌, ◌-◌, ◌^◌, ◌⊎◌, ℕ, codes}
use Rattle.std.specs.Str.Parse.{IsNumeral, digits_value, without_leading_plus}
use Rattle.clap.specs.Words.{Text}
use Rattle.coap_types.specs.declared.body_limit.TheConstants.{MAX_BODY_LIMIT as max_body_limit}
use Rattle.coap_types.specs.declared.remembered.TheConstants.{MAX_REMEMBERED as max_remembered}
use Rattle.coap_arguments.specs.Formats.{IsFormatName}
use Rattle.coap_arguments.specs.declared.orders.TheConstants.{FOREVER as forever}
use Rattle.coap_arguments.specs.declared.refusals.NumberRefusal.{NumberRefusal}
use Rattle.coap_arguments.specs.declared.refusals.NumberRefusal.TheVariants.{Port, Count, Limit, Remember, Format}
use Rattle.coap_arguments.specs.declared.refusals.NumberRefusal.TheVariants.{Accept, Times, Seconds, GiveUp, Every}
use Rattle.coap_arguments.specs.declared.refusals.NumberRefusal.TheVariants.{Again, ServerPort}
use Rattle.coap_arguments.specs.Uris.{IsPortText, IsUri, authority_of, port_text}

-- the text says this number
abbrev pub IsNumber : Text → ℕ → Type 0
IsNumber text n = IsNumeral 10 (without_leading_plus text) × (digits_value 10 (without_leading_plus text) ≡ n)

-- the text is no number, and stands for this one of the argument: COUNT may be `forever`, which is the most, a format
-- may be said by its name, and the port of a server that is asked by a URI
abbrev pub IsWordFor : NumberRefusal → Text → ℕ → Type 0
IsWordFor Count text n = (text ≡ codes "forever") × (n ≡ forever)
IsWordFor Port text n = ⊥
IsWordFor Limit text n = ⊥
IsWordFor Remember text n = ⊥
IsWordFor Format text n = IsFormatName text n
IsWordFor Accept text n = IsFormatName text n
IsWordFor Times text n = ⊥
IsWordFor Seconds text n = ⊥
IsWordFor GiveUp text n = ⊥
IsWordFor Every text n = ⊥
IsWordFor Again text n = ⊥
IsWordFor ServerPort text n = (rest : Text) × IsUri text rest × IsPortText (port_text (authority_of rest)) n

-- the text says this number of the argument
abbrev pub SaysNumber : NumberRefusal → Text → ℕ → Type 0
SaysNumber argument text n = IsNumber text n ⊎ IsWordFor argument text n

-- the argument that is refused so, by its name in clap, its least and its greatest value
abbrev pub argument_of : NumberRefusal → Text
argument_of Port = codes "PORT"
argument_of Count = codes "COUNT"
argument_of Limit = codes "limit"
argument_of Remember = codes "remember"
argument_of Format = codes "format"
argument_of Accept = codes "accept"
argument_of Times = codes "count"
argument_of Seconds = codes "seconds"
argument_of GiveUp = codes "give-up"
argument_of Every = codes "every"
argument_of Again = codes "again"
argument_of ServerPort = codes "PORT|URI"

abbrev pub least_of : NumberRefusal → ℕ
least_of Port = 0
least_of Count = 0
least_of Limit = 1
least_of Remember = 1
least_of Format = 0
least_of Accept = 0
least_of Times = 0
least_of Seconds = 0
least_of GiveUp = 0
least_of Every = 1
least_of Again = 1
least_of ServerPort = 0

abbrev pub most_of : NumberRefusal → ℕ
most_of Port = 2 ^ 16 - 1
most_of Count = 2 ^ 64 - 1
most_of Limit = max_body_limit
most_of Remember = max_remembered
most_of Format = 2 ^ 16 - 1
most_of Accept = 2 ^ 16 - 1
most_of Times = 2 ^ 64 - 1
most_of Seconds = 2 ^ 64 - 1
most_of GiveUp = 2 ^ 64 - 1
most_of Every = 2 ^ 64 - 1
most_of Again = 2 ^ 64 - 1
most_of ServerPort = 2 ^ 16 - 1

-- the text says a number in range
abbrev pub IsInRange : NumberRefusal → Text → ℕ → Type 0
IsInRange argument text n = SaysNumber argument text n × (least_of argument ≤ n) × (n ≤ most_of argument)

-- it says none
abbrev pub IsOutOfRange : NumberRefusal → Text → Type 0
IsOutOfRange argument text = (n : ℕ) → SaysNumber argument text n → (n < least_of argument) ⊎ (most_of argument < n)
