-- The name of a boot, and how long a machine has been up, as Linux says them.
use Rattle.std.specs.Prelude.{◌==◌, ◌&&◌, ◌+◌, ◌-◌, ◌*◌, ◌%◌, ◌^◌, ℕ, Bool, true, false, List, Option, Some, None}
use Rattle.std.specs.Prelude.{fold, if◌then◌else◌, min, nat_le, nat_lt}
use Rattle.coap_journal.specs.declared.beginning.Boot.{Boot}
use Rattle.coap_journal_file.specs.declared.boots.Named.{Named}
use Rattle.coap_journal_file.specs.declared.boots.Place.{Place}
use Rattle.coap_journal_file.specs.declared.boots.Place.TheVariants.{Hundredths, Read, Tenths, Whole}
use Rattle.coap_journal_file.specs.declared.boots.Timed.{Timed}

-- the value of a digit of base 10, and of base 16
abbrev pub decimal_of : ℕ → Option ℕ
decimal_of byte = if nat_le 48 byte && nat_le byte 57 then Some (byte - 48) else None

abbrev pub digit_of : ℕ → Option ℕ
digit_of byte = if nat_le 48 byte && nat_le byte 57 then Some (byte - 48)
    else (if nat_le 97 byte && nat_le byte 102 then Some (byte - 87) else None)

-- a number of 64 bits with a digit more
abbrev pub with_digit : ℕ → ℕ → ℕ → ℕ
with_digit number base digit = (number * base % 2 ^ 64 + digit) % 2 ^ 64

-- before the first digit of a name
abbrev pub no_name : Named
no_name = record { digits = 0; high = 0; low = 0 }

-- .. with a digit more: the first 16 are those of the first half
abbrev pub named_digit : Named → ℕ → Named
named_digit named digit = record {
  digits = min (named.digits + 1) (2 ^ 32 - 1);
  high = if nat_lt named.digits 16 then with_digit named.high 16 digit else named.high;
  low = if nat_lt named.digits 16 then named.low else with_digit named.low 16 digit;
}

abbrev pub named_by : Named → Option ℕ → Named
named_by named None = named
named_by named (Some digit) = named_digit named digit

abbrev pub named_with : Named → ℕ → Named
named_with named byte = named_by named (digit_of byte)

-- the boot that a text names by 32 digits
abbrev pub boot_of : Named → Option Boot
boot_of named = if named.digits == 32 then Some (record { high = named.high; low = named.low }) else None

abbrev pub boot_in : List ℕ → Option Boot
boot_in text = boot_of (fold named_with no_name text)

-- the place behind a digit
abbrev pub next_place : Place → Place
next_place Whole = Whole
next_place Tenths = Hundredths
next_place Hundredths = Read
next_place Read = Read

abbrev pub is_read : Place → Bool
is_read Whole = false
is_read Tenths = false
is_read Hundredths = false
is_read Read = true

abbrev pub is_whole : Place → Bool
is_whole Whole = true
is_whole Tenths = false
is_whole Hundredths = false
is_whole Read = false

-- before the first digit of a number of seconds
abbrev pub no_time : Timed
no_time = record { hundredths = 0; place = Whole }

-- .. with a digit more, behind the point at most two
abbrev pub timed_digit : Timed → ℕ → Timed
timed_digit timed digit = if is_read timed.place then timed
    else record { hundredths = with_digit timed.hundredths 10 digit; place = next_place timed.place }

abbrev pub timed_by : Timed → Option ℕ → Timed
timed_by timed None = timed
timed_by timed (Some digit) = timed_digit timed digit

abbrev pub timed_with : Timed → ℕ → Timed
timed_with timed byte = if (byte == 46) && is_whole timed.place
    then record { hundredths = timed.hundredths; place = Tenths }
    else timed_by timed (decimal_of byte)

-- the milliseconds that a text says in seconds
abbrev pub uptime_of : Timed → Option ℕ
uptime_of timed = if is_read timed.place then Some (min (timed.hundredths * 10) (2 ^ 64 - 1)) else None

abbrev pub uptime_in : List ℕ → Option ℕ
uptime_in text = uptime_of (fold timed_with no_time text)
