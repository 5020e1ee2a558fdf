-- When a call of a client is: the later of the moment that it is handed and the latest before it (RFC 7252, section
-- 4.2).
use Rattle.std.specs.Prelude.{ℕ, max}
use Rattle.coap_client.specs.Trace.{Call, Calls, Observes, Cancels, Forgets, Feeds, Ticks, NextOut}
use Rattle.coap_client.specs.Trace.{NextReport, Asked}
use Rattle.coap_client.specs.Own.{Own}

abbrev pub moment_of : Own → Call → ℕ
moment_of s (Calls now r answer) = max s.clock now
moment_of s (Observes now path answer) = max s.clock now
moment_of s (Cancels now number answer) = max s.clock now
moment_of s (Forgets number kept answer) = s.clock
moment_of s (Feeds now from bytes word up settled event sent token kept) = max s.clock now
moment_of s (Ticks now word below t sent token kept answer) = max s.clock now
moment_of s (NextOut answer) = s.clock
moment_of s (NextReport answer) = s.clock
moment_of s (Asked answer) = s.clock
