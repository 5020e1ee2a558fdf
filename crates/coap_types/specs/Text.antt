-- How codes and types of messages are written (RFC 7252, section 3).
use Rattle.std.specs.Prelude.{ℕ, List, ◌++◌, ◌/◌, ◌%◌, codes}
use Rattle.std.specs.Fmt.{decimal}
use Rattle.coap_types.specs.declared.message.Code.{Code}
use Rattle.coap_types.specs.declared.message.Kind.{Kind}
use Rattle.coap_types.specs.declared.message.Kind.TheVariants.{Con, Non, Ack, Rst}

-- the class, a dot and the two digits of the detail
abbrev pub code_text : Code → List ℕ
code_text code = decimal (code.0 / 32) ++ codes "." ++ decimal (code.0 % 32 / 10) ++ decimal (code.0 % 32 % 10)

abbrev pub kind_text : Kind → List ℕ
kind_text Con = codes "CON"
kind_text Non = codes "NON"
kind_text Ack = codes "ACK"
kind_text Rst = codes "RST"
