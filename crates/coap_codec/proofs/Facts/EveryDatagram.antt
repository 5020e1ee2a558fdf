-- All bytes spell one message or have one fault, and `decoded` is that (RFC 7252, section 3).
use Rattle.std.proofs.Common.{◌≡◌, ℕ, List, Ok, Err}
use Rattle.coap_codec.specs.declared.fault.Reason.{Reason}
use Rattle.coap_types.specs.Bytes.{AreBytes}
use Rattle.coap_codec.specs.Message.{Message, Spells}
use Rattle.coap_codec.specs.Faulty.{Faulty}
use Rattle.coap_codec.specs.Decoded.{decoded}
use Rattle.coap_codec.specs.Laws.{EachIsRead, NotBoth, OneMessage, OneFault}
use Rattle.coap_codec.proofs.Datagrams.EveryDatagram as own
use Rattle.coap_codec.proofs.Datagrams.ReadAsSpelled as read
use Rattle.coap_codec.proofs.Datagrams.ReadAgain as again

pub each_is_read : EachIsRead
each_is_read = own.each_is_read

pub not_both : NotBoth
not_both = own.not_both

pub one_message : OneMessage
one_message = own.one_message

pub one_fault : OneFault
one_fault = own.one_fault

pub decoded_spells : (bytes : List ℕ) → AreBytes bytes → (m : Message) → decoded bytes ≡ Ok m → Spells bytes m
decoded_spells = read.message_reads

pub decoded_faulty : (bytes : List ℕ) → AreBytes bytes → (reason : Reason) (at : ℕ) → decoded bytes ≡ Err (reason, at)
    → Faulty bytes reason at
decoded_faulty = read.message_faults

pub spelled_decoded : (bytes : List ℕ) (m : Message) → Spells bytes m → decoded bytes ≡ Ok m
spelled_decoded = again.spelled_again

pub faulty_decoded : (bytes : List ℕ) (reason : Reason) (at : ℕ) → AreBytes bytes → Faulty bytes reason at
    → decoded bytes ≡ Err (reason, at)
faulty_decoded = again.faulty_again
