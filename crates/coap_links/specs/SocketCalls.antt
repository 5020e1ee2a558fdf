-- What a socket does in a send and in a receive: what it hands to the system and takes from it, and what it counts. (Of
-- a socket `hands` says what the system is handed and says to that, and `takes` what is taken from it.)
use Rattle.std.specs.Prelude.{◌≡◌, ◌≢◌, ◌⊎◌, ◌↔◌, ℕ, true, false, List, length, Option, Some, None, Result, Ok, Err}
use Rattle.std.specs.Prelude.{IfErr, IsErrAnd}
use Rattle.std.specs.IoError.{error_kind, raw_os_error}
use Rattle.std.specs.declared.io.Error.{Error}
use Rattle.std.specs.declared.io.ErrorKind.{ErrorKind}
use Rattle.std.specs.declared.io.ErrorKind.TheVariants as kind
use Rattle.std.specs.declared.net.socket_addr.SocketAddr.{SocketAddr}
use Rattle.coap_links.specs.Faults.{raised}
use Rattle.coap_links.specs.declared.socket.Sending.{Sending}
use Rattle.coap_links.specs.declared.socket.Sending.TheVariants.{Closed, Failed, Went}
use Rattle.coap_links.specs.declared.socket.Socket.{Socket}
use Rattle.coap_links.specs.declared.socket.TheConstants.{BAD_DESCRIPTOR as bad_descriptor}
use Rattle.coap_links.specs.declared.socket.TheConstants.{NOT_A_SOCKET as not_a_socket}

-- what became of a datagram of so many bytes, by what the system says: it went whole; or in its place the system says
-- that nobody listens where an earlier one went (RFC 1122, section 4.1.3.3); or it did not go, for the reason that the
-- system says
abbrev pub IsSending : Result ℕ Error → ℕ → Sending → Type 0
IsSending said len sending = ((sending ≡ Went) ↔ (said ≡ Ok len))
    × ((sending ≡ Closed) ↔ IsErrAnd said (λ error. error_kind error ≡ kind.ConnectionRefused))
    × IfErr said (λ error. (sending ≡ Closed) ⊎ (sending ≡ Failed error))

-- it is handed to the system, once, and that became of it
abbrev pub Hands : {D : Type 0} → (D → SocketAddr → List ℕ → Result ℕ Error → D → Type 0) → D → SocketAddr → List ℕ
    → Sending → D → Type 0
Hands hands d to bytes sending e =
    (said : Result ℕ Error) × hands d to bytes said e × IsSending said (length bytes) sending

-- one that did not go is a fault, unless the system spoke of an earlier one
abbrev pub counted : Sending → ℕ → ℕ
counted Went faults = faults
counted Closed faults = faults
counted (Failed error) faults = raised faults

-- .. and is lost, for that reason
abbrev pub lost_in : Sending → Option Error
lost_in Went = None
lost_in Closed = None
lost_in (Failed error) = Some error

-- what a socket has counted, and was told, once that became of a datagram
abbrev pub sent_by : {D : Type 0} → Sending → Socket D → Socket D
sent_by sending s = record s { faults = counted sending s.faults; loss = lost_in sending }

-- A send: the datagram is handed to the system once; once more where the system sent nothing, since it spoke of an
-- earlier one, and that nobody listens is then known.
pub data SendsOn {D : Type 0} (hands : D → SocketAddr → List ℕ → Result ℕ Error → D → Type 0) (s : Socket D)
    (to : SocketAddr) (bytes : List ℕ) (t : Socket D) : Type 0 where
  once : (sending : Sending) (d : D) → sending ≢ Closed → Hands hands s.socket to bytes sending d
      → t ≡ sent_by sending (record s { socket = d }) → SendsOn hands s to bytes t
  again : (c : D) (sending : Sending) (d : D) → Hands hands s.socket to bytes Closed c
      → Hands hands c to bytes sending d
      → t ≡ sent_by sending (record s { socket = d; is_refused = true }) → SendsOn hands s to bytes t

-- A wait for a datagram was over.
abbrev pub IsWaitOver : ErrorKind → Type 0
IsWaitOver found = (found ≡ kind.WouldBlock) ⊎ (found ≡ kind.TimedOut)

-- .. or the system says that nobody listens where one went: no datagram was found, and that is no fault
abbrev pub IsQuiet : ErrorKind → Type 0
IsQuiet found = (found ≡ kind.WouldBlock) ⊎ (found ≡ kind.TimedOut) ⊎ (found ≡ kind.ConnectionRefused)

-- A receive failed for what the socket itself is: its number is none of the program's (EBADF), or no socket's
-- (ENOTSOCK). With each other error the system tells of a datagram that was sent (RFC 1122, section 4.1.3.3).
abbrev pub IsOfSocket : Error → Type 0
IsOfSocket error =
    (raw_os_error error ≡ Some bad_descriptor) ⊎ (raw_os_error error ≡ Some not_a_socket)

-- No datagram was found: the wait was over; or the system says that nobody listens where one went, which is known then.
-- Else it is a fault: of the socket itself, which counts one more in a row; or one is lost.
pub record IsMissed {D : Type 0} (error : Error) (s t : Socket D) : Type 0 where
  pub quiet : IsWaitOver (error_kind error) → t ≡ record s { broken = 0; loss = None }
  pub refused : error_kind error ≡ kind.ConnectionRefused
      → t ≡ record s { broken = 0; loss = None; is_refused = true }
  pub own : (IsQuiet (error_kind error) → ⊥) → IsOfSocket error
      → t ≡ record s { faults = raised s.faults; broken = raised s.broken; loss = None }
  pub lost : (IsQuiet (error_kind error) → ⊥) → (IsOfSocket error → ⊥)
      → t ≡ record s { faults = raised s.faults; broken = 0; loss = Some error }

-- A receive asks the system once. Where a datagram comes, somebody listens.
abbrev pub ReceivesOn : {D : Type 0} → (D → Result (ℕ × SocketAddr) Error → List ℕ → D → Type 0) → Socket D → List ℕ
    → Option (ℕ × SocketAddr) → Socket D → Type 0
ReceivesOn {D} takes s bytes (Some came) t =
    (d : D) × takes s.socket (Ok came) bytes d
    × (t ≡ record s { socket = d; broken = 0; loss = None; is_refused = false })
ReceivesOn {D} takes s bytes None t =
    (error : Error) × (d : D) × takes s.socket (Err error) bytes d × IsMissed error (record s { socket = d }) t
