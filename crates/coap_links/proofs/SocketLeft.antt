-- What a send leaves of a socket, by what each of its steps leaves.
use Rattle.std.proofs.Common.{◌≡◌, ◌∙◌, ap, true}
use Rattle.coap_links.specs.SocketCalls.{sent_by}
use Rattle.coap_links.specs.declared.socket.Sending.{Sending}
use Rattle.coap_links.specs.declared.socket.Socket.{Socket}

-- the datagram was handed over once
pub left_once : {D : Type 0} (s a t : Socket D) (sending : Sending) → a ≡ record s { socket = a.socket }
    → t ≡ sent_by sending a → t ≡ sent_by sending (record s { socket = a.socket })
left_once {D} s a t sending one is = is ∙ ap (λ (x : Socket D). sent_by sending x) one

-- .. and again
pub left_again : {D : Type 0} (s a b t : Socket D) (sending : Sending) → a ≡ record s { socket = a.socket }
    → b ≡ record (record a { is_refused = true }) { socket = b.socket } → t ≡ sent_by sending b
    → t ≡ sent_by sending (record s { socket = b.socket; is_refused = true })
left_again {D} s a b t sending one two is =
    is ∙ ap (λ (x : Socket D). sent_by sending x)
    (two ∙ ap (λ (x : Socket D). record (record x { is_refused = true }) { socket = b.socket }) one)
