-- What a 2.05 (Content) of a server shows, in a response or in a notification, its path holds then (RFC 7252, sections
-- 5.8.1 and 5.10.6; RFC 7641, section 4.2; RFC 7959, section 2.4).
use Rattle.std.specs.Prelude.{◌≡◌, ◌⊎◌, ℕ, Option, Some, None, List, ◌∷◌}
use Rattle.coap_types.specs.Past.{Always}
use Rattle.coap_types.specs.declared.message.TheConstants.Code as codes
use Rattle.coap_observe.specs.Observers.{Observer}
use Rattle.coap_resource.specs.Content.{Held}
use Rattle.coap_resource.specs.RequestOptions.{tag_of}
use Rattle.coap_resource.specs.ServedLaw.{IsPart}
use Rattle.coap_resource.specs.Serves.{Reply, bare}
use Rattle.coap_resource.specs.Limits.{Limits}
use Rattle.coap_exchange.specs.SuccessCodes.{content}
use Rattle.coap_server.specs.Trace.{Notifies, Call, Ticks}
use Rattle.coap_server.specs.Law.{own_of}
use Rattle.coap_server.specs.Follows.Holds.{held_at}
use Rattle.coap_server.specs.Follows.Serves.{Serving, serving}

-- the notification that is sent, and to whom
abbrev pub notice_in : Call → Option (Observer × Reply)
notice_in (Ticks now word below room d passed (Notifies o reply) id answer) = Some (o, reply)
notice_in _ = None

module _ (limits : Limits) (szx : ℕ) where
  -- the reply shows what the path holds at this point: the tag of its version, its format, and the piece of its body
  -- that Block2 says, or all of it
  pub record Shows (path : List (List ℕ)) (reply : Reply) (t : List Call) : Type 0 where
    pub held : Held
    pub is_held : held_at limits szx path t ≡ Some held
    pub tag : reply.tag ≡ Some (tag_of held.version)
    pub format : reply.format ≡ held.format
    pub part : IsPart reply.block2 held.body reply.part

  -- A 2.05 to a request shows what the path of that request holds ..
  abbrev pub ShowsHeld : List Call → Type 0
  ShowsHeld t = Always (λ past c. (x : Serving) → serving (own_of limits szx past) c ≡ Some x → x.reply.code ≡ content
      → Shows x.question.path x.reply (c ∷ past)) t

  -- .. and a notification what the observed path holds, or it is a 4.04 where that holds nothing.
  abbrev pub NoticesShow : List Call → Type 0
  NoticesShow t =
      Always (λ past c. (p : Observer × Reply) → notice_in c ≡ Some p
      → Shows p.0.path p.1 (c ∷ past) ⊎ ((held_at limits szx p.0.path (c ∷ past) ≡ None)
      × (p.1 ≡ bare codes.NOT_FOUND.0 0))) t
