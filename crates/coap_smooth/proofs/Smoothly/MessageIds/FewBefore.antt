-- Where few notifications are sent, few were sent before.
use Rattle.std.proofs.Common.{◌≡◌, inl, inr, ◌≤◌, ℕ, ◌+◌, Bool, true, false, cond, ◌&&◌, List, [], ◌∷◌, ◌++◌}
use Rattle.std.proofs.Common.{refl, ap, subst, arith}
use Rattle.coap_layer.specs.Taking.{is_then}
use Rattle.coap_exchange.specs.AnswererIds.{notifies, FewNotified}
use Rattle.coap_exchange.specs.Counts.{count_then}
use Rattle.coap_exchange.specs.AnswererLaw.{own_of as exchanges_of}
use Rattle.coap_exchange.specs.AnswererTrace as R
use Rattle.coap_server.specs.Asks.{lower}
use Rattle.coap_server.specs.Law.{own_of, lower_of}
use Rattle.coap_server.specs.Trace as S
use Rattle.coap_record.specs.Events.{Config}
use Rattle.coap_record.specs.Record.{Entry, OfClient, OfServer, Turn, entries_of, server_trace}
use Rattle.coap_smooth.specs.Smooth.{most_that_come, FewNotices, FewTold}

abbrev moment_of : List R.Call → ℕ
moment_of t = (exchanges_of t).clock

-- more notifications were sent by more calls
notified_more : (since : ℕ) (front t : List R.Call)
    → count_then moment_of notifies since t ≤ count_then moment_of notifies since (front ++ t)
notified_more since [] t = omega arith
notified_more since (c ∷ front) t =
    by (notifies c && is_then since (moment_of (c ∷ (front ++ t)))) (notified_more since front t)
  where
    by : (b : Bool) {n k : ℕ} → n ≤ k → n ≤ cond b (1 + k) k
    by true h = omega (arith, h)
    by false h = h

module _ (config : Config) where
  -- few so far
  pub notified_back : (later t : List S.Call)
      → FewNotified most_that_come (lower_of config.limits config.server_szx (later ++ t))
      → FewNotified most_that_come (lower_of config.limits config.server_szx t)
  notified_back [] t h = h
  notified_back (c ∷ later) t h = notified_back later t
      (λ since. (let a = notified_more since (lower (own_of config.limits config.server_szx (later ++ t)) c)
      (lower_of config.limits config.server_szx (later ++ t)) in
      let b = h since in omega (arith, a, b)))

  -- fewer were sent by then
  pub notices_before : (turn : Turn) (past : List Turn) → FewNotices config (turn ∷ past) → FewNotices config past
  notices_before turn past told =
      let k = calls_in turn.entries (entries_of past) in
      notified_back k.0 (server_trace config (entries_of past))
      (subst (λ z. FewNotified most_that_come (lower_of config.limits config.server_szx z)) k.1 told)
    where
      calls_in : (later older : List Entry)
          → (front : List S.Call) × (server_trace config (later ++ older) ≡ front ++ server_trace config older)
      calls_in [] older = ([], refl)
      calls_in (OfClient c ∷ later) older = calls_in later older
      calls_in (OfServer c ∷ later) older = let k = calls_in later older in (c ∷ k.0, ap (λ t. c ∷ t) k.1)

  pub told_before : (turn : Turn) (past : List Turn) → FewTold config (turn ∷ past) → FewTold config past
  told_before turn past (inl none) = inl none.1
  told_before turn past (inr few) = inr (notices_before turn past few)
