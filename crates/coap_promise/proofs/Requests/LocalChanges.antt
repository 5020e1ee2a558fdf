-- A local change of the server does just what it answers.
use Rattle.std.proofs.Common.{◌≡◌, ℕ, ◌+◌, max, Bool, Option, Some, None, List, [], ◌∷◌, length, refl, ap, sym, ◌∙◌}
use Rattle.std.proofs.Common.{Result}
use Rattle.coap_resource.specs.Content.{Content, Held, Changes, put_refusal, later}
use Rattle.coap_resource.specs.Rate.{rate_refusal}
use Rattle.coap_resource.specs.declared.refusal.StoreRefusal.{StoreRefusal}
use Rattle.coap_server.specs.Trace as S
use Rattle.coap_server.specs.Local.{SetsBy, RemovesBy}
use Rattle.coap_server.specs.Law.{own_of}
use Rattle.coap_server.proofs.Facts.Holds.{version_is}
use Rattle.coap_record.specs.Events.{Config}
use Rattle.coap_promise.specs.Local.{IsSame, SetsRight, RemovesRight, IsLocalRight, LocalRight}
use Rattle.coap_record.specs.Record.{Entry, OfServer, server_trace}
use Rattle.coap_promise.specs.Words.{holds_at, changes_in}
use Rattle.coap_promise.proofs.Facts.Requests.HoldsChanges.{Rows, rows_back}

module _ (config : Config) (past : List Entry) where
  abbrev own : S.Own
  own = own_of config.limits config.server_szx (server_trace config past)

  -- the changes so far are the version of the store
  counted : (t : List Entry) → Rows config t → changes_in config t
      ≡ (own_of config.limits config.server_szx (server_trace config t)).store.tally.version
  counted t rows = sym (version_is config.limits config.server_szx (server_trace config t) rows)

  -- a call that leaves the store like this
  module _ (c : S.Call) (left : Content) (store :
      (own_of config.limits config.server_szx (server_trace config (OfServer c ∷ past))).store ≡ left)
      (rows : Rows config (OfServer c ∷ past)) where
    abbrev e : Entry
    e = OfServer c

    kept : (at : ℕ) → left ≡ later own.store at → IsSame config past e
    kept at h =
        let is = store ∙ h in
        record {
          holds = λ path. ap (λ (s : Content). s.holds path) is;
          none = counted (e ∷ past) rows ∙ (ap (λ (s : Content). s.tally.version) is ∙ sym (counted past rows.1));
        }

    next : (at : ℕ) (path : List (List ℕ)) (held : Option Held) → Changes own.store at path held left
        → changes_in config (e ∷ past) ≡ changes_in config past + 1
    next at path held k = counted (e ∷ past) rows
        ∙ (ap (λ (s : Content). s.tally.version) store
        ∙ (ap (λ t. t.version) k.tally ∙ ap (λ n. n + 1) (sym (counted past rows.1))))

    there : (at : ℕ) (path : List (List ℕ)) (held : Option Held) → Changes own.store at path held left
        → holds_at config path (e ∷ past) ≡ held
    there at path held k = ap (λ (s : Content). s.holds path) store ∙ k.there

    sets_by : (now : ℕ) (path : List (List ℕ)) (format : Option ℕ) (body : List ℕ) (answer : Result ℕ StoreRefusal)
        (o : Option StoreRefusal)
        → put_refusal own.store (max own.clock now) path (length body) ≡ o
        → SetsBy o own.store (max own.clock now) path format body answer left
        → SetsRight config now path format body answer past e
    sets_by now path format body answer (Some why) is h =
        record {
          made = λ version k. absurd (let r = h.0 in cc (r, k));
          refused = λ other k. (
            is ∙ ap (λ w. Some w) (let r = h.0 in let same : why ≡ other = cc (r, k) in same),
            kept (max own.clock now) h.1,
          );
        }
    sets_by now path format body answer None is h =
        record {
          made = λ version k. (
              let r = h.0 in
              let same : version ≡ own.store.tally.version + 1 = cc (r, k) in
              let counts : version ≡ changes_in config past + 1 = same
              ∙ ap (λ n. n + 1) (sym (counted past rows.1)) in (
                counts,
                next (max own.clock now) path _ h.1 ∙ sym counts,
                there (max own.clock now) path _ h.1 ∙ ap
                    (λ n. Some (record { version = n; format = format; body = body })) (sym same),
                is,
              ));
          refused = λ why k. absurd (let r = h.0 in cc (r, k));
        }

    removes_by : (now : ℕ) (path : List (List ℕ)) (answer : Result Bool StoreRefusal) (o : Option Held)
        (w : Option StoreRefusal)
        → own.store.holds path ≡ o → rate_refusal own.store.tally (max own.clock now) ≡ w
        → RemovesBy o w own.store (max own.clock now) path answer left → RemovesRight config now path answer past e
    removes_by now path answer None w is why h =
        record {
          made = λ k. absurd (let r = h.0 in cc (r, k));
          none = λ k. (is, kept (max own.clock now) h.1);
          refused = λ other k. absurd (let r = h.0 in cc (r, k));
        }
    removes_by now path answer (Some held) (Some w) is why h =
        record {
          made = λ k. absurd (let r = h.0 in cc (r, k));
          none = λ k. absurd (let r = h.0 in cc (r, k));
          refused = λ other k. (
            (λ none. cc (is, none)),
            why ∙ ap (λ x. Some x) (let r = h.0 in let same : w ≡ other = cc (r, k) in same),
            kept (max own.clock now) h.1,
          );
        }
    removes_by now path answer (Some held) None is why h =
        record {
          made = λ k. (
            (λ none. cc (is, none)),
            next (max own.clock now) path _ h.1,
            there (max own.clock now) path _ h.1,
            why,
          );
          none = λ k. absurd (let r = h.0 in cc (r, k));
          refused = λ other k. absurd (let r = h.0 in cc (r, k));
        }

right_here : (config : Config) (past : List Entry) (e : Entry) → Rows config (e ∷ past) → IsLocalRight config past e
right_here config past (OfServer (S.Sets now path format body answer left)) rows =
    sets_by config past (S.Sets now path format body answer left) left refl rows now path format body answer _ refl
    rows.0
right_here config past (OfServer (S.Removes now path answer left)) rows =
    removes_by config past (S.Removes now path answer left) left refl rows now path answer _ _ refl refl rows.0
right_here config past _ rows = tt

pub local_right : (config : Config) (all : List Entry) → Rows config all → LocalRight config all
local_right config [] rows = tt
local_right config (e ∷ past) rows = (
  right_here config past e rows,
  local_right config past (rows_back config e past rows),
)
