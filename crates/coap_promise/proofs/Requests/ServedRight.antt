-- What is served is what a datagram asks, by the table of the methods.
use Rattle.std.proofs.Common.{List, [], ◌∷◌, ap, sym, ◌∙◌}
use Rattle.coap_resource.specs.Content.{Content}
use Rattle.coap_resource.specs.RequestOptions.{precondition_fails}
use Rattle.coap_server.specs.Law.{own_of}
use Rattle.coap_server.specs.Trace as S
use Rattle.coap_server_laws.proofs.Facts.Laws as server_facts
use Rattle.coap_server.proofs.Facts.EachCall.{served_now}
use Rattle.coap_record.specs.Events.{Config}
use Rattle.coap_record.specs.Record.{Entry, OfClient, OfServer, server_trace}
use Rattle.coap_promise.specs.Serves.{ServesRight, AllServed}
use Rattle.coap_promise.proofs.Any.Requests.OfACall.{Lawful, lawful_back}
use Rattle.coap_promise.proofs.Facts.Requests.ServedLeaves.{leaves}
use Rattle.coap_promise.proofs.Facts.Requests.Traced.{brought_in}

module _ (config : Config) where
  served_here : (past : List Entry) (c : S.Call) → Lawful config (OfServer c ∷ past)
      → ServesRight config past (OfServer c)
  served_here past c law =
      let t : List S.Call = server_trace config past in
      let s : S.Own = own_of config.limits config.server_szx t in
      let right = (server_facts.right config.limits config.server_szx config.server_setup (c ∷ t) law.server).0 in
      record {
        brought = λ x here. brought_in config x.asked x.question (OfServer c ∷ past)
            ((server_facts.handed config.limits config.server_szx config.server_setup (c ∷ t) law.server).0 x here);
        table = λ x here. served_now s c law.server.rows.0 x here;
        preconditions = λ x here applied.
            ap (λ (o : Content). precondition_fails (o.holds x.question.path) x.question.options)
            (sym (leaves s c x here).found) ∙ (right.applied x here applied).preconditions;
        methods = (server_facts.methods config.limits config.server_szx config.server_setup (c ∷ t) law.server).0;
        uploads = (server_facts.uploads config.limits config.server_szx config.server_setup (c ∷ t) law.server).0;
      }

  pub served_right : (all : List Entry) → Lawful config all → AllServed config all
  served_right [] law = tt
  served_right (OfClient c ∷ past) law = (
    record {
      brought = λ x here. absurd here;
      table = λ x here. absurd here;
      preconditions = λ x here applied. absurd here;
      methods = tt;
      uploads = tt;
    },
    served_right past (lawful_back config past (OfClient c) law),
  )
  served_right (OfServer c ∷ past) law = (
    served_here past c law,
    served_right past (lawful_back config past (OfServer c) law),
  )
