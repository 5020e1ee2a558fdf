use Rattle.std.proofs.Common.{rules}
use Rattle.coap_server.proofs.Calls.ShortResponses.{sendable_as}
use Rattle.coap_server.proofs.server.full_response.FullResponse.with.Goals as goal

pub returns-clause-sendable : goal.returns-clause-sendable
returns-clause-sendable g c = sendable_as c.notifiable_law.ensures _ _ _ c.self.invariant (search rules) (search rules)
