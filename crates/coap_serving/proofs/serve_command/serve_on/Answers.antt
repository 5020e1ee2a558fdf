use Rattle.std.proofs.Common.{map}
use Rattle.coap_resource.specs.Entries.{content_of}
use Rattle.coap_server.specs.Object.Shown.{state_of}
use Rattle.coap_scripts.specs.Settings.{setting_of}
use Rattle.coap_serving.specs.SettingUp.{IsRefusedAfter, IsServerAfter}
use Rattle.coap_serving.proofs.ServedCalls.{made_is, not_set_by, refused_is, served_by}
use Rattle.coap_serving.proofs.serve_command.serve_on.Goals as goal

pub returns-in-Ok : goal.returns-in-Ok
returns-in-Ok g c =
    let options = c.args.options.now in
    let settings = map setting_of c.args.settings.now in
    let origin = c.args.origin in
    served_by _ _ c.args.count options settings origin (state_of content_of c.in-Ok.server) _
    (made_is (λ server. IsServerAfter origin options settings (state_of content_of server)) c.in_ok-made.made
    c.in-Ok.server c.in-Ok.is c.in_ok-made.ensures.made) c.serve_with.ensures.serves c.serve_with.ensures.printed

pub returns : goal.returns
returns g c =
    let options = c.args.options.now in
    let settings = map setting_of c.args.settings.now in
    let origin = c.args.origin in
    not_set_by _ _ c.args.count options settings origin c.in-Err.why c.tell_not_set_up.result
    (refused_is (IsRefusedAfter origin options settings) c.in_ok-made.made c.in-Err.why c.in-Err.is
    c.in_ok-made.ensures.refused)
    c.tell_not_set_up.ensures.status c.tell_not_set_up.ensures.printed
