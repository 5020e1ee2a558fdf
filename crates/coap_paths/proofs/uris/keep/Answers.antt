use Rattle.coap_paths.proofs.KeptParts.{kept_other}
use Rattle.coap_paths.proofs.uris.keep.Goals as goal

pub returns-in_default : goal.returns-in_default
returns-in_default g c = kept_other c.add.result c.args.kept.now.items c.add.new.kept.items c.args.part c.add.ensures
    c.in_default.not-text c.in_default.not-text-2
