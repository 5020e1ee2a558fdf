use Rattle.std.proofs.Common.{◌≡◌, sym, subst}
use Rattle.std.specs.Net.Grammar.{IsIpv6Text}
use Rattle.std.specs.declared.net.ipv6_addr.Ipv6Addr.{Ipv6Addr}
use Rattle.clap.specs.Words.{Text}
use Rattle.coap_arguments.specs.Hosts.{IsSixText}
use Rattle.coap_arguments.specs.Marks.{before}
use Rattle.coap_arguments.specs.declared.hosts.Address.{Address}
use Rattle.coap_arguments.specs.declared.hosts.Address.TheVariants.{Four, Six}
use Rattle.coap_arguments.proofs.hosts.six_in.Goals as goal

no_six : (text own : Text) → own ≡ before 37 text → ((ip : Ipv6Addr) → IsIpv6Text own ip → ⊥)
    → (address : Address) → IsSixText text address → ⊥
no_six text own same none (Four ip) is = is
no_six text own same none (Six ip scope) is = none ip (subst (λ (t : Text). IsIpv6Text t ip) (sym same) is.0)

pub returns-in-Err : goal.returns-in-Err
returns-in-Err c = no_six c.args.text.now _ c.parted.ensures.before c.in-Err.ensures.value
