use Rattle.coap_exchange.proofs.Short.WhenShort.{notification_when_short}
use Rattle.coap_exchange.proofs.laws.notifiable_law.Goals as goal

pub returns : goal.returns
returns c = notification_when_short
