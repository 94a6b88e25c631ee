-- The name of a port, as a ghost value that mentions no type.
use Rattle.std.specs.Prelude.{◌≡◌}
use base.Stored.{Gv, Coded, coded×}
use Rattle.atomic_table.specs.Seated.{table_id_coded}
use Rattle.atomic_table.specs.contracts.badge.Badge as badge
use Rattle.crossbeam_channel.specs.contracts.flavors.array.Key as key
use Rattle.lq_port.specs.End.{PortName}
use Rattle.lq_server_slots.specs.declared.delivery.Delivery.{Delivery}
use Rattle.lq_server_slots.specs.declared.identity.Identity.{Identity}
use Rattle.lq_server_slots.specs.declared.subscription.Subscription.{Subscription}
use Rattle.lq_server_slots.specs.contracts.delivery.Delivery as delivery

-- the code of a port's name
abbrev pub name_coded : Coded (PortName Delivery)
name_coded = coded× table_id_coded (badge.the_row (key.the_row delivery.the_row)).coded

-- opaque: proofs use only `port_id_inj`
unfoldable pub port_id : PortName Delivery → Gv
port_id n = name_coded.code n

-- the name of a subscription
abbrev pub identity_of : Subscription → Identity
identity_of s =
    record {
      query = s.sub.held.query;
      flags = s.sub.held.flags;
      opened = s.sub.held.opened;
      places = s.places;
      backlog = s.sub.held.backlog;
      asks = s.asks;
      last_report = s.last_report.value;
      first_close = s.first_close;
      port = port_id s.input.port;
    }

-- different ports have different values
pub port_id_inj : (m n : PortName Delivery) → port_id m ≡ port_id n → m ≡ n
unfolding port_id
port_id_inj m n e = name_coded.inj m n e
