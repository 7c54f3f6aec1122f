-- Whether an AS and a link keep the rules, each by itself.
use Rattle.std.specs.Prelude.{◌&&◌, not, nat_lt, nat_le, Bool}
use Rattle.scion_topology.specs.declared.network.AsEntry.{AsEntry}
use Rattle.scion_topology.specs.declared.network.Link.{Link}
use Rattle.scion_topology.specs.inner.Keys.{are_keys}
use Rattle.scion_topology.specs.Network.{is_wildcard}

-- `IsAs` and `IsNumbered` as Booleans
abbrev pub is_as : AsEntry → Bool
is_as one =
    not (is_wildcard one.ia)
    && (nat_le 1 one.routers && (nat_le one.routers 64 && are_keys one.keys))

abbrev pub is_link : Link → Bool
is_link link = nat_lt 0 link.a.number && nat_lt 0 link.b.number
