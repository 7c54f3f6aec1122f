-- Three ASes in a row, and the events of a packet in them.
use Rattle.std.specs.Prelude.{ℕ, Bool, true, false, codes, List, [], ◌∷◌, Ok}
use Rattle.isd_as.specs.Address.{address_of}
use Rattle.scion_topology.specs.declared.network.AsEntry.{AsEntry}
use Rattle.scion_topology.specs.declared.network.End.{End}
use Rattle.scion_topology.specs.declared.network.Link.{Link}
use Rattle.scion_topology.specs.declared.network.LinkClass.TheVariants.{Child}
use Rattle.scion_topology.specs.Network.{Network}
use Rattle.policy_expr.specs.Options.{WeighedRules}
use Rattle.forwarding.specs.Turned.{no_rules}
use Rattle.network_core.specs.Event.{EventValue, ByAnswer, Tick, Originate, Extend, Terminate, Ask, Send, Turn}

-- ---- the network

-- an AS of ISD 1 with one router, whose hops last six hours
abbrev pub as_of_row : (number : ℕ) (core : Bool) (key : List ℕ) → AsEntry
as_of_row number core key = record {
  ia = address_of 1 number;
  core = core;
  exp_time = 63;
  keys = key ∷ [];
  routers = 1;
}

abbrev pub top : AsEntry
top = as_of_row 0xff0000000110 true (codes "a0")

abbrev pub middle : AsEntry
middle = as_of_row 0xff0000000111 false (codes "a1")

abbrev pub leaf : AsEntry
leaf = as_of_row 0xff0000000112 false (codes "a2")

-- an interface of an AS, at its one router
abbrev pub end_of : AsEntry → ℕ → End
end_of one number = record { ia = one.ia; number = number; router = 0 }

-- a link from a parent to a child
abbrev pub child_link : End → End → Link
child_link parent child = record { class = Child; a = parent; b = child; up = true }

-- the core AS at the top, the AS below it, and the AS below that
abbrev pub row : Network
row = record {
  ases = top ∷ middle ∷ leaf ∷ [];
  links = child_link (end_of top 1) (end_of middle 1)
      ∷ child_link (end_of middle 2) (end_of leaf 1) ∷ [];
}

-- ---- the events

-- the policy option of a request that names none
abbrev pub any_path : WeighedRules
any_path = record { rules = no_rules; weight = 0 }

abbrev pub hi : List ℕ
hi = codes "hi"

-- a segment is made from the top to the leaf, the leaf asks for paths to the top and sends on the
-- first, and the packet has three turns
abbrev pub row_events : List EventValue
row_events =
    Tick 1000
    ∷ Originate top.ia 1 4660
    ∷ Extend 0 middle.ia 2
    ∷ Terminate 1 leaf.ia
    ∷ Ask leaf.ia top.ia (Ok (any_path ∷ [])) 4
    ∷ Send (ByAnswer 0 0) hi
    ∷ Turn 0
    ∷ Turn 0
    ∷ Turn 0 ∷ []
