use Rattle.forwarding.proofs.Present.{turn_is_done, turn_stays_present, router_linked, router_keyed}
use Rattle.forwarding.proofs.laws.turns_are_done.Goals as goal

pub returns : goal.returns
returns c = record {
  done = turn_is_done;
  there = λ n now packet stop next network at there. turn_stays_present n now packet stop network at there next;
  links = λ n m up x y ia router. router_linked up x y n m ia router;
  keys = λ n m x key ia router. router_keyed x key n m ia router;
}
