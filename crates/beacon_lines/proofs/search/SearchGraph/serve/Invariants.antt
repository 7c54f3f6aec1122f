-- The ways so far were tried, of the origin and then of one arrival after another.
use Rattle.std.proofs.Common.{◌≡◌, ◌-◌, ◌^◌, take}
use Rattle.beacon_lines.specs.inner.Search.{ways_for}
use Rattle.beacon_lines.proofs.Exploring.{Begins, Explores, Passes}
use Rattle.beacon_lines.proofs.search.SearchGraph.serve.Given as goal

abbrev pub invariant-loop-way : goal.invariant-loop-way
invariant-loop-way l = record {
  second : l.run.second ≡ l.fn.run.second;
  wanted : l.spread.wanted ≡ l.fn.wanted;
  begins : Begins l.fn.wanted l.fn.origin (ways_for l.self l.fn.wanted.kind) l.fn.run.net l.run.net
      l.spread.arrivals
      (take l.way-index l.way-items);
}

abbrev pub invariant-loop-from : goal.invariant-loop-from
invariant-loop-from l = record {
  second : l.run.second ≡ l.fn.run.second;
  wanted : l.spread.wanted ≡ l.fn.wanted;
  explores : Explores l.fn.wanted l.fn.origin (ways_for l.self l.fn.wanted.kind) l.fn.run.net
      l.run.net l.spread.arrivals l.number;
}

abbrev pub decreases-loop-from : goal.decreases-loop-from
decreases-loop-from l = 2 ^ 64 - l.number

abbrev pub invariant-loop-way-2 : goal.invariant-loop-way-2
invariant-loop-way-2 l = record {
  second : l.run.second ≡ l.fn.run.second;
  wanted : l.spread.wanted ≡ l.fn.wanted;
  passes : Passes l.fn.wanted l.fn.origin (ways_for l.self l.fn.wanted.kind) l.fn.run.net l.run.net
      l.spread.arrivals l.number
      l.from (take l.way-index l.way-items);
}
