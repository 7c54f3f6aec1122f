-- The AS stands where its index says, and one that has no index is not listed.
use Rattle.std.proofs.Common.{◌≡◌, ◌∙◌, ℕ, ◌<◌, ltb, List, [], length, get_or, Option, Some, None, Bor, sym, ap}
use Rattle.std.specs.Prelude.{is_some, IfSome, slice_get}
use Rattle.std.specs.Option.{option_copied}
use mathlib.Core.Bool.{true≢false}
use Rattle.std.proofs.lemmas.Bool.{lt-ltb}
use Rattle.std.proofs.lemmas.Option.{slice_get-get_or}
use Rattle.scion_topology.specs.declared.network.AsEntry.{AsEntry}
use Rattle.scion_topology.specs.Network.{Network}
use Rattle.scion_topology.specs.Index.{value_of_index}
use Rattle.scion_topology.proofs.Indexes.{index_in-some, unlisted}
use Rattle.scion_topology.proofs.as_lookup.AsLookup.get.Goals as goal

-- what stands at a place that is within the list
got : (ases : List AsEntry) (k : ℕ) (o : Option (Bor AsEntry)) → is_some o ≡ ltb k (length ases) → IfSome o (λ x. x.now ≡ get_or ases k x.now) → k < length ases → option_copied o ≡ slice_get ases k
got ases k None some at below = absurd (true≢false (sym (lt-ltb k (length ases) below) ∙ sym some))
got ases k (Some x) some at below = ap Some at ∙ sym (slice_get-get_or ases k x.now below)

pub returns-in-Some : goal.returns-in-Some
returns-in-Some c =
    let n : Network = record { ases = c.self.inside.ases.now; links = [] } in
    let known = rw c.in-Ok.is at c.self.invariant in
    let finds = index_in-some n c.args.ia (value_of_index c.in-Some.index.now) (sym (known c.args.ia) ∙ sym c.in-Some.ensures) in
    let h = c.get-in-Some.ensures.lookup in
    rw (← c.self.view_is) (got n.ases c.in-Some.index.now.position c.get-in-Some.result h.0 h.1 finds.within ∙ finds.stands)

pub returns-in-None : goal.returns-in-None
returns-in-None c =
    let n : Network = record { ases = c.self.inside.ases.now; links = [] } in
    let known = rw c.in-Ok.is at c.self.invariant in
    rw (← c.self.view_is) (sym (unlisted n c.args.ia (sym (known c.args.ia) ∙ sym c.in-None.ensures)))
