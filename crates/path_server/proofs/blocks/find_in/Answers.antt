use Rattle.std.proofs.Common.{rules, ◌∙◌, ap, sym, subst, arith, length, get_or, ◌+◌, ◌<◌, ◌≤◌}
use Rattle.std.specs.List.{AllWithin}
use Rattle.std.specs.List.Sorted.{IsNonDecreasingBy}
use Rattle.std.proofs.lemmas.List.Sorted.{IsPartitionPoint-from_clause}
use Rattle.path_server.specs.inner.Blocks.{Block, begins_within}
use Rattle.path_server.specs.Index.{rank_at}
use Rattle.path_server.specs.inner.Index.{ends_number}
use Rattle.path_server.proofs.Found.{block_rises, begins_parted, found_below, found_rest, found_none}
use Rattle.path_server.proofs.blocks.find_in.Goals as goal

pub end_of-requires : goal.end_of-requires
end_of-requires c =
    let bs = c.args.blocks.now in
    let d = c.index-blocks-block.result in
    let same = c.deref.ensures.value ∙ ap (λ (b : Block). b.items) c.index-blocks-block.is in
    subst (IsNonDecreasingBy (rank_at c.args.segments.now)) (sym same)
    (block_rises c.args.segments.now bs c.in-Some.block d c.requires.rises (search rules))

pub returns-in-Some-clause-below : goal.returns-in-Some-clause-below
returns-in-Some-clause-below c =
    let segments = c.args.segments.now in
    let bs = c.args.blocks.now in
    let bound = (ends_number c.args.ends) in
    let b = c.in-Some.block in
    let d = c.index-blocks-block.result in
    let parted = begins_parted segments bs bound c.requires.rises c.requires.filled in
    let point =
    IsPartitionPoint-from_clause (λ (b : Block). begins_within segments bound b.items) _ _ c.partition_point-starts.ensures.partitioned parted (λ a r q k. search rules) in
    let same = c.deref.ensures.value ∙ ap (λ (b : Block). b.items) c.index-blocks-block.is in
    let within : b < length bs = omega (arith, c.in-Some.ensures, c.partition_point-starts.ensures.bound) in
    let low : c.end_of.result ≤ length (get_or bs b d).items = omega (arith, c.end_of.ensures.within, ap length same) in
    found_below segments bs bound b c.end_of.result d c.requires.rises c.requires.filled within
    (point.0 b d (omega arith) (omega (arith, c.in-Some.ensures))) low
    (subst (λ some. AllWithin (λ place. rank_at segments place ≤ bound) some 0 c.end_of.result) same c.end_of.ensures.below)
    (subst (λ some. AllWithin (λ place. bound < rank_at segments place) some c.end_of.result (length some)) same c.end_of.ensures.rest)

pub returns-in-Some-clause-rest : goal.returns-in-Some-clause-rest
returns-in-Some-clause-rest c =
    let segments = c.args.segments.now in
    let bs = c.args.blocks.now in
    let bound = (ends_number c.args.ends) in
    let b = c.in-Some.block in
    let d = c.index-blocks-block.result in
    let parted = begins_parted segments bs bound c.requires.rises c.requires.filled in
    let point =
    IsPartitionPoint-from_clause (λ (b : Block). begins_within segments bound b.items) _ _ c.partition_point-starts.ensures.partitioned parted (λ a r q k. search rules) in
    let same = c.deref.ensures.value ∙ ap (λ (b : Block). b.items) c.index-blocks-block.is in
    let within : b < length bs = omega (arith, c.in-Some.ensures, c.partition_point-starts.ensures.bound) in
    let low : c.end_of.result ≤ length (get_or bs b d).items = omega (arith, c.end_of.ensures.within, ap length same) in
    found_rest segments bs bound b c.end_of.result d c.requires.rises within low
    (subst (λ some. AllWithin (λ place. bound < rank_at segments place) some c.end_of.result (length some)) same c.end_of.ensures.rest)
    (λ more. point.1 (b + 1) d (omega (arith, c.in-Some.ensures)) more)

pub returns-in-None-clause-rest : goal.returns-in-None-clause-rest
returns-in-None-clause-rest c =
    let segments = c.args.segments.now in
    let bs = c.args.blocks.now in
    let bound = (ends_number c.args.ends) in
    let parted = begins_parted segments bs bound c.requires.rises c.requires.filled in
    let point =
    IsPartitionPoint-from_clause (λ (b : Block). begins_within segments bound b.items) _ _ c.partition_point-starts.ensures.partitioned parted (λ a r q k. search rules) in
    found_none segments bs bound c.requires.rises (λ d some. point.1 0 d (omega (arith, c.in-None.ensures)) some)
