use Rattle.std.proofs.Common.{◌∙◌, ap, arith, length, get_or, take, drop, set, ◌++◌, ◌≡◌, ◌<◌, ◌-◌}
use Rattle.std.proofs.lemmas.List.{get_or_default, length-take-le, length-drop, take_rest}
use Rattle.path_server.specs.inner.Blocks.{Block}
use Rattle.path_server.proofs.Cut.{cut_all, cut_first}
use Rattle.path_server.proofs.blocks.cut.Goals as goal

pub returns-clause-done : goal.returns-clause-done
returns-clause-done c =
    let bs = c.args.blocks.now.items in
    let at = c.args.at in
    let lower = c.truncate.new.self in
    let upper = c.extend_from_slice.new.self in
    let within : at < length bs = omega (arith, c.requires.within, c.args.blocks.now.ok.0) in
    let old = c.index_mut.result.now in
    let same : old ≡ get_or bs at old = c.index_mut.ensures.value ∙ ap (λ all. get_or all at old) c.in_ok-insert.ensures.items ∙ cut_first bs at upper old within in
    let long = ap (λ (b : Block). length b.items) same ∙ c.requires.full old in
    let taken = c.index.result.now in
    let read = c.index.ensures in
    let behind = c.in_ok-extend_from_slice.ensures.items ∙ ap (λ front. front ++ take (length c.deref.result.now - 256) (drop 256 c.deref.result.now)) c.in_ok-upper.ensures.items ∙ take_rest c.deref.result.now 256 ∙ ap (drop 256) c.deref.ensures.value in
    let rest = length-drop 256 taken.items in
    let whole = ap (λ (b : Block). length b.items) read ∙ c.requires.full taken in
    let half = ap length behind in
    record {
      lower = lower;
      upper = upper;
      first = λ d. c.truncate.ensures.items ∙ ap (λ (b : Block). take 256 b.items) (same ∙ get_or_default bs at old d within);
      second = λ d. behind ∙ ap (λ (b : Block). drop 256 b.items) (read ∙ get_or_default bs at taken d within);
      halves = (
        ap length c.truncate.ensures.items ∙ length-take-le 256 old.items (omega arith),
        omega (arith, half, rest, whole),
      );
      first_room = omega (arith, c.truncate.ensures.len, c.truncate.ensures.capacity, old.ok.0, old.ok.1, long);
      second_room = omega (arith, half, rest, whole, upper.ok.0, c.in_ok-upper.ensures.exact, c.in_ok-extend_from_slice.ensures.capacity);
      all = ap (λ all. set all at lower) c.in_ok-insert.ensures.items ∙ cut_all bs at lower upper old within;
    }
