use Rattle.std.proofs.Common.{◌≡◌, true, List, inl, inr, length, sym, ◌∙◌, arith, refl}
use Rattle.policy_expr.specs.declared.ends.Ends.{Ends}
use Rattle.policy_expr.specs.declared.table.Line.{Line}
use Rattle.policy_expr.specs.Language.{Tree, optional, repeated, once_or_more}
use Rattle.policy_expr.specs.Table.{Adds}
use Rattle.policy_expr.specs.inner.Table.{Links}
use Rattle.policy_expr.proofs.Runs.{or_nothing, or_nothing_words, repeated_words, once_words}
use Rattle.policy_expr.proofs.Tables.{iff_trans, adds_hop, adds_followed, adds_either, adds_again, all_item}
use Rattle.policy_expr.proofs.node.SeqNode.+add_lines.Goals as goal

-- ---- the operators of one item

-- a part or nothing
adds_optional : (a : Tree) (old new : List Line) (x z : Ends) → Adds a old new x → z ≡ record x { has_empty = true } → Adds (optional a) old new z
adds_optional a old new x z item is = rw is (record {
  more = item.more;
  few = omega (arith, item.few);
  meets = item.meets;
  next = item.next;
  among = item.among;
  first = item.first;
  last = item.last;
  words = λ w. iff_trans (or_nothing_words new x w) (
    λ e. elim e [ inl none ↦ inl none | inr word ↦ inr ((item.words w).0 word) ],
    λ e. elim e [ inl none ↦ inl none | inr word ↦ inr ((item.words w).1 word) ],
  );
})

-- an item that may begin again behind its end: any number of times, or at least once
module _ (a : Tree) (old mid new : List Line) (x : Ends) (item : Adds a old mid x) (links : Links mid new x.last x.first) where
  adds_repeated : (z : Ends) → z ≡ record x { has_empty = true } → Adds (repeated a) old new z
  adds_repeated z is = rw is (adds_again a old mid new x item links (repeated a) (or_nothing x) refl (λ k has. has) (λ k has. has)
      (λ w. iff_trans (repeated_words mid new x links w) (
        λ p. (p.0, p.1, (all_item a old mid new x item links p.0).0 p.2),
        λ p. (p.0, p.1, (all_item a old mid new x item links p.0).1 p.2),
      )))

  adds_once_or_more : Adds (once_or_more a) old new x
  adds_once_or_more = adds_again a old mid new x item links (once_or_more a) x refl (λ k has. has) (λ k has. has)
      (λ w. iff_trans (once_words mid new x links w) (
        λ p. (p.0, p.1, p.2, (all_item a old mid new x item links p.0).0 p.3),
        λ p. (p.0, p.1, p.2, (all_item a old mid new x item links p.0).1 p.3),
      ))

-- ---- the goals

pub followed-requires : goal.followed-requires
followed-requires g t c = λ k has.
    let below = (c.in_ok-front-in-Then.ensures.last k has).1 in
    let late = c.add_lines-in-Then.new.lines in omega (arith, below, late.ok.0, c.in_ok-back-in-Then.ensures.more)

pub repeated-requires : goal.repeated-requires
repeated-requires g t c = λ k has.
    let below = (c.in_ok-item-in-Repeated.ensures.last k has).1 in
    let lines = c.add_lines-in-Repeated.new.lines in omega (arith, below, lines.ok.0)

pub once_or_more-requires : goal.once_or_more-requires
once_or_more-requires g t c = λ k has.
    let below = (c.in_ok-item-in-OnceOrMore.ensures.last k has).1 in
    let lines = c.add_lines-in-OnceOrMore.new.lines in omega (arith, below, lines.ok.0)

pub returns-in_ok-push-in-Hop : goal.returns-in_ok-push-in-Hop
returns-in_ok-push-in-Hop g t c =
    let count : c.len.result ≡ length c.args.lines.now.items = omega (arith, c.len.ensures, c.args.lines.now.ok.0) in
    rw (c.in-Hop.is, c.of_hop.ensures) (adds_hop _ _ _ _ _ _ refl c.in_ok-push-in-Hop.ensures.items
    (λ k. (λ has. (c.only-only.ensures k).0 has ∙ count, λ is. (c.only-only.ensures k).1 (is ∙ sym count))) c.none-next.ensures)

pub returns-in_ok-back-in-Then : goal.returns-in_ok-back-in-Then
returns-in_ok-back-in-Then g t c = rw c.in-Then.is
    (adds_followed _ _ _ _ _ _ _ _ _ (rw c.deref.ensures at c.in_ok-front-in-Then.ensures) (rw c.deref-in-Then.ensures at c.in_ok-back-in-Then.ensures)
    c.followed.ensures.links c.followed.ensures.ends)

pub returns-in_ok-other-in-Or : goal.returns-in_ok-other-in-Or
returns-in_ok-other-in-Or g t c = rw c.in-Or.is
    (adds_either _ _ _ _ _ _ _ _ (rw c.deref-in-Or.ensures at c.in_ok-one-in-Or.ensures) (rw c.deref-in-Or-2.ensures at c.in_ok-other-in-Or.ensures) (record { first = c.or.ensures.first; last = c.or.ensures.last; empty = c.or.ensures.empty }))

pub returns-in_ok-item-in-Optional : goal.returns-in_ok-item-in-Optional
returns-in_ok-item-in-Optional g t c = rw c.in-Optional.is
    (adds_optional _ _ _ _ _ (rw c.deref-in-Optional.ensures at c.in_ok-item-in-Optional.ensures) c.or_nothing.ensures)

pub returns-in_ok-item-in-Repeated : goal.returns-in_ok-item-in-Repeated
returns-in_ok-item-in-Repeated g t c = rw c.in-Repeated.is
    (adds_repeated _ _ _ _ _ (rw c.deref-in-Repeated.ensures at c.in_ok-item-in-Repeated.ensures)
    c.repeated.ensures.links _ c.repeated.ensures.ends)

pub returns-in_ok-item-in-OnceOrMore : goal.returns-in_ok-item-in-OnceOrMore
returns-in_ok-item-in-OnceOrMore g t c = rw (c.in-OnceOrMore.is, c.once_or_more.ensures.ends)
    (adds_once_or_more _ _ _ _ _ (rw c.deref-in-OnceOrMore.ensures at c.in_ok-item-in-OnceOrMore.ensures)
    c.once_or_more.ensures.links)
