use Rattle.std.proofs.Common.{◌≡◌, true, false, List, All, Contains, sym, ap, subst, ◌∙◌, arith}
use Rattle.path_verifier.specs.Piece.{PieceValue}
use Rattle.path_verifier.specs.Accepted.{AreLive}
use Rattle.path_verifier.specs.Walk.{walk_of}
use Rattle.combinator.specs.Candidate.{IsCandidate, IsOf}
use Rattle.combinator.specs.inner.Front.{groups_in}
use Rattle.combinator.specs.inner.Gathered.{}
use Rattle.combinator.specs.inner.Group.{heads_of}
use Rattle.combinator.proofs.Choices.{heads_there}
use Rattle.combinator.proofs.Facts.{all_twice}
use Rattle.combinator.proofs.Gathered.{listed_there, listed_where_none, still_listed}
use Rattle.combinator.proofs.Growing.{grown, not_once, restored, roomy}
use Rattle.combinator.proofs.Over.{each_candidate, live_there, own_there, path_of}
use Rattle.combinator.proofs.walks.Gathering.add_walk.Goals as goal

pub go_on_by-requires-clause-few : goal.go_on_by-requires-clause-few
go_on_by-requires-clause-few g c =
    let on = c.requires.walk in
    roomy on.front c.args.group.now (groups_in c.args.front.now) on.same c.args.walk.now on.own c.requires.few
    c.piece.result (c.piece.ensures.value ∙ c.head.ensures)

pub returns-then-not-go_on_by-clause-walk : goal.returns-then-not-go_on_by-clause-walk
returns-then-not-go_on_by-clause-walk g c =
    let on = c.requires.walk in
    let groups = groups_in c.args.front.now in
    let piece = c.piece.ensures.value ∙ c.head.ensures in
    c.shorten.ensures
    ∙ restored on.front c.args.group.now groups on.same c.args.walk.now on.own c.go_on_by.new.self c.len-len.result
    (c.go_on_by.ensures.walk ∙ grown on.front c.args.group.now groups on.same c.args.walk.now on.own c.piece.result piece)
    c.len-len.ensures

pub returns-then-not-go_on_by-clause-listed : goal.returns-then-not-go_on_by-clause-listed
returns-then-not-go_on_by-clause-listed g c =
    let question = c.args.self.now.ask.now in
    let on = c.requires.walk in
    let groups = groups_in c.args.front.now in
    let piece = c.piece.ensures.value ∙ c.head.ensures in
    listed_where_none question c.args.self.now.limit c.args.walks.now groups
    (all_twice question groups c.requires.front.are
    (not_once on.front c.args.group.now groups on.same c.args.walk.now on.own c.go_on_by.new.self
    (c.go_on_by.ensures.walk ∙ grown on.front c.args.group.now groups on.same c.args.walk.now on.own c.piece.result piece)
    c.go_on_by.result c.if-not-go_on_by.true (c.go_on_by.ensures.once c.requires.once)))

pub may_send-requires-clause-once : goal.may_send-requires-clause-once
may_send-requires-clause-once g c = (c.go_on_by.ensures.once c.requires.once).0 c.if-not-go_on_by.false

pub may_send-requires-clause-own : goal.may_send-requires-clause-own
may_send-requires-clause-own g c =
    let question = c.args.self.now.ask.now in
    let groups = groups_in c.args.front.now in
    subst (All (IsOf question.set)) (sym (c.pieces.ensures ∙ c.heads.ensures))
    (own_there question groups (heads_of groups) c.requires.front.own (heads_there groups c.requires.front.are))

pub may_send-requires-clause-live : goal.may_send-requires-clause-live
may_send-requires-clause-live g c =
    let question = c.args.self.now.ask.now in
    let groups = groups_in c.args.front.now in
    subst (AreLive question.set.moment) (sym (c.pieces.ensures ∙ c.heads.ensures))
    (live_there question.set.moment groups (heads_of groups) c.requires.front.live (heads_there groups c.requires.front.are))

pub may_send-requires-clause-walk : goal.may_send-requires-clause-walk
may_send-requires-clause-walk g c =
    let on = c.requires.walk in
    c.go_on_by.ensures.walk
    ∙ grown on.front c.args.group.now (groups_in c.args.front.now) on.same c.args.walk.now on.own
    c.piece.result (c.piece.ensures.value ∙ c.head.ensures)
    ∙ ap walk_of (sym (c.pieces.ensures ∙ c.heads.ensures))

pub returns-then-not-may_send-clause-walk : goal.returns-then-not-may_send-clause-walk
returns-then-not-may_send-clause-walk g c =
    let on = c.requires.walk in
    let groups = groups_in c.args.front.now in
    let piece = c.piece.ensures.value ∙ c.head.ensures in
    c.shorten-then-not-may_send.ensures
    ∙ restored on.front c.args.group.now groups on.same c.args.walk.now on.own c.go_on_by.new.self c.len-len.result
    (c.go_on_by.ensures.walk ∙ grown on.front c.args.group.now groups on.same c.args.walk.now on.own c.piece.result piece)
    c.len-len.ensures

pub returns-then-not-may_send-clause-listed : goal.returns-then-not-may_send-clause-listed
returns-then-not-may_send-clause-listed g c =
    let question = c.args.self.now.ask.now in
    let groups = groups_in c.args.front.now in
    let front = c.requires.front in
    listed_where_none question c.args.self.now.limit c.args.walks.now groups
    (λ pieces of header candidate. (
    let heads = each_candidate question groups front.are front.live front.own (heads_of groups) (heads_there groups front.are) pieces header of candidate in
    let yes = c.may_send.ensures.1
    (subst (λ (ps : List PieceValue). IsCandidate question (path_of ps)) (sym (c.pieces.ensures ∙ c.heads.ensures)) heads) in
    let clash : true ≡ false = sym yes ∙ c.if-not-may_send.true in
    cc))

pub returns-clause-walk : goal.returns-clause-walk
returns-clause-walk g c =
    let on = c.requires.walk in
    let groups = groups_in c.args.front.now in
    let piece = c.piece.ensures.value ∙ c.head.ensures in
    c.shorten-2.ensures
    ∙ restored on.front c.args.group.now groups on.same c.args.walk.now on.own c.go_on_by.new.self c.len-len.result
    (c.go_on_by.ensures.walk ∙ grown on.front c.args.group.now groups on.same c.args.walk.now on.own c.piece.result piece)
    c.len-len.ensures

pub returns-clause-gathered : goal.returns-clause-gathered
returns-clause-gathered g c =
    let question = c.args.self.now.ask.now in
    let on = c.requires.walk in
    let groups = groups_in c.args.front.now in
    let piece = c.piece.ensures.value ∙ c.head.ensures in
    let few = c.in_ok-take_in.ensures.few in
    let room = c.requires.room in
    record {
      order = c.in_ok-take_in.ensures.order;
      few = omega (arith, few, room);
      each = c.in_ok-take_in.ensures.each question c.requires.gathered.each (record {
        path = path_of c.pieces.result;
        candidate = c.may_send.ensures.0 c.if-not-may_send.false;
        same = ap walk_of (c.pieces.ensures ∙ c.heads.ensures)
            ∙ sym (c.as_slice.ensures.value ∙ c.go_on_by.ensures.walk
            ∙ grown on.front c.args.group.now groups on.same c.args.walk.now on.own c.piece.result piece);
      });
    }

pub returns-clause-still : goal.returns-clause-still
returns-clause-still g c =
    still_listed c.args.self.now.ask.now c.args.self.now.limit c.args.walks.now c.take_in.new.self c.requires.room
    c.in_ok-take_in.ensures.others

pub returns-clause-listed : goal.returns-clause-listed
returns-clause-listed g c =
    let on = c.requires.walk in
    let groups = groups_in c.args.front.now in
    let piece = c.piece.ensures.value ∙ c.head.ensures in
    let walk : c.as_slice.result.now ≡ walk_of (heads_of groups) = c.as_slice.ensures.value ∙ c.go_on_by.ensures.walk
    ∙ grown on.front c.args.group.now groups on.same c.args.walk.now on.own c.piece.result piece in
    listed_there c.args.self.now.ask.now c.args.self.now.limit c.take_in.new.self groups c.requires.front.are
    (subst (Contains c.take_in.new.self) walk c.in_ok-take_in.ensures.there)
