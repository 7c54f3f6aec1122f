-- What a look-up gives is live; and sets of the same segments have the same answers.
use Rattle.std.proofs.Common.{◌≡◌, ◌≢◌, ◌<◌, ◌==◌, ℕ, nat_le, not, Bool, true, false, List, Contains, Result, Ok, Err, refl, sym, subst, arith}
use Rattle.std.proofs.lemmas.Bool.{and_parts}
use Rattle.std.proofs.lemmas.Bool.Decides.{nat_tests}
use Rattle.std.proofs.lemmas.List.Elements.{All-weaker, All-contains_itself}
use Rattle.path_segment.specs.Chain.{Chain, IsChainLive}
use Rattle.path_server.specs.Lookup.{Selection, segments_for}
use Rattle.path_server.proofs.Plain.{ups_are_plain, downs_are_plain, cores_are_plain}
use Rattle.refusal.specs.Refusal.{◌>>=◌, check, refused_as}
use Rattle.refusal.specs.declared.fault.OrMemory.TheVariants.{Refused}
use Rattle.refusal.proofs.Steps.{bind_ok, check_ok}
use Rattle.policy_expr.specs.declared.option_fault.OptionFault.{OptionFault}
use Rattle.policy_expr.specs.Options.{WeighedRules, options_at}
use Rattle.combinator.specs.Answer.{AnswerValue, is_limit}
use Rattle.combinator.specs.Lasting.{HaveSame, IsSameSet, AreAllLive}
use Rattle.combinator.proofs.Moments.{options_too}
use Rattle.daemon_cache.specs.inner.Entry.{HasSegmentsOf, IsOwn}
use Rattle.segment_board.specs.Board.{Informed}
use Rattle.daemon_cache.specs.declared.fault.AskFault.{AskFault}
use Rattle.daemon_cache.specs.declared.fault.AskFault.TheVariants as fault
use Rattle.daemon_cache.specs.Request.{RequestValue, IsAnswerToRequest, GivesNoAnswer, lawful_at}

-- what a look-up gives is live at its second
pub found_is_live : (segments : List Chain) (src dst now : ℕ) → AreAllLive (segments_for segments src dst now) now
found_is_live segments src dst now =
    let set = segments_for segments src dst now in
    record {
      ups = All-weaker (Contains set.ups) (λ s. IsChainLive s now)
          (λ s there. ((ups_are_plain segments src dst now s).0 there).live) set.ups
          (All-contains_itself set.ups);
      cores = All-weaker (Contains set.cores) (λ s. IsChainLive s now)
          (λ s there. ((cores_are_plain segments src dst now s).0 there).live) set.cores
          (All-contains_itself set.cores);
      downs = All-weaker (Contains set.downs) (λ s. IsChainLive s now)
          (λ s there. ((downs_are_plain segments src dst now s).0 there).live) set.downs
          (All-contains_itself set.downs);
    }

same_lists : (segments others : List Chain) → segments ≡ others → HaveSame segments others
same_lists segments others same s =
    (subst (λ (l : List Chain). Contains l s) same, subst (λ (l : List Chain). Contains l s) (sym same))

-- an entry's answer answers its request over each set of its segments, all of which are live
pub served_answers : (request : RequestValue) (own set : Selection) (answer : AnswerValue) → IsOwn request own answer
    → HasSegmentsOf own set → AreAllLive set set.moment → IsAnswerToRequest request set answer
served_answers request own set answer is segments live =
    let same : IsSameSet own set = record {
      ups = same_lists own.ups set.ups segments.ups;
      cores = same_lists own.cores set.cores segments.cores;
      downs = same_lists own.downs set.downs segments.downs;
    } in
    let its = is.answers in
    record {
      options = its.options;
      read = its.read;
      answers = options_too own set request.src request.dst same is.live live its.options request.limit answer.used answer.paths its.answers;
    }

-- a lawful request wants a path
pub lawful_wants : (request : RequestValue) → lawful_at request ≡ Ok tt → 0 < request.limit
unfolding lawful_at
lawful_wants request is =
    let checked =
    bind_ok (check (is_limit request.limit) fault.BadLimit) (λ few. refused_as fault.Options (options_at request.texts) >>= (λ options. check (not (request.src == request.dst)) fault.SameAs)) tt is in
    let holds =
    and_parts (nat_le 1 request.limit) (nat_le request.limit 64) (check_ok (is_limit request.limit) fault.BadLimit checked.0 checked.1) in
    let least : nat_le 1 request.limit ≡ true = holds.0 in
    grind (arith, nat_tests)

-- no request is refused as NoEntry
no_entry : (b c : Bool) (read : Result (List WeighedRules) OptionFault)
    → (check b fault.BadLimit >>= (λ few. refused_as fault.Options read >>= (λ options. check c fault.SameAs))) ≢ Err fault.NoEntry
no_entry false c read e = absurd cc
no_entry true c (Err refusal) e = absurd cc
no_entry true false (Ok options) e = absurd cc
no_entry true true (Ok options) e = absurd cc

-- a request that is refused gets no answer, of which the reader sees nothing
pub gives_none : (request : RequestValue) (reader : Informed) (refusal : AskFault)
    → lawful_at request ≡ Err refusal → GivesNoAnswer (Refused refusal) request reader reader
unfolding lawful_at
gives_none request reader fault.BadLimit is = (is, refl)
gives_none request reader (fault.Options refusal) is = (is, refl)
gives_none request reader fault.SameAs is = (is, refl)
gives_none request reader fault.NoEntry is =
    absurd (no_entry (is_limit request.limit) (not (request.src == request.dst)) (options_at request.texts) is)

moment_is_asked : (segments : List Chain) (src dst now : ℕ) → (segments_for segments src dst now).moment ≡ now
unfolding segments_for
moment_is_asked segments src dst now = refl

-- what a look-up gave is live at its own second
pub set_is_live : (set : Selection) (segments : List Chain) (src dst now : ℕ)
    → set ≡ segments_for segments src dst now → AreAllLive set set.moment
set_is_live set segments src dst now is =
    subst (λ (s : Selection). AreAllLive s s.moment) (sym is)
    (subst (AreAllLive (segments_for segments src dst now)) (sym (moment_is_asked segments src dst now)) (found_is_live segments src dst now))
