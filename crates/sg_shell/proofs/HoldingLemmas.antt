-- The named views are the open ones, line by line.
use Rattle.std.proofs.Common.{◌≡◌, ◌≤◌, ◌<◌, ◌+◌, ℕ, Bool, true, false, cond, List, [], ◌∷◌, ◌++◌}
use Rattle.std.proofs.Common.{length, suc, Option, Some, None, refl, sym, ap, ◌∙◌, subst, arith}
use Rattle.std.specs.Prelude.{nat_le, not, bytes_eq}
use Rattle.std.proofs.lemmas.Bool.Decides.{nat_tests}
use Rattle.std.proofs.lemmas.List.{length-append, map-append}
use Rattle.sg_answers.proofs.TakingLemmas.{filter_at_most}
use Rattle.sg_context.specs.Queries.{PlainQuery}
use Rattle.sg_paths.specs.Operations.{PlainOp}
use Rattle.index_core.specs.declared.limits.TheConstants.{MOST_OPERATIONS, MOST_OPEN_VIEWS}
use Rattle.index_core.specs.Histories.{Record, View, begun_views}
use Rattle.index_core.specs.Records.{accepted, open_views}
use Rattle.index_core.specs.Calls.{after_accept, after_freeze, after_begin, after_end, begun_by}
use Rattle.index_core.specs.Calls.{released_by_end}
use Rattle.index_core.proofs.ListLemmas.{all_weaker}
use Rattle.index_shared.specs.Offers.{after_flush}
use Rattle.index_shared.proofs.ListLemmas.{without_newest}
use Rattle.wire_json.specs.Commands.{Command, accepts, suggests, opens, closes, flushes}
use Rattle.wire_json.specs.Commands.{merges, refused}
use Rattle.wire_replies.specs.Replies.{numbered, failed}
use Rattle.wire_replies.specs.declared.error_kind.ErrorKind.TheVariants.{Full, Views as NoRoom}
use Rattle.sg_shell.specs.Transcripts.{Line, Said}
use Rattle.sg_shell.specs.Workers.{Open, Worker, untouched, with_seen, Step, says}
use Rattle.sg_shell.specs.Workers.{after_merge, named, accept_step, begin_step}
use Rattle.sg_shell.specs.Workers.{query_step, named_step, open_step, close_step, step}
use Rattle.sg_shell.specs.Runs.{Ran}
use Rattle.sg_shell.specs.RunLaws.{NamedViewsAreOpen}
use Rattle.sg_shell.specs.Working.{Quiet, Views, views_of, Holds}
use Rattle.sg_shell.proofs.PlanLemmas.{quiet_merge}
use Rattle.sg_shell.proofs.QuietLemmas.{quiet_freeze, quiet_accept, quiet_flush}
use Rattle.sg_shell.proofs.OpenLemmas.{quiet_views, begin_views, end_views, found_view, close_one}
use Rattle.sg_shell.proofs.OpenLemmas.{apart_without, apart_more, newest}

-- a line that begins a view, by whether there is room for one
pub begin_cases : (P : Step → Type 0) (n : ℕ) (w : Worker) (r : Record) (begins : Step)
    → (MOST_OPEN_VIEWS ≤ length (open_views r) → P (says (failed n NoRoom) (with_seen r w)))
    → (length (open_views r) < MOST_OPEN_VIEWS → P begins)
    → P (begin_step n w r begins)
begin_cases P n w r begins full room =
    by_test (nat_le MOST_OPEN_VIEWS (length (open_views r))) refl
  where
    by_test : (b : Bool) → nat_le MOST_OPEN_VIEWS (length (open_views r)) ≡ b
        → P (cond b (says (failed n NoRoom) (with_seen r w)) begins)
    by_test true is = full (grind (arith, nat_tests, is))
    by_test false is = room (grind (arith, nat_tests, is))

pub quiet_holds : (w : Worker) (r : Record) → Quiet w.seen r → Holds w → Holds (with_seen r w)
quiet_holds w r quiet holds = record {
  views = quiet_views w.seen r (views_of w.kept) quiet holds.views;
  apart = holds.apart;
  few = holds.few;
}

-- a flush keeps the open views
pub flush_open : (caller : ℕ) (w : Worker) → Holds w
    → open_views (after_flush caller w.seen) ≡ views_of w.kept
flush_open caller w holds =
    (quiet_views w.seen (after_flush caller w.seen) (views_of w.kept)
    (quiet_flush caller w.seen) holds.views).are_open

length_views : (kept : List Open) → length (views_of kept) ≡ length kept
length_views [] = refl
length_views (o ∷ os) = ap suc (length_views os)

-- as many are open as are named
pub open_count : (caller : ℕ) (w : Worker) → Holds w
    → length (open_views (after_flush caller w.seen)) ≡ length w.kept
open_count caller w holds =
    ap (λ (vs : List View). length vs) (flush_open caller w holds) ∙ length_views w.kept

-- what is begun is open, beside those before
pub begun_holds : (caller : ℕ) (r : Record) (kept : List View) → Views r.history kept
    → Views (after_begin caller r).history (kept ++ begun_by caller r ∷ [])
begun_holds caller r kept views =
    begin_views (after_freeze caller r) kept (begun_by caller r) refl
    (quiet_views r (after_freeze caller r) kept (quiet_freeze caller r) views)

-- begun and ended again
pub passed_holds : (caller : ℕ) (r : Record) (kept : List View) → Views r.history kept
    → Views (after_end caller (begun_by caller r).view (after_begin caller r)).history kept
passed_holds caller r kept views =
    let v = begun_by caller r in
    let later = after_begin caller r in
    let all_frozen = after_freeze caller r in
    let before = quiet_views r all_frozen kept (quiet_freeze caller r) views in
    let begun = begun_holds caller r kept views in
    let n = length (begun_views all_frozen.history) in
    let below = all_weaker (λ (w : View). w.view ≤ n) (λ w. w.view < v.view)
    (λ w less. omega (arith, less)) kept before.below in
    subst (Views (after_end caller v.view later).history)
    (without_newest (λ (w : View). w.view) v.view kept v below refl)
    (end_views later (kept ++ v ∷ []) caller v.view (released_by_end caller v.view later)
    (newest kept v (length (begun_views later.history)) begun.below) begun)

module _ (caller n : ℕ) (w : Worker) (holds : Holds w) where
  abbrev After : Step → Type 0
  After s = Holds s.after

  flushed : Holds (with_seen (after_flush caller w.seen) w)
  flushed = quiet_holds w (after_flush caller w.seen) (quiet_flush caller w.seen) holds

  holds_accept : (operation : PlainOp) → After (accept_step caller n operation w)
  holds_accept operation = by_test (nat_le MOST_OPERATIONS (accepted w.seen))
    where
      by_test : (b : Bool) → After (cond b (says (failed n Full) w)
          (says (numbered n (accepted w.seen + 1))
          (with_seen (after_accept caller operation w.seen) w)))
      by_test true = holds
      by_test false =
          quiet_holds w (after_accept caller operation w.seen)
          (quiet_accept caller operation w.seen) holds

  holds_query : (q : PlainQuery) → After (query_step caller n q w)
  holds_query q =
      begin_cases After n w (after_flush caller w.seen) _ (λ full. flushed) (λ room. record {
        views = passed_holds caller (after_flush caller w.seen) (views_of w.kept) flushed.views;
        apart = holds.apart;
        few = holds.few;
      })

  holds_named : (q : PlainQuery) (o : Option Open) → After (named_step n q o w)
  holds_named q None = holds
  holds_named q (Some o) = holds

  holds_open : (name : List ℕ) (o : Option Open) → named name w.kept ≡ o
      → After (open_step caller n name o w)
  holds_open name (Some o) is = holds
  holds_open name None is =
      let r = after_flush caller w.seen in
      let v = begun_by caller r in
      let new : Open = record { name = name; view = v } in
      let before = quiet_views r (after_freeze caller r) (views_of w.kept)
      (quiet_freeze caller r) flushed.views in
      let more : length (begun_views (after_freeze caller r).history) < v.view = omega arith in
      begin_cases After n w r _ (λ full. flushed) (λ room. record {
        views = subst (Views (after_begin caller r).history)
            (sym (map-append (λ (p : Open). p.view) w.kept (new ∷ [])))
            (begun_holds caller r (views_of w.kept) flushed.views);
        apart = apart_more (length (begun_views (after_freeze caller r).history)) new w.kept is
            before.below more holds.apart;
        few = (let count = open_count caller w holds in
            let all = length-append w.kept (new ∷ []) in omega (arith, count, all, room));
      })

  holds_close : (name : List ℕ) (o : Option Open) → named name w.kept ≡ o
      → After (close_step caller n name o w)
  holds_close name None is = holds
  holds_close name (Some o) is = record {
    views = subst (Views (after_end caller o.view.view w.seen).history)
        (sym (close_one name w.kept o is holds.apart))
        (end_views w.seen (views_of w.kept) caller o.view.view
        (released_by_end caller o.view.view w.seen)
        (found_view (λ v. v.view ≤ length (begun_views w.seen.history)) name w.kept o is
        holds.views.below) holds.views);
    apart = apart_without name w.kept holds.apart;
    few = (let fewer = filter_at_most (λ (p : Open). not (bytes_eq p.name name)) w.kept in
        let most = holds.few in omega (arith, fewer, most));
  }

  pub holds_step : (c : Command) → After (step caller n c w)
  holds_step (accepts lane operation) = holds_accept operation
  holds_step (suggests lane q None) = holds_query q
  holds_step (suggests lane q (Some name)) = holds_named q (named name w.kept)
  holds_step (opens lane name) = holds_open name (named name w.kept) refl
  holds_step (closes lane name) = holds_close name (named name w.kept) refl
  holds_step (flushes lane) = flushed
  holds_step (merges lane) =
      quiet_holds w (after_merge caller w.seen) (quiet_merge caller w.seen) holds
  holds_step (refused kind) = holds
  holds_step other = holds

pub holds_untouched : Holds untouched
holds_untouched = record {
  views = record { are_open = refl; ended = tt; below = tt };
  apart = tt;
  few = omega arith;
}

pub holds_all : (caller : ℕ) (lines : List Line) (t : List Said) (w w' : Worker) → Holds w
    → Ran caller w lines t w' → Holds w'
holds_all caller [] t w w' holds ran = subst Holds (sym ran.1) holds
holds_all caller (line ∷ lines) t w w' holds ran =
    holds_all caller lines ran.1 (step caller line.number line.command w).after w'
    (holds_step caller line.number w holds line.command) ran.4

pub named_open : NamedViewsAreOpen
named_open caller lines t w ran =
    (holds_all caller lines t untouched w holds_untouched ran).views.are_open
