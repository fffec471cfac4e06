-- Between lines no merge is open: one begins and ends in its line, and nothing else begins one.
use Rattle.std.proofs.Common.{◌≡◌, ◌+◌, ◌||◌, ℕ, Bool, true, false, cond, not, nat_eq, List, []}
use Rattle.std.proofs.Common.{◌∷◌, ◌++◌, Option, Some, None, refl, sym, ap, ◌∙◌, subst}
use Rattle.std.specs.Prelude.{filter, fold, nat_le, option_map}
use Rattle.std.specs.List.{filter_map}
use Rattle.std.proofs.lemmas.List.Elements.{filter-append, filter_map-append}
use Rattle.std.proofs.lemmas.List.Folds.{list_any-append}
use Rattle.sg_context.specs.Queries.{PlainQuery}
use Rattle.sg_paths.specs.Operations.{PlainOp}
use Rattle.index_core.specs.declared.limits.TheConstants.{MOST_OPERATIONS, BATCH_OPERATIONS}
use Rattle.index_core.specs.Histories.{accept, built, live_docs_updated, merge_begin}
use Rattle.index_core.specs.Histories.{Record, Merge, is_among, closed_merge}
use Rattle.index_core.specs.Records.{with_event, accepted, frozen, buffered, current, begun_merges}
use Rattle.index_core.specs.Records.{open_merges, next_merge}
use Rattle.index_core.specs.Calls.{with_operation, after_accept, after_freeze, after_begin}
use Rattle.index_core.specs.Calls.{after_end, begun_by}
use Rattle.index_core.specs.CurrentPieces.{is_unbuilt, after_built, is_behind}
use Rattle.index_core.specs.Merges.{merge_plan}
use Rattle.index_core.specs.MergeCalls.{next_merge_by, after_begin_of}
use Rattle.index_core.specs.MergeCalls.{ending_merge, released_by_merge, after_commit}
use Rattle.index_core.proofs.HistoryLemmas.{skips}
use Rattle.index_core.proofs.EventLemmas.{frozen_after, merges-more, merges-skip, open_merges-skip}
use Rattle.index_core.proofs.GenerationLemmas.{among_itself}
use Rattle.index_shared.specs.Offers.{refreshed, after_flush}
use Rattle.wire_json.specs.Commands.{Command, accepts, suggests, opens, closes, flushes, merges}
use Rattle.wire_replies.specs.Replies.{numbered, failed}
use Rattle.wire_replies.specs.declared.error_kind.ErrorKind.TheVariants.{Full}
use Rattle.sg_shell.specs.Transcripts.{Line, Said}
use Rattle.sg_shell.specs.Workers.{Open, Worker, untouched, with_seen, Step, says}
use Rattle.sg_shell.specs.Workers.{after_merge_of, after_merge, named, accept_step}
use Rattle.sg_shell.specs.Workers.{query_step, named_step, open_step, close_step, step}
use Rattle.sg_shell.specs.Runs.{Ran}
use Rattle.sg_shell.specs.RunLaws.{NoMergeStaysOpen}
use Rattle.sg_shell.proofs.HoldingLemmas.{begin_cases}

-- ---- what begins and ends no merge

open_if : (b : Bool) (r one other : Record) → open_merges one ≡ open_merges r
    → open_merges other ≡ open_merges r → open_merges (cond b one other) ≡ open_merges r
open_if true r one other p q = p
open_if false r one other p q = q

open_freeze : (caller : ℕ) (r : Record) → open_merges (after_freeze caller r) ≡ open_merges r
open_freeze caller r =
    open_if (nat_eq (buffered r) 0) r r _ refl (open_merges-skip r.history _ (λ n. refl) refl)

open_accept : (caller : ℕ) (op : PlainOp) (r : Record)
    → open_merges (after_accept caller op r) ≡ open_merges r
open_accept caller op r =
    let added = with_operation caller op r in
    let one : open_merges added ≡ open_merges r =
    open_merges-skip r.history (accept caller (accepted r + 1)) (λ n. refl) refl in
    open_if (nat_eq (buffered added) BATCH_OPERATIONS) r (after_freeze caller added) added
    (open_freeze caller added ∙ one) one

open_refreshed : (caller upto : ℕ) (r : Record) (g : ℕ)
    → open_merges (refreshed caller upto r g) ≡ open_merges r
open_refreshed caller upto r g =
    let has = after_built caller g r in
    open_if (is_behind has g upto) has _ has
    (open_merges-skip has.history (live_docs_updated caller g upto) (λ n. refl) refl) refl
    ∙ open_if (is_unbuilt r g) r _ r
    (open_merges-skip r.history (built caller g) (λ n. refl) refl) refl

open_all : (caller upto : ℕ) (gs : List ℕ) (r : Record)
    → open_merges (fold (refreshed caller upto) r gs) ≡ open_merges r
open_all caller upto [] r = refl
open_all caller upto (g ∷ gs) r =
    open_all caller upto gs (refreshed caller upto r g) ∙ open_refreshed caller upto r g

open_flush : (caller : ℕ) (r : Record) → open_merges (after_flush caller r) ≡ open_merges r
open_flush caller r =
    let all_frozen = after_freeze caller r in
    open_all caller (frozen all_frozen) (current all_frozen) all_frozen ∙ open_freeze caller r

open_begin : (caller : ℕ) (r : Record) → open_merges (after_begin caller r) ≡ open_merges r
open_begin caller r =
    let all_frozen = after_freeze caller r in
    open_merges-skip all_frozen.history _ (λ n. refl) refl ∙ open_freeze caller r

open_end : (caller view : ℕ) (r : Record) → open_merges (after_end caller view r) ≡ open_merges r
open_end caller view r = open_merges-skip r.history _ (λ n. refl) refl

-- ---- a merge

or_true : (b c : Bool) → b ≡ true → (b || c) ≡ true
or_true b c is = ap (λ (z : Bool). z || c) is

-- those that were closed stay so
still_closed : (n : ℕ) (cs : List ℕ) (ms : List Merge)
    → filter (λ m. not (is_among m.merge cs)) ms ≡ []
    → filter (λ m. not (is_among m.merge (cs ++ n ∷ []))) ms ≡ []
still_closed n cs [] none = refl
still_closed n cs (m ∷ ms) none =
    by_test (is_among m.merge cs) refl none (λ e. still_closed n cs ms e)
  where
    by_test : (b : Bool) → is_among m.merge cs ≡ b
        → cond (not b) (m ∷ filter (λ k. not (is_among k.merge cs)) ms)
        (filter (λ k. not (is_among k.merge cs)) ms) ≡ []
        → (filter (λ k. not (is_among k.merge cs)) ms ≡ []
        → filter (λ k. not (is_among k.merge (cs ++ n ∷ []))) ms ≡ [])
        → filter (λ k. not (is_among k.merge (cs ++ n ∷ []))) (m ∷ ms) ≡ []
    by_test true is e again =
        let closed : is_among m.merge (cs ++ n ∷ []) ≡ true =
        list_any-append (nat_eq m.merge) cs (n ∷ []) ∙ or_true (is_among m.merge cs) _ is in
        rw closed (again e)
    by_test false is e again = cc

-- a merge of the next number that has begun and ended
ended : (caller : ℕ) (gens : List ℕ) (r : Record) → open_merges r ≡ []
    → open_merges (after_commit caller (next_merge_by caller r gens)
    (with_event r (merge_begin caller (next_merge r) gens))) ≡ []
ended caller gens r none =
    let n = next_merge r in
    let m = next_merge_by caller r gens in
    let e = merge_begin caller n gens in
    let mid = with_event r e in
    let last = ending_merge caller m mid (released_by_merge caller m mid) in
    let new : Merge = record {
      caller = caller;
      merge = n;
      upto = frozen_after 0 r.history;
      generations = gens;
    } in
    let cs = filter_map closed_merge r.history in
    let open_of : List ℕ → List Merge → List Merge = λ xs ms.
    filter (λ k. not (is_among k.merge xs)) ms in
    let begun : begun_merges (with_event mid last) ≡ begun_merges r ++ new ∷ [] =
    merges-skip mid.history last (λ k. refl) ∙ merges-more 0 r.history e in
    let closed : filter_map closed_merge (with_event mid last).history ≡ cs ++ n ∷ [] =
    filter_map-append closed_merge mid.history (last ∷ [])
    ∙ ap (λ (xs : List ℕ). xs ++ n ∷ []) (skips closed_merge r.history e refl) in
    ap (λ (xs : List ℕ). open_of xs (begun_merges (with_event mid last))) closed
    ∙ ap (open_of (cs ++ n ∷ [])) begun
    ∙ filter-append (λ k. not (is_among k.merge (cs ++ n ∷ []))) (begun_merges r) (new ∷ [])
    ∙ ap (λ (ms : List Merge). ms ++ open_of (cs ++ n ∷ []) (new ∷ []))
    (still_closed n cs (begun_merges r) none)
    ∙ ap (λ (b : Bool). cond (not b) (new ∷ []) []) (among_itself n cs)

open_merge : (caller : ℕ) (r : Record) → open_merges r ≡ []
    → open_merges (after_merge caller r) ≡ []
open_merge caller r none = by_plan (merge_plan r) refl
  where
    by_plan : (o : Option (List ℕ)) → merge_plan r ≡ o
        → open_merges (after_merge_of caller r (option_map (next_merge_by caller r) o)) ≡ []
    by_plan None plan = none
    by_plan (Some gens) plan =
        subst (λ (mid : Record).
        open_merges (after_commit caller (next_merge_by caller r gens) mid) ≡ [])
        (sym (ap (after_begin_of caller r) plan)) (ended caller gens r none)

-- ---- line by line

module _ (caller n : ℕ) (w : Worker) (none : open_merges w.seen ≡ []) where
  abbrev After : Step → Type 0
  After s = open_merges s.after.seen ≡ []

  none-accept : (op : PlainOp) → After (accept_step caller n op w)
  none-accept op = by_test (nat_le MOST_OPERATIONS (accepted w.seen))
    where
      by_test : (b : Bool) → After (cond b (says (failed n Full) w)
          (says (numbered n (accepted w.seen + 1))
          (with_seen (after_accept caller op w.seen) w)))
      by_test true = none
      by_test false = open_accept caller op w.seen ∙ none

  none-flush : open_merges (after_flush caller w.seen) ≡ []
  none-flush = open_flush caller w.seen ∙ none

  none-begin : open_merges (after_begin caller (after_flush caller w.seen)) ≡ []
  none-begin = open_begin caller (after_flush caller w.seen) ∙ none-flush

  none-query : (q : PlainQuery) → After (query_step caller n q w)
  none-query q =
      let r = after_flush caller w.seen in
      begin_cases After n w r _ (λ full. none-flush)
      (λ room. open_end caller (begun_by caller r).view (after_begin caller r) ∙ none-begin)

  none-named : (q : PlainQuery) (o : Option Open) → After (named_step n q o w)
  none-named q None = none
  none-named q (Some o) = none

  none-open : (name : List ℕ) (o : Option Open) → After (open_step caller n name o w)
  none-open name (Some o) = none
  none-open name None =
      begin_cases After n w (after_flush caller w.seen) _ (λ full. none-flush)
      (λ room. none-begin)

  none-close : (name : List ℕ) (o : Option Open) → After (close_step caller n name o w)
  none-close name None = none
  none-close name (Some o) = open_end caller o.view.view w.seen ∙ none

  none-step : (c : Command) → After (step caller n c w)
  none-step (accepts lane op) = none-accept op
  none-step (suggests lane q None) = none-query q
  none-step (suggests lane q (Some name)) = none-named q (named name w.kept)
  none-step (opens lane name) = none-open name (named name w.kept)
  none-step (closes lane name) = none-close name (named name w.kept)
  none-step (flushes lane) = none-flush
  none-step (merges lane) = open_merge caller w.seen none
  none-step other = none

none-all : (caller : ℕ) (lines : List Line) (t : List Said) (w w' : Worker)
    → open_merges w.seen ≡ [] → Ran caller w lines t w' → open_merges w'.seen ≡ []
none-all caller [] t w w' none ran = ap (λ (x : Worker). open_merges x.seen) ran.1 ∙ none
none-all caller (line ∷ lines) t w w' none ran =
    none-all caller lines ran.1 (step caller line.number line.command w).after w'
    (none-step caller line.number w none line.command) ran.4

pub none_open : NoMergeStaysOpen
none_open caller lines t w ran = none-all caller lines t untouched w refl ran
