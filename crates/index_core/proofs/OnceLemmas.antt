-- Each document is held by at most one current generation, after each event.
use Rattle.std.proofs.Common.{◌≡◌, ◌≤◌, ◌<◌, ◌+◌, ℕ, Bool, true, false, cond, not, nat_eq}
use Rattle.std.proofs.Common.{◌&&◌, ◌||◌, Some, None, List, [], ◌∷◌, ◌++◌, length, refl, sym, ap}
use Rattle.std.proofs.Common.{◌∙◌, subst, arith}
use Rattle.std.specs.Prelude.{filter, nat_le}
use Rattle.std.specs.List.{AllByRecursion, filter_map}
use Rattle.std.proofs.lemmas.Bool.Decides.{nat_tests}
use Rattle.std.proofs.lemmas.List.Elements.{filter_agree}
use Rattle.sg_paths.specs.Operations.{PlainOp, adds, updates, deletes, PlainNumbered}
use Rattle.sg_paths.specs.Operations.{documents_from}
use Rattle.sg_paths.proofs.LiveDocumentsLemmas.{documents_from-append}
use Rattle.index_core.specs.Histories.{HistoryEvent, accept, freeze, merge_end, Record, Merge}
use Rattle.index_core.specs.Histories.{is_among, drawn_generation, frozen_upto, replaced}
use Rattle.index_core.specs.Records.{with_event, accepted, frozen, drawn, current}
use Rattle.index_core.specs.Generations.{holders_of}
use Rattle.index_core.specs.Calls.{with_operation}
use Rattle.index_core.specs.EndedMerges.{HasKnownMerges, BeginsNextMerge, holding}
use Rattle.index_core.specs.HeldEvents.{AreDrawn}
use Rattle.index_core.specs.Keeping.{AreHeldOnce}
use Rattle.index_core.specs.MergedPieces.{IsEnding}
use Rattle.index_core.proofs.AcceptLemmas.{AreWithin, unheld, holders_stay}
use Rattle.index_core.proofs.EventLemmas.{current-skip}
use Rattle.index_core.proofs.HeldEventLemmas.{undrawn_not_replaced, current-freeze}
use Rattle.index_core.proofs.ListLemmas.{all_filter, all_both}
use Rattle.index_core.proofs.HoldingLemmas.{one_if, count_with}
use Rattle.index_core.proofs.JournalLemmas.{before_more}
use Rattle.index_core.proofs.ListLemmas.{all_weaker}
use Rattle.index_core.proofs.MergedPieceLemmas.{fewer_pass, none_some}
use Rattle.index_core.proofs.MergeEventLemmas.{new_apart}
use Rattle.index_core.proofs.MergingLemmas.{holders_next, not_drawn, not_held}
use Rattle.index_core.proofs.PlannedLemmas.{all_members}
use Rattle.index_core.proofs.ReplacedLemmas.{after_merge, current-after_none, one_holds}

-- ---- lists

-- a number over all is none of them
pub above_all : (n : ℕ) (gs : List ℕ) → AllByRecursion (λ g. g < n) gs → is_among n gs ≡ false
above_all n [] all = refl
above_all n (g ∷ gs) all =
    let other : nat_eq n g ≡ false = differs n g all.0 in
    ap (λ (b : Bool). b || is_among n gs) other ∙ above_all n gs all.1
  where
    differs : (m k : ℕ) → k < m → nat_eq m k ≡ false
    differs m k less = grind (arith, nat_tests, less)

none_pass : (t : ℕ → Bool) (gs : List ℕ) → AllByRecursion (λ g. t g ≡ false) gs
    → length (filter t gs) ≡ 0
none_pass t [] all = refl
none_pass t (g ∷ gs) all = rw all.0 (none_pass t gs all.1)

-- the documents of one operation have its number
one_document : (P : PlainNumbered → Type 0) (n : ℕ) (op : PlainOp)
    → ((d : PlainNumbered) → d.seq ≡ n → P d) → AllByRecursion P (documents_from n (op ∷ []))
one_document P n (adds d) each = (each (record { seq = n; document = d }) refl, tt)
one_document P n (updates d) each = (each (record { seq = n; document = d }) refl, tt)
one_document P n (deletes id) each = tt

-- a document after what is frozen is held by no generation
pub unheld_later : (r : Record) (d : PlainNumbered) (n : ℕ)
    → AllByRecursion (λ u. u ≤ n) (filter_map frozen_upto r.history) → n < d.seq
    → holders_of r d ≡ []
unheld_later r d n before less =
    unheld r d r.history (before_more n d.seq (filter_map frozen_upto r.history) before less)

-- ---- events that draw nothing

holding_same : (r s : Record) (d : PlainNumbered) (gs : List ℕ)
    → ((g : ℕ) → is_among g (holders_of s d) ≡ is_among g (holders_of r d))
    → holding s d gs ≡ holding r d gs
holding_same r s d gs same =
    ap (λ (ns : List ℕ). length ns)
    (filter_agree (λ g. is_among g (holders_of s d)) (λ g. is_among g (holders_of r d)) same gs)

undrawn_same : (r : Record) (e : HistoryEvent) (d : PlainNumbered) → HasKnownMerges r
    → BeginsNextMerge r e → drawn_generation e ≡ None → (g : ℕ)
    → is_among g (holders_of (with_event r e) d) ≡ is_among g (holders_of r d)
undrawn_same r e d known next draws g =
    ap (is_among g) (holders_next r e known next d)
    ∙ not_drawn (with_event r e) e d (holders_of r d) g (none_some g (drawn_generation e) draws)

pub one_same : (r : Record) (e : HistoryEvent) → HasKnownMerges r → BeginsNextMerge r e
    → drawn_generation e ≡ None → current (with_event r e) ≡ current r → AreHeldOnce r
    → AreHeldOnce (with_event r e)
one_same r e known next draws same once =
    all_weaker (λ d. holding r d (current r) ≤ 1)
    (λ d. holding (with_event r e) d (current (with_event r e)) ≤ 1)
    (λ d most. subst (λ (k : ℕ). k ≤ 1)
    (sym (ap (λ (gs : List ℕ). holding (with_event r e) d gs) same
    ∙ holding_same r (with_event r e) d (current r) (undrawn_same r e d known next draws))) most)
    (documents_from 1 r.journal) once

-- ---- an operation more

pub one_accept : (r : Record) (caller : ℕ) (op : PlainOp) → AreWithin r → AreHeldOnce r
    → AreHeldOnce (with_operation caller op r)
one_accept r caller op within once =
    let e = accept caller (accepted r + 1) in
    let s = with_operation caller op r in
    let same : current s ≡ current r = current-skip r.history e (λ k. refl) refl refl in
    let held : (d : PlainNumbered) → holding s d (current s) ≡ holding r d (current r) =
    λ d. ap (λ (gs : List ℕ). holding s d gs) same
    ∙ holding_same r s d (current r) (λ g. ap (is_among g) (holders_stay r within caller op d)) in
    let P : PlainNumbered → Type 0 = λ d. holding s d (current s) ≤ 1 in
    subst (λ (ds : List PlainNumbered). AllByRecursion P ds)
    (sym (documents_from-append 1 r.journal (op ∷ [])))
    (all_both P (documents_from 1 r.journal) (documents_from (1 + length r.journal) (op ∷ []))
    (all_weaker (λ d. holding r d (current r) ≤ 1) P
    (λ d most. subst (λ (k : ℕ). k ≤ 1) (sym (held d)) most) (documents_from 1 r.journal) once)
    (one_document P (1 + length r.journal) op (λ d is.
    let none : holders_of r d ≡ [] =
    unheld_later r d (length r.journal) within.freezes (omega (arith, is)) in
    subst (λ (k : ℕ). k ≤ 1)
    (sym (held d ∙ ap (λ (hs : List ℕ). length (filter (λ g. is_among g hs) (current r))) none
    ∙ nothing_held (current r))) (omega arith))))
  where
    nothing_held : (gs : List ℕ) → length (filter (λ g. is_among g []) gs) ≡ 0
    nothing_held [] = refl
    nothing_held (g ∷ gs) = nothing_held gs

-- ---- a freeze

at_most : (b : Bool) → one_if b ≤ 1
at_most true = omega arith
at_most false = omega arith

module _ (r : Record) (caller g : ℕ) (known : HasKnownMerges r) (were : AreDrawn r)
    (less : AllByRecursion (λ x. x < g) (drawn r))
    (before : AllByRecursion (λ n. n ≤ frozen r) (filter_map frozen_upto r.history))
    (upto : ℕ) where
  abbrev e : HistoryEvent
  e = freeze caller g (frozen r + 1) upto

  abbrev r' : Record
  r' = with_event r e

  current_less : AllByRecursion (λ x. x < g) (current r)
  current_less =
      all_filter (λ x. x < g) (λ x. not (is_among x (replaced r.history))) (drawn r) less

  others : (xs : List ℕ) → AllByRecursion (λ x. x < g) xs
      → AllByRecursion (λ x. is_among x (g ∷ []) ≡ false) xs
  others [] all = tt
  others (x ∷ xs) all = (differs x g all.0, others xs all.1)
    where
      differs : (m k : ℕ) → m < k → (nat_eq m k || false) ≡ false
      differs m k small =
          let other : nat_eq m k ≡ false = grind (arith, nat_tests, small) in rw other refl

  -- in the range of the batch nothing was held
  in_range : (d : PlainNumbered) → nat_le (frozen r + 1) d.seq ≡ true
      → length (filter (λ x. is_among x (holders_of r d ++ g ∷ [])) (current r ++ g ∷ [])) ≤ 1
  in_range d is =
      let later : frozen r < d.seq = from_test (frozen r) d.seq is in
      let none : holders_of r d ≡ [] = unheld_later r d (frozen r) before later in
      let test : ℕ → Bool = λ x. is_among x (g ∷ []) in
      subst (λ (hs : List ℕ).
      length (filter (λ x. is_among x (hs ++ g ∷ [])) (current r ++ g ∷ [])) ≤ 1) (sym none)
      (let count = count_with test (current r) g in
      let nothing = none_pass test (current r) (others (current r) current_less) in
      let most = at_most (test g) in omega (arith, count, nothing, most))
    where
      from_test : (m k : ℕ) → nat_le (m + 1) k ≡ true → m < k
      from_test m k h = grind (arith, nat_tests)

  out_of_range : (d : PlainNumbered) → holding r d (current r) ≤ 1
      → holding r d (current r ++ g ∷ []) ≤ 1
  out_of_range d most =
      let test : ℕ → Bool = λ x. is_among x (holders_of r d) in
      let count = count_with test (current r) g in
      let not_new : one_if (test g) ≡ 0 = ap one_if (not_held r g d less) in
      omega (arith, count, not_new, most)

  by_range : (d : PlainNumbered) (a b : Bool) → nat_le (frozen r + 1) d.seq ≡ a
      → holding r d (current r) ≤ 1
      → length (filter (λ x. is_among x (cond (a && b) (holders_of r d ++ g ∷ []) (holders_of r d)))
      (current r ++ g ∷ [])) ≤ 1
  by_range d true true is most = in_range d is
  by_range d true false is most = out_of_range d most
  by_range d false b is most = out_of_range d most

  pub one_freeze : AreHeldOnce r → AreHeldOnce r'
  one_freeze once =
      let same : current r' ≡ current r ++ g ∷ [] =
      current-freeze r caller g (frozen r + 1) upto
      (undrawn_not_replaced r were g (above_all g (drawn r) less)) in
      all_weaker (λ d. holding r d (current r) ≤ 1) (λ d. holding r' d (current r') ≤ 1)
      (λ d most.
      subst (λ (gs : List ℕ). holding r' d gs ≤ 1) (sym same)
      (subst (λ (hs : List ℕ). length (filter (λ x. is_among x hs) (current r ++ g ∷ [])) ≤ 1)
      (sym (holders_next r e known tt d))
      (by_range d (nat_le (frozen r + 1) d.seq) (nat_le d.seq upto) refl most)))
      (documents_from 1 r.journal) once

-- ---- a merge ends

module _ (r : Record) (caller : ℕ) (m : Merge) (into : ℕ) (gone : List ℕ)
    (ending : IsEnding r m into) where
  current_before : AllByRecursion (λ g. g < into) (current r)
  current_before =
      all_filter (λ x. x < into) (λ x. not (is_among x (replaced r.history))) (drawn r)
      ending.begun.greater

  pub one_end : AreHeldOnce (with_event r (merge_end caller m.merge (Some into) gone))
  one_end =
      let r' = with_event r (merge_end caller m.merge (Some into) gone) in
      let new = above_all into (drawn r) ending.begun.greater in
      let same : current r'
      ≡ filter (λ g. not (is_among g m.generations)) (current r) ++ into ∷ [] =
      after_merge r caller m into gone ending.begun.alone
      (undrawn_not_replaced r ending.were_drawn into new)
      (new_apart r m.generations into ending.in_use new) in
      all_weaker (λ d. holding r d (current r) ≤ 1) (λ d. holding r' d (current r') ≤ 1)
      (λ d most.
      subst (λ (gs : List ℕ). holding r' d gs ≤ 1) (sym same)
      (one_holds r caller m into gone d ending.begun current_before
      (all_members m.generations (current r) ending.in_use) most))
      (documents_from 1 r.journal) ending.one

  pub one_none : AreHeldOnce (with_event r (merge_end caller m.merge None gone))
  one_none =
      let e = merge_end caller m.merge None gone in
      let r' = with_event r e in
      let same : current r' ≡ filter (λ g. not (is_among g m.generations)) (current r) =
      current-after_none r caller m gone ending.begun.alone in
      all_weaker (λ d. holding r d (current r) ≤ 1) (λ d. holding r' d (current r') ≤ 1)
      (λ d most.
      let left = filter (λ g. not (is_among g m.generations)) (current r) in
      let fewer = fewer_pass (λ g. is_among g (holders_of r d))
      (λ g. not (is_among g m.generations)) (current r) in
      subst (λ (k : ℕ). k ≤ 1)
      (sym (ap (λ (gs : List ℕ). holding r' d gs) same
      ∙ holding_same r r' d left (undrawn_same r e d ending.begun.known tt refl)))
      (omega (arith, fewer, most)))
      (documents_from 1 r.journal) ending.one
