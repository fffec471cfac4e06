-- What a record pays for the generations that it draws: three for each operation that is frozen,
-- where a merge takes one generation more than it brings, or one document.
use Rattle.std.proofs.Common.{◌≡◌, ◌≤◌, ◌<◌, ◌+◌, ◌*◌, ℕ, Bool, true, false, cond, not}
use Rattle.std.proofs.Common.{Some, List, [], ◌∷◌, ◌++◌, length, drop, refl, sym, ap}
use Rattle.std.proofs.Common.{◌∙◌, subst, arith, length-append}
use Rattle.std.specs.Prelude.{filter}
use Rattle.std.specs.List.{AllByRecursion, flat_map}
use Rattle.std.proofs.lemmas.List.{append-nil, length-drop}
use Rattle.std.proofs.lemmas.List.Elements.{filter_map-append}
use Rattle.std.proofs.lemmas.Grind.{flat_map-append}
use Rattle.sg_base.proofs.InOrderLemmas.{length-in_order}
use Rattle.sg_paths.specs.Operations.{PlainOp, adds, updates, deletes, PlainNumbered}
use Rattle.sg_paths.specs.Operations.{documents_from}
use Rattle.index_core.specs.Histories.{HistoryEvent, freeze, merge_end, Record, Merge}
use Rattle.index_core.specs.Histories.{is_among, drawn_generation}
use Rattle.index_core.specs.Records.{with_event, frozen, drawn, current, next_generation}
use Rattle.index_core.specs.Records.{begun_merges}
use Rattle.index_core.specs.Generations.{documents_of}
use Rattle.index_core.specs.LegalHistories.{merged_documents}
use Rattle.index_core.specs.EndedMerges.{document_cmp}
use Rattle.index_core.specs.HeldGenerations.{WereDrawn}
use Rattle.index_core.specs.LegalLaws.{live_in}
use Rattle.index_core.specs.MergedPieces.{IsEnding}
use Rattle.index_core.proofs.ByNumberLemmas.{by_numbers}
use Rattle.index_core.proofs.EventLemmas.{begun_by, frozen_after, merges-more}
use Rattle.index_core.proofs.FreezeLemmas.{documents-freeze, current-more}
use Rattle.index_core.proofs.HistoryLemmas.{frozen-more}
use Rattle.index_core.proofs.ListLemmas.{all_both, all_filter}
use Rattle.index_core.proofs.MergedPieceLemmas.{own, one_holds}
use Rattle.index_core.proofs.MergingLemmas.{bring}
use Rattle.index_core.proofs.SoundLemmas.{IsSound, current_were, documents_same, live_in_still}

-- the generations and documents that a merge takes make up for what it brings: the documents that
-- are left, and a generation that is drawn and current
abbrev pub Pays : Record → Merge → Type 0
Pays r m =
    length (live_in r m.upto m.generations) + 2
    ≤ length (flat_map (documents_of r) m.generations) + length m.generations

-- the generations that were drawn, those that are current, and the documents of these
abbrev pub spent : Record → ℕ
spent r =
    length (drawn r) + length (current r) + length (flat_map (documents_of r) (current r))

-- what is spent is paid
pub record IsPaid (r : Record) : Type 0 where
  pub pays : AllByRecursion (Pays r) (begun_merges r)
  pub within : spent r ≤ 3 * frozen r

-- drawn generations hold in a later record what they held
abbrev pub Stay : Record → Record → Type 0
Stay r s = (g : ℕ) → is_among g (drawn r) ≡ true → documents_of s g ≡ documents_of r g

-- ---- lengths

split_length : (t : ℕ → Bool) (gs : List ℕ)
    → length gs ≡ length (filter (λ g. not (t g)) gs) + length (filter t gs)
split_length t [] = refl
split_length t (g ∷ gs) = by_test (t g) (split_length t gs)
  where
    by_test : (b : Bool) → length gs ≡ length (filter (λ x. not (t x)) gs) + length (filter t gs)
        → length (g ∷ gs)
        ≡ length (cond (not b) (g ∷ filter (λ x. not (t x)) gs) (filter (λ x. not (t x)) gs))
        + length (cond b (g ∷ filter t gs) (filter t gs))
    by_test true e = omega (arith, e)
    by_test false e = omega (arith, e)

split_documents : {X : Type 0} (f : ℕ → List X) (t : ℕ → Bool) (gs : List ℕ)
    → length (flat_map f gs)
    ≡ length (flat_map f (filter (λ g. not (t g)) gs)) + length (flat_map f (filter t gs))
split_documents f t [] = refl
split_documents {X} f t (g ∷ gs) = by_test (t g) (split_documents f t gs)
  where
    by_test : (b : Bool)
        → length (flat_map f gs)
        ≡ length (flat_map f (filter (λ x. not (t x)) gs)) + length (flat_map f (filter t gs))
        → length (f g ++ flat_map f gs)
        ≡ length (flat_map f (cond (not b) (g ∷ filter (λ x. not (t x)) gs)
        (filter (λ x. not (t x)) gs)))
        + length (flat_map f (cond b (g ∷ filter t gs) (filter t gs)))
    by_test true e =
        let all = length-append (f g) (flat_map f gs) in
        let some = length-append (f g) (flat_map f (filter t gs)) in
        omega (arith, e, all, some)
    by_test false e =
        let all = length-append (f g) (flat_map f gs) in
        let some = length-append (f g) (flat_map f (filter (λ x. not (t x)) gs)) in
        omega (arith, e, all, some)

with_one : {X : Type 0} (f : ℕ → List X) (gs : List ℕ) (g : ℕ)
    → length (flat_map f (gs ++ g ∷ [])) ≡ length (flat_map f gs) + length (f g)
with_one {X} f gs g =
    let both = ap (λ (xs : List X). length xs) (flat_map-append f gs (g ∷ [])) in
    let sum = length-append (flat_map f gs) (f g ++ []) in
    let last = ap (λ (xs : List X). length xs) (append-nil (f g)) in
    omega (arith, both, sum, last)

-- operations add a document each at most
few_documents : (n : ℕ) (ops : List PlainOp) → length (documents_from n ops) ≤ length ops
few_documents n [] = omega arith
few_documents n (adds d ∷ ops) = let e = few_documents (n + 1) ops in omega (arith, e)
few_documents n (updates d ∷ ops) = let e = few_documents (n + 1) ops in omega (arith, e)
few_documents n (deletes id ∷ ops) = let e = few_documents (n + 1) ops in omega (arith, e)

-- ---- merges that were begun

pub pays_still : (r s : Record) (more : List PlainOp) (m : Merge) → s.journal ≡ r.journal ++ more
    → Stay r s → WereDrawn r m.generations → m.upto ≤ length r.journal → Pays r m → Pays s m
pays_still r s more m journal stays were within pays =
    let live = ap (λ (ds : List PlainNumbered). length ds)
    (live_in_still r s more m.upto m.generations journal stays were within) in
    let all = ap (λ (ds : List PlainNumbered). length ds)
    (documents_same r s m.generations stays were) in
    omega (arith, live, all, pays)

all_pay : (r s : Record) (more : List PlainOp) (ms : List Merge)
    → s.journal ≡ r.journal ++ more → Stay r s
    → AllByRecursion (λ m. WereDrawn r m.generations) ms
    → AllByRecursion (λ m. m.upto ≤ frozen r) ms → frozen r ≤ length r.journal
    → AllByRecursion (Pays r) ms → AllByRecursion (Pays s) ms
all_pay r s more [] journal stays were upto within pays = tt
all_pay r s more (m ∷ ms) journal stays were upto within pays = (
  pays_still r s more m journal stays were.0 (let first = upto.0 in omega (arith, first, within))
      pays.0,
  all_pay r s more ms journal stays were.1 upto.1 within pays.1,
)

-- what was begun, and what an event begins
pub pay_more : (r s : Record) (e : HistoryEvent) (more : List PlainOp)
    → s.history ≡ r.history ++ e ∷ [] → s.journal ≡ r.journal ++ more → Stay r s → IsSound r
    → AllByRecursion (Pays s) (begun_by (frozen_after 0 r.history) e)
    → AllByRecursion (Pays r) (begun_merges r) → AllByRecursion (Pays s) (begun_merges s)
pay_more r s e more history journal stays sound new pays =
    let begun : begun_merges s ≡ begun_merges r ++ begun_by (frozen_after 0 r.history) e =
    ap (λ (h : List HistoryEvent). begun_merges (record { history = h; journal = [] })) history
    ∙ merges-more 0 r.history e in
    subst (λ (ms : List Merge). AllByRecursion (Pays s) ms) (sym begun)
    (all_both (Pays s) (begun_merges r) (begun_by (frozen_after 0 r.history) e)
    (all_pay r s more (begun_merges r) journal stays sound.were.merges sound.plain.merges.within
    sound.plain.frozen_within pays) new)

-- ---- an event that draws and freezes nothing

pub spent_same : (r s : Record) → Stay r s → drawn s ≡ drawn r → current s ≡ current r
    → frozen s ≡ frozen r → spent r ≤ 3 * frozen r → spent s ≤ 3 * frozen s
spent_same r s stays draws used freezes within =
    let a = ap (λ (gs : List ℕ). length gs) draws in
    let b = ap (λ (gs : List ℕ). length gs) used in
    let c = ap (λ (gs : List ℕ). length (flat_map (documents_of s) gs)) used in
    let d = ap (λ (ds : List PlainNumbered). length ds)
    (documents_same r s (current r) stays (current_were r)) in
    omega (arith, a, b, c, d, freezes, within)

-- ---- a freeze

module _ (r : Record) (caller : ℕ) (sound : IsSound r) (some : frozen r < length r.journal) where
  abbrev e-freeze : HistoryEvent
  e-freeze = freeze caller (next_generation r) (frozen r + 1) (length r.journal)

  abbrev r-freeze : Record
  r-freeze = with_event r e-freeze

  pub spent_freeze : Stay r r-freeze → spent r ≤ 3 * frozen r → spent r-freeze ≤ 3 * frozen r-freeze
  spent_freeze stays within =
      let g = next_generation r in
      let f = documents_of r-freeze in
      let now : frozen r-freeze ≡ length r.journal =
      frozen-more r.history caller g (frozen r + 1) (length r.journal) in
      let draws = ap (λ (gs : List ℕ). length gs)
      (filter_map-append drawn_generation r.history (e-freeze ∷ [])) in
      let drawn-more = length-append (drawn r) (g ∷ []) in
      let used = current-more r sound.plain sound.were caller some sound.few in
      let b = ap (λ (gs : List ℕ). length gs) used in
      let used-more = length-append (current r) (g ∷ []) in
      let c = ap (λ (gs : List ℕ). length (flat_map f gs)) used in
      let d = with_one f (current r) g in
      let old = ap (λ (ds : List PlainNumbered). length ds)
      (documents_same r r-freeze (current r) stays (current_were r)) in
      let new = ap (λ (ds : List PlainNumbered). length ds)
      (documents-freeze r sound.plain sound.were caller some sound.few) in
      let most = few_documents (frozen r + 1) (drop (frozen r) r.journal) in
      let left = length-drop (frozen r) r.journal in
      omega (arith, now, draws, drawn-more, b, used-more, c, d, old, new, most, left, within, some)

-- ---- a merge ends

module _ (r : Record) (caller : ℕ) (m : Merge) (gone : List ℕ) (sound : IsSound r)
    (ending : IsEnding r m (next_generation r)) (pays : Pays r m) where
  abbrev into : ℕ
  into = next_generation r

  abbrev kept : List ℕ
  kept = filter (λ g. not (is_among g m.generations)) (current r)

  -- its generations go
  count_left : length (current r) ≡ length kept + length m.generations
  count_left =
      let split = split_length (λ g. is_among g m.generations) (current r) in
      let same = ap (λ (gs : List ℕ). length gs) (own r m into ending sound.pieces sound.are) in
      omega (arith, split, same)

  -- and their documents
  documents_left : length (flat_map (documents_of r) (current r))
      ≡ length (flat_map (documents_of r) kept) + length (flat_map (documents_of r) m.generations)
  documents_left =
      let split = split_documents (documents_of r) (λ g. is_among g m.generations) (current r) in
      let same = ap (λ (gs : List ℕ). length (flat_map (documents_of r) gs))
      (own r m into ending sound.pieces sound.are) in
      omega (arith, split, same)

  kept_were : WereDrawn r kept
  kept_were =
      all_filter (λ g. is_among g (drawn r) ≡ true) (λ g. not (is_among g m.generations))
      (current r) (current_were r)

  -- what it keeps
  count_merged : length (merged_documents r m) ≡ length (live_in r m.upto m.generations)
  count_merged =
      ap (λ (ds : List PlainNumbered). length ds)
      (sym (by_numbers r m (one_holds r m into ending sound.pieces sound.are)))
      ∙ length-in_order document_cmp (live_in r m.upto m.generations)

  pub spent_some : (s : Record) → s ≡ with_event r (merge_end caller m.merge (Some into) gone)
      → Stay r s → current s ≡ kept ++ into ∷ [] → frozen s ≡ frozen r → spent r ≤ 3 * frozen r
      → spent s ≤ 3 * frozen s
  spent_some s is stays used freezes within =
      let e = merge_end caller m.merge (Some into) gone in
      let draws = ap (λ (x : Record). length (drawn x)) is
      ∙ ap (λ (gs : List ℕ). length gs)
      (filter_map-append drawn_generation r.history (e ∷ [])) in
      let drawn-more = length-append (drawn r) (into ∷ []) in
      let b = ap (λ (gs : List ℕ). length gs) used in
      let used-more = length-append kept (into ∷ []) in
      let c = ap (λ (gs : List ℕ). length (flat_map (documents_of s) gs)) used in
      let d = with_one (documents_of s) kept into in
      let old = ap (λ (ds : List PlainNumbered). length ds)
      (documents_same r s kept stays kept_were) in
      let new = ap (λ (x : Record). length (documents_of x into)) is
      ∙ ap (λ (ds : List PlainNumbered). length ds) (bring r caller m into gone ending.begun)
      ∙ count_merged in
      omega (
        arith,
        draws,
        drawn-more,
        b,
        used-more,
        c,
        d,
        old,
        new,
        count_left,
        documents_left,
        freezes,
        within,
        pays,
      )

  pub spent_none : (s : Record) → Stay r s → drawn s ≡ drawn r → current s ≡ kept
      → frozen s ≡ frozen r → spent r ≤ 3 * frozen r → spent s ≤ 3 * frozen s
  spent_none s stays draws used freezes within =
      let a = ap (λ (gs : List ℕ). length gs) draws in
      let b = ap (λ (gs : List ℕ). length gs) used in
      let c = ap (λ (gs : List ℕ). length (flat_map (documents_of s) gs)) used in
      let old = ap (λ (ds : List PlainNumbered). length ds)
      (documents_same r s kept stays kept_were) in
      omega (arith, a, b, c, old, count_left, documents_left, freezes, within)
