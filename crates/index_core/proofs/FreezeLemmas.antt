-- The current pieces once what is buffered is frozen.
use Rattle.std.proofs.Common.{◌≡◌, ◌≤◌, ◌<◌, ◌+◌, ◌-◌, ℕ, Bool, true, false, cond, not}
use Rattle.std.proofs.Common.{nat_eq, ◌&&◌, List, [], ◌∷◌, ◌++◌, length, map, take, drop}
use Rattle.std.proofs.Common.{refl}
use Rattle.std.proofs.Common.{sym, ap, ◌∙◌, subst, arith}
use Rattle.std.specs.Prelude.{filter, nat_le}
use Rattle.std.specs.List.{AllByRecursion, filter_map, list_any}
use Rattle.std.proofs.lemmas.Bool.Decides.{nat_tests}
use Rattle.std.proofs.lemmas.List.{append-nil, take_all}
use Rattle.std.proofs.lemmas.List.{take-append-drop, length-take, length-drop}
use Rattle.std.proofs.lemmas.List.{drop_all, map-append}
use Rattle.std.proofs.lemmas.List.Elements.{filter-append, filter_agree}
use Rattle.std.proofs.lemmas.Grind.{flat_map-append}
use Rattle.sg_paths.specs.Operations.{PlainOp, adds, updates, deletes, PlainNumbered}
use Rattle.sg_paths.specs.Operations.{documents_from}
use Rattle.sg_paths.specs.LiveDocuments.{deletes_id, is_deleted}
use Rattle.sg_paths.proofs.LiveDocumentsLemmas.{documents_from-append}
use Rattle.segment.specs.Items.{total_of, HaveSameItems}
use Rattle.segment.specs.Pieces.{PlainPiece, piece_documents}
use Rattle.segment.specs.Pieces.{live_docs_at}
use Rattle.segment.specs.Views.{all_documents}
use Rattle.index_core.specs.declared.limits.TheConstants.{BATCH_OPERATIONS}
use Rattle.index_core.specs.Histories.{HistoryEvent, freeze}
use Rattle.index_core.specs.Histories.{Record, is_among}
use Rattle.index_core.specs.Histories.{built_generation}
use Rattle.index_core.specs.Histories.{replaced}
use Rattle.index_core.specs.Records.{with_event, frozen, drawn, current, next_generation}
use Rattle.index_core.specs.Generations.{documents_of, holders_of}
use Rattle.index_core.specs.CurrentPieces.{IsPieceOf}
use Rattle.index_core.specs.HeldEvents.{AreDrawn}
use Rattle.index_core.specs.HeldGenerations.{RisesFrom}
use Rattle.index_core.specs.Keeping.{AreCurrent, IsPlain}
use Rattle.index_core.specs.Keeping.{buffered_piece}
use Rattle.index_core.proofs.ListLemmas.{filter_inside, all_weaker}
use Rattle.index_core.proofs.ListLemmas.{all_more, all_pairs, same_filtered, same_more}
use Rattle.index_core.proofs.AppliedLemmas.{applied_stay, applied_last}
use Rattle.index_core.proofs.HeldEventLemmas.{undrawn_not_replaced, current-freeze}
use Rattle.index_core.proofs.ListLemmas.{all_filter}
use Rattle.index_core.proofs.HistoryLemmas.{frozen-more}
use Rattle.index_core.proofs.GenerationLemmas.{built_stays, among_itself}
use Rattle.index_core.proofs.KnownMergeLemmas.{known as known_merges}
use Rattle.index_core.proofs.LivePieceLemmas.{deleted_later}
use Rattle.index_core.proofs.MergingLemmas.{holders_next, stay, not_held}
use Rattle.index_core.proofs.RangeLemmas.{last_documents}

pub rises_more : (m n : ℕ) (gs : List ℕ) → RisesFrom m gs → AllByRecursion (λ g. g < n) gs → m ≤ n
    → RisesFrom m (gs ++ n ∷ [])
rises_more m n [] up all least = (least, tt)
rises_more m n (g ∷ gs) up all least =
    (up.0, rises_more (g + 1) n gs up.1 all.1 (omega (arith, all.0)))

generations_before : (n : ℕ) (ps : List PlainPiece)
    → AllByRecursion (λ g. g < n) (map (λ p. p.generation) ps)
    → AllByRecursion (λ p. p.generation < n) ps
generations_before n [] all = tt
generations_before n (p ∷ ps) all = (all.0, generations_before n ps all.1)

-- documents with greater numbers aren't deleted by the first operations
all_live : (journal : List PlainOp) (n m : ℕ) (ops : List PlainOp)
    → n < m → n ≤ length journal
    → map (λ _. true) (documents_from m ops) ≡ live_docs_at journal n (documents_from m ops)
all_live journal n m [] less within = refl
all_live journal n m (deletes id ∷ ops) less within =
    all_live journal n (m + 1) ops (omega (arith, less)) within
all_live journal n m (adds d ∷ ops) less within =
    let none : is_deleted journal n (record { seq = m; document = d }) ≡ false =
    ap (list_any (deletes_id d.id))
    (drop_all m (take n journal)
    (let e = length-take n journal in omega (arith, e, less, within))) in
    ap (λ (b : Bool). not b ∷ map (λ _. true) (documents_from (m + 1) ops)) (sym none)
    ∙ ap (λ (bs : List Bool). not (is_deleted journal n (record { seq = m; document = d })) ∷ bs)
    (all_live journal n (m + 1) ops (omega (arith, less)) within)
all_live journal n m (updates d ∷ ops) less within =
    let none : is_deleted journal n (record { seq = m; document = d }) ≡ false =
    ap (list_any (deletes_id d.id))
    (drop_all m (take n journal)
    (let e = length-take n journal in omega (arith, e, less, within))) in
    ap (λ (b : Bool). not b ∷ map (λ _. true) (documents_from (m + 1) ops)) (sym none)
    ∙ ap (λ (bs : List Bool). not (is_deleted journal n (record { seq = m; document = d })) ∷ bs)
    (all_live journal n (m + 1) ops (omega (arith, less)) within)

module _ (r : Record) (plain : IsPlain r) (were : AreDrawn r) (caller : ℕ)
    (some : frozen r < length r.journal)
    (few : length r.journal ≤ frozen r + BATCH_OPERATIONS) where
  abbrev n : ℕ
  n = frozen r

  abbrev u : ℕ
  u = length r.journal

  abbrev g : ℕ
  g = next_generation r

  abbrev e-freeze : HistoryEvent
  e-freeze = freeze caller g (n + 1) u

  abbrev r-freeze : Record
  r-freeze = with_event r e-freeze

  frozen-freeze : frozen r-freeze ≡ u
  frozen-freeze = frozen-more r.history caller g (n + 1) u

  stays-freeze : (x : ℕ) → nat_eq x g ≡ false → documents_of r-freeze x ≡ documents_of r x
  stays-freeze x other =
      stay r e-freeze x (known_merges r plain.merges) tt
      (λ same. let one : g ≡ x = cc in
      let no : nat_eq x g ≡ true = same_test x g one in
      let wrong : true ≡ false = sym no ∙ other in absurd cc)
    where
      same_test : (m n : ℕ) → n ≡ m → nat_eq m n ≡ true
      same_test m n is = grind (arith, nat_tests, is)

  new_held : (b : Bool) (gens : List ℕ) → is_among g gens ≡ false
      → is_among g (cond b (gens ++ g ∷ []) gens) ≡ b
  new_held true gens out = among_itself g gens
  new_held false gens out = out

  pub documents-freeze : documents_of r-freeze g ≡ documents_from (n + 1) (drop n r.journal)
  documents-freeze =
      filter_agree (λ d. is_among g (holders_of r-freeze d))
      (λ d. nat_le (n + 1) d.seq && nat_le d.seq u)
      (λ d. ap (is_among g) (holders_next r e-freeze (known_merges r plain.merges) tt d)
      ∙ new_held (nat_le (n + 1) d.seq && nat_le d.seq u) (holders_of r d)
      (not_held r g d plain.drawn_before)) (documents_from 1 r.journal)
      ∙ last_documents n r.journal plain.frozen_within

  old_piece : (p : PlainPiece) → IsPieceOf r p × (p.generation < g) → IsPieceOf r-freeze p
  old_piece p (is, less) =
      let other : nat_eq p.generation g ≡ false = grind (arith, nat_tests, less) in
      let other' : nat_eq g p.generation ≡ false = grind (arith, nat_tests, less) in
      record {
        documents = is.documents ∙ sym (stays-freeze p.generation other);
        applied_through =
            is.applied_through
            ∙ sym (applied_stay r e-freeze (known_merges r plain.merges) tt p.generation
            (rw other' refl));
        has_segment = built_stays r e-freeze p.generation refl ∙ is.has_segment;
        live_docs = is.live_docs;
        fresh = is.fresh;
        known = subst (λ (m : ℕ). p.applied ≤ m) (sym frozen-freeze)
            (omega (arith, is.known, plain.frozen_within));
        buildable = is.buildable;
      }

  not_among : (xs : List ℕ) → AllByRecursion (λ x. x < g) xs → is_among g xs ≡ false
  not_among [] all = refl
  not_among (x ∷ xs) all =
      let less : x < g = all.0 in
      let other : nat_eq g x ≡ false = grind (arith, nat_tests, less) in
      rw other (not_among xs all.1)

  pub current-more : current r-freeze ≡ current r ++ g ∷ []
  current-more =
      current-freeze r caller g (n + 1) u
      (undrawn_not_replaced r were g (not_among (drawn r) plain.drawn_before))

  new_piece : IsPieceOf r-freeze (buffered_piece r)
  new_piece =
      let test : nat_eq g g ≡ true = grind (arith, nat_tests) in
      let back : n + 1 - 1 ≡ n = omega arith in
      let long = length-drop n r.journal in
      record {
        documents = sym documents-freeze;
        applied_through =
            sym (applied_last r e-freeze (known_merges r plain.merges) tt g (n + 1 - 1)
            (rw test refl) ∙ back);
        has_segment =
            built_stays r e-freeze g refl
            ∙ not_among (filter_map built_generation r.history) plain.built_before;
        live_docs = all_live r.journal n (n + 1) (drop n r.journal) (omega arith)
            plain.frozen_within;
        fresh = refl;
        known = subst (λ (m : ℕ). n ≤ m) (sym frozen-freeze) plain.frozen_within;
        buildable = record {
          from = omega arith;
          upto = omega (arith, long, plain.frozen_within);
          some = omega (arith, long, some);
          most = omega (arith, long, few);
        };
      }

  pub freeze_keeps : (pieces : List PlainPiece) → AreCurrent r pieces
      → AreCurrent r-freeze (pieces ++ buffered_piece r ∷ [])
  freeze_keeps pieces are =
      let before : AllByRecursion (λ x. x < g) (map (λ p. p.generation) pieces) =
      subst (AllByRecursion (λ x. x < g)) (sym are.generations)
      (all_filter (λ x. x < g) (λ x. not (is_among x (replaced r.history))) (drawn r)
      plain.drawn_before) in
      let all = map-append (λ (p : PlainPiece). p.generation) pieces (buffered_piece r ∷ []) in
      let first = documents_from 1 (take n r.journal) in
      let last = documents_from (n + 1) (drop n r.journal) in
      let live : ℕ → PlainNumbered → Bool = λ m d. not (is_deleted r.journal m d) in
      let spread : all_documents (pieces ++ buffered_piece r ∷ []) ≡ all_documents pieces ++ last =
      flat_map-append piece_documents pieces (buffered_piece r ∷ [])
      ∙ ap (λ (ds : List PlainNumbered). all_documents pieces ++ ds) (append-nil last) in
      let long : 1 + length (take n r.journal) ≡ n + 1 =
      (let e = length-take n r.journal in omega (arith, e, plain.frozen_within)) in
      let journal : documents_from 1 (take u r.journal) ≡ first ++ last =
      ap (documents_from 1) (take_all u r.journal (omega arith)
      ∙ sym (take-append-drop n r.journal))
      ∙ documents_from-append 1 (take n r.journal) (drop n r.journal)
      ∙ ap (λ (m : ℕ). first ++ documents_from m (drop n r.journal)) long in
      let inside : (ds : List PlainNumbered)
      → filter (live u) (filter (live n) ds) ≡ filter (live u) ds =
      λ ds. filter_inside (live u) (live n) ds
      (λ d h. deleted_later r.journal n u d plain.frozen_within h) in
      let same : HaveSameItems (filter (live u) (all_documents pieces)) (filter (live u) first) =
      λ f. ap (total_of f) (sym (inside (all_documents pieces)))
      ∙ same_filtered (live u) (filter (live n) (all_documents pieces)) (filter (live n) first)
      are.live f ∙ ap (total_of f) (inside first) in
      record {
        generations =
            all ∙ ap (λ (gs : List ℕ). gs ++ g ∷ []) are.generations ∙ sym current-more;
        rising = rw all (rises_more 1 g (map (λ p. p.generation) pieces) are.rising before
            (omega arith));
        each = all_more (IsPieceOf r-freeze) pieces (buffered_piece r)
            (all_weaker (λ p. IsPieceOf r p × (p.generation < g)) (IsPieceOf r-freeze) old_piece
            pieces (all_pairs (IsPieceOf r) (λ p. p.generation < g) pieces are.each
            (generations_before g pieces before))) new_piece;
        live = rw (frozen-freeze, spread, journal) (λ f.
            ap (total_of f) (filter-append (live u) (all_documents pieces) last)
            ∙ same_more (filter (live u) (all_documents pieces)) (filter (live u) first)
            (filter (live u) last) same f
            ∙ ap (total_of f) (sym (filter-append (live u) first last)));
      }
