-- Views stay what they are in a legal record that continues another.
use Rattle.std.proofs.Common.{◌≡◌, ◌≤◌, ℕ, true, not, nat_eq, ◌||◌, List, [], ◌∷◌, length, map}
use Rattle.std.proofs.Common.{take, refl, sym, ap, ◌∙◌, subst, arith, length-append}
use Rattle.std.specs.Prelude.{filter}
use Rattle.std.specs.List.{AllByRecursion, filter_map}
use Rattle.std.proofs.lemmas.List.Elements.{filter_map-append, filter_agree}
use Rattle.std.proofs.lemmas.List.Folds.{list_any-append}
use Rattle.sg_paths.specs.Operations.{PlainOp, PlainNumbered, documents_from}
use Rattle.sg_paths.specs.LiveDocuments.{is_deleted, live_documents}
use Rattle.sg_answers.specs.Reports.{ViewedSegment, live_in}
use Rattle.segment.specs.Items.{total_of}
use Rattle.index_core.specs.Histories.{HistoryEvent, Record, View, drawn_generation, is_among}
use Rattle.index_core.specs.Records.{drawn}
use Rattle.index_core.specs.Generations.{documents_of}
use Rattle.index_core.specs.HeldGenerations.{WereDrawn}
use Rattle.index_core.specs.LegalHistories.{IsLegal}
use Rattle.index_shared.specs.OwnViews.{view_in}
use Rattle.index_shared.proofs.ExtendsLemmas.{still_holds}
use Rattle.index_single.specs.declared.caller.TheConstants.{CALLER}
use Rattle.index_shared.specs.Sections.{Extends}
use Rattle.sg_view.specs.Viewing.{PlainView}
use Rattle.sg_shell.specs.Runs.{segment_seen, segments_seen}
use Rattle.sg_shell.specs.Viewed.{IsSegmentOf, IsViewIn}
use Rattle.sg_shell.specs.Working.{NamedBuilt, IsShown}
use Rattle.sg_shell.proofs.ReportLemmas.{first_stays, deleted_stays, live_stays}

-- ---- generations

module _ (r s : Record) (legal : IsLegal r) (still : IsLegal s) (later : Extends r s) where
  drawn_still : (g : ℕ) → is_among g (drawn r) ≡ true → is_among g (drawn s) ≡ true
  drawn_still g there =
      ap (λ (h : List HistoryEvent). is_among g (filter_map drawn_generation h)) later.history_is
      ∙ ap (is_among g) (filter_map-append drawn_generation r.history later.events)
      ∙ list_any-append (nat_eq g) (drawn r) (filter_map drawn_generation later.events)
      ∙ ap (λ b. b || is_among g (filter_map drawn_generation later.events)) there

  were_drawn_still : (gs : List ℕ) → WereDrawn r gs → WereDrawn s gs
  were_drawn_still [] were = tt
  were_drawn_still (g ∷ gs) were = (drawn_still g were.0, were_drawn_still gs were.1)

  -- what is seen of generations that were drawn
  seen_stay : (n : ℕ) (gs : List ℕ) → n ≤ length r.journal → WereDrawn r gs
      → map (segment_seen s n) gs ≡ map (segment_seen r n) gs
  seen_stay n [] within were = refl
  seen_stay n (g ∷ gs) within were =
      let same = still_holds r s legal still later g were.0 in
      let seen : List PlainNumbered → List PlainNumbered → ViewedSegment = λ ds live. record {
        generation = g;
        documents = ds;
        live = live;
      } in
      let live : filter (λ d. not (is_deleted s.journal n d)) (documents_of s g)
      ≡ filter (λ d. not (is_deleted r.journal n d)) (documents_of r g) =
      ap (filter (λ d. not (is_deleted s.journal n d))) same
      ∙ filter_agree (λ d. not (is_deleted s.journal n d)) (λ d. not (is_deleted r.journal n d))
      (λ d. ap (λ (ops : List PlainOp). not (is_deleted ops n d)) later.journal_is
      ∙ ap not (deleted_stays r.journal later.operations n d within)) (documents_of r g) in
      ap (λ (x : ViewedSegment). x ∷ map (segment_seen s n) gs)
      (ap (λ (ds : List PlainNumbered). seen ds
      (filter (λ d. not (is_deleted s.journal n d)) (documents_of s g))) same
      ∙ ap (seen (documents_of r g)) live)
      ∙ ap (λ (xs : List ViewedSegment). segment_seen r n g ∷ xs)
      (seen_stay n gs within were.1)

  -- ---- views

  view_stays : (v : View) → WereDrawn r v.generations → IsViewIn r v
      → segments_seen s v ≡ segments_seen r v → IsViewIn s v
  view_stays v were is sees =
      let more = later.operations in
      let added : take v.upto s.journal ≡ take v.upto r.journal =
      ap (take v.upto) later.journal_is ∙ first_stays r.journal more v.upto is.within in
      let live : live_documents s.journal v.upto ≡ live_documents r.journal v.upto =
      ap (λ (ops : List PlainOp). live_documents ops v.upto) later.journal_is
      ∙ live_stays r.journal more v.upto is.within in
      record {
        within = (let long = ap (λ (ops : List PlainOp). length ops) later.journal_is in
            let both = length-append r.journal more in
            let inside = is.within in omega (arith, long, both, inside));
        same = λ f.
            ap (λ (ss : List ViewedSegment). total_of f (live_in ss)) sees ∙ is.same f
            ∙ ap (total_of f) (sym live);
        each = subst (λ (ops : List PlainOp).
            AllByRecursion (IsSegmentOf (documents_from 1 ops)) (segments_seen s v)) (sym added)
            (subst (AllByRecursion (IsSegmentOf (documents_from 1 (take v.upto r.journal))))
            (sym sees) is.each);
      }

  shown_stays : (v : PlainView) → IsShown r v → IsShown s v
  shown_stays v shown =
      let sees : segments_seen s (view_in CALLER v) ≡ segments_seen r (view_in CALLER v) =
      seen_stay v.upto v.generations shown.is_in.within shown.drawn in
      record {
        is_in = view_stays (view_in CALLER v) shown.drawn shown.is_in sees;
        sees = shown.sees ∙ sym sees;
        drawn = were_drawn_still v.generations shown.drawn;
      }

  -- what built views see stays
  pub all_shown : (os : List NamedBuilt) → AllByRecursion (λ o. IsShown r o.view) os
      → AllByRecursion (λ o. IsShown s o.view) os
  all_shown [] all = tt
  all_shown (o ∷ os) all = (shown_stays o.view all.0, all_shown os all.1)
