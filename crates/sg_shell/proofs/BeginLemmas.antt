-- Views that begin: what they see, and what is left where one has ended again.
use Rattle.std.proofs.Common.{◌≡◌, ◌≤◌, ◌<◌, ◌+◌, ℕ, Bool, true, false, cond, not, List, [], ◌∷◌}
use Rattle.std.proofs.Common.{◌++◌, length, map, take, refl, sym, ap, ◌∙◌, subst, arith}
use Rattle.std.specs.Prelude.{filter, Contains, Some}
use Rattle.std.specs.List.{AllByRecursion, flat_map}
use Rattle.std.proofs.lemmas.List.{take_all}
use Rattle.std.proofs.lemmas.List.Elements.{filter-append}
use Rattle.sg_paths.specs.Operations.{PlainOp, PlainNumbered, documents_from}
use Rattle.sg_paths.specs.LiveDocuments.{is_deleted}
use Rattle.sg_answers.specs.Reports.{live_in}
use Rattle.sg_answers.proofs.TakingLemmas.{filter_at_most}
use Rattle.segment.specs.Items.{total_of}
use Rattle.segment.specs.Pieces.{PlainPiece, piece_documents}
use Rattle.segment.specs.Views.{PlainParts, AreParts, all_documents}
use Rattle.index_core.specs.Histories.{Record, View, is_among}
use Rattle.index_core.specs.declared.limits.TheConstants.{MOST_OPEN_VIEWS}
use Rattle.index_core.specs.Records.{accepted, current, open_views}
use Rattle.index_core.specs.Generations.{documents_of, holders_of}
use Rattle.index_core.specs.HeldGenerations.{WereDrawn}
use Rattle.index_core.specs.LegalHistories.{IsLegal}
use Rattle.index_core.specs.OpenViews.{view_of}
use Rattle.index_core.specs.Calls.{after_freeze, after_begin, after_end, begun_by}
use Rattle.index_core.specs.CurrentPieces.{AreOf}
use Rattle.index_core.proofs.SoundLemmas.{current_were}
use Rattle.index_shared.specs.OwnViews.{view_in}
use Rattle.index_shared.proofs.OwnViewLemmas.{view_in-view_of}
use Rattle.index_single.specs.declared.caller.TheConstants.{CALLER}
use Rattle.sg_view.specs.Viewing.{PlainView, Represents, IsViewOf}
use Rattle.sg_shell.specs.Runs.{segment_seen, segments_seen}
use Rattle.sg_shell.specs.Viewed.{ArePartOf, IsSegmentOf, IsViewIn}
use Rattle.sg_shell.specs.Working.{Passes, IsShown, Begins}
use Rattle.sg_shell.proofs.GainLemmas.{gains-freeze, gains-begin, gains-end, gains-then}
use Rattle.sg_shell.proofs.HoldingLemmas.{passed_holds}
use Rattle.sg_shell.proofs.PassLemmas.{gained_passes}
use Rattle.sg_shell.proofs.ReportLemmas.{built_sees}

-- ---- what a view sees that has begun

-- what is seen live is what is live of all documents
live_seen : (r : Record) (n : ℕ) (gs : List ℕ)
    → live_in (map (segment_seen r n) gs)
    ≡ filter (λ d. not (is_deleted r.journal n d)) (flat_map (documents_of r) gs)
live_seen r n [] = refl
live_seen r n (g ∷ gs) =
    let live : PlainNumbered → Bool = λ d. not (is_deleted r.journal n d) in
    ap (λ (ds : List PlainNumbered). filter live (documents_of r g) ++ ds) (live_seen r n gs)
    ∙ sym (filter-append live (documents_of r g) (flat_map (documents_of r) gs))

-- lists in lists, one behind the other
abbrev joined : {X : Type 0} → List (List X) → List X
joined [] = []
joined (xs ∷ xss) = xs ++ joined xss

joined_map : {X Y : Type 0} (f : Y → List X) (ys : List Y) → flat_map f ys ≡ joined (map f ys)
joined_map f [] = refl
joined_map f (y ∷ ys) = ap (λ zs. f y ++ zs) (joined_map f ys)

same_documents : (r : Record) (ps : List PlainPiece) (gs : List ℕ)
    → map piece_documents ps ≡ map (documents_of r) gs
    → all_documents ps ≡ flat_map (documents_of r) gs
same_documents r ps gs same =
    joined_map piece_documents ps ∙ ap joined same ∙ sym (joined_map (documents_of r) gs)

-- what passes a test is a part
filter_part : (p : PlainNumbered → Bool) (ds : List PlainNumbered) → ArePartOf (filter p ds) ds
filter_part p [] f = omega arith
filter_part p (d ∷ ds) f = by_test (p d) (filter_part p ds f)
  where
    by_test : (b : Bool) → total_of f (filter p ds) ≤ total_of f ds
        → total_of f (cond b (d ∷ filter p ds) (filter p ds)) ≤ f d + total_of f ds
    by_test true h = omega (arith, h)
    by_test false h = omega (arith, h)

segments_in : (r : Record) (n : ℕ) (added : List PlainNumbered) (gs : List ℕ)
    → documents_from 1 r.journal ≡ added
    → AllByRecursion (IsSegmentOf added) (map (segment_seen r n) gs)
segments_in r n added [] is = tt
segments_in r n added (g ∷ gs) is = (
  record {
    part = subst (ArePartOf (documents_of r g)) is
        (filter_part (λ d. is_among g (holders_of r d)) (documents_from 1 r.journal));
    fewer_live = filter_at_most (λ d. not (is_deleted r.journal n d)) (documents_of r g);
  },
  segments_in r n added gs is,
)

-- parts of everything are of a view in the record
pub begun_in : (r : Record) (caller : ℕ) (parts : PlainParts) → AreOf r parts
    → parts.upto ≡ length r.journal → IsViewIn r (view_of caller parts)
begun_in r caller parts of whole =
    let all : take parts.upto r.journal ≡ r.journal =
    take_all parts.upto r.journal (omega (arith, whole)) in
    record {
      within = of.parts_of.pieces.within;
      same = λ f.
          ap (total_of f) (live_seen r parts.upto parts.generations
          ∙ ap (filter (λ d. not (is_deleted r.journal parts.upto d)))
          (sym (same_documents r parts.pieces parts.generations of.documents)))
          ∙ of.parts_of.live f;
      each = segments_in r parts.upto (documents_from 1 (take parts.upto r.journal))
          parts.generations (ap (documents_from 1) (sym all));
    }

-- ---- begun, built, ended

pub begun_shown : (old new : Record) (parts : PlainParts) (v : PlainView) → IsLegal new
    → new ≡ after_begin CALLER old → view_of CALLER parts ≡ begun_by CALLER old → AreOf new parts
    → IsViewOf parts v → Represents new.journal v
    → (view_in CALLER v ≡ begun_by CALLER old) × IsShown new v
begun_shown old new parts v legal is begun of view represents =
    let same : view_in CALLER v ≡ view_of CALLER parts = view_in-view_of CALLER parts v view in
    let count : accepted (after_freeze CALLER old) ≡ accepted new =
    (let before = (gains-freeze CALLER old).counted in
    let after = (gains-begin CALLER old).counted in
    let now = ap accepted is in omega (arith, before, after, now)) in
    let upto : parts.upto ≡ length new.journal =
    ap (λ (x : View). x.upto) begun ∙ count ∙ sym legal.numbered in
    let are_current : v.generations ≡ current new = view.generations ∙ of.generations in (
      same ∙ begun,
      record {
        is_in = subst (IsViewIn new) (sym same) (begun_in new CALLER parts of upto);
        sees = built_sees new CALLER parts v of view represents
            ∙ ap (segments_seen new) (sym same);
        drawn = subst (λ (gs : List ℕ). WereDrawn new gs) (sym are_current) (current_were new);
      },
    )

-- a view that began has ended again
pub passed : (old : Record) (number : ℕ) (new : Record) → IsLegal new
    → (begun_by CALLER old).view ≡ number
    → new ≡ after_end CALLER number (after_begin CALLER old) → Passes old new
passed old number new legal same is =
    let n = (begun_by CALLER old).view in
    let mid = after_begin CALLER old in
    gained_passes [] old new (after_end CALLER n mid) legal
    (is ∙ ap (λ (k : ℕ). after_end CALLER k mid) (sym same))
    (gains-then [] old mid (after_end CALLER n mid) (gains-begin CALLER old)
    (gains-end CALLER n mid)) (λ kept views. passed_holds CALLER old kept views)

-- a view was begun and built
pub begins_some : (old mid new : Record) (parts : PlainParts) (v : PlainView) → IsLegal mid
    → length (open_views old) < MOST_OPEN_VIEWS → mid ≡ after_begin CALLER old → new ≡ mid
    → view_of CALLER parts ≡ begun_by CALLER old → AreOf mid parts
    → Contains (open_views mid) (view_of CALLER parts) → IsViewOf parts v
    → ((journal : List PlainOp) → AreParts journal parts → Represents journal v)
    → Begins old new (Some v)
begins_some old mid new parts v legal room is same begun of there view represents =
    let shown = begun_shown old mid parts v legal is begun of view
    (represents mid.journal of.parts_of) in
    let here : view_in CALLER v ≡ view_of CALLER parts = view_in-view_of CALLER parts v view in (
      room,
      same ∙ is,
      shown.0,
      subst (λ (r : Record). IsShown r v) (sym same) shown.1,
      subst (λ (x : View). Contains (open_views new) x) (sym here)
          (subst (λ (r : Record). Contains (open_views r) (view_of CALLER parts)) (sym same) there),
    )

-- or has ended again
pub begins_failed : (old mid new : Record) (parts : PlainParts) → IsLegal new
    → mid ≡ after_begin CALLER old → view_of CALLER parts ≡ begun_by CALLER old
    → new ≡ after_end CALLER parts.number mid → Passes old new
begins_failed old mid new parts legal is begun ends =
    passed old parts.number new legal (sym (ap (λ (v : View). v.view) begun))
    (ends ∙ ap (after_end CALLER parts.number) is)
