-- The pieces of an offer are ready to be refreshed, and stay so whatever is appended.
use Rattle.std.proofs.Common.{◌≡◌, ◌≤◌, inr, ℕ, true, List, [], ◌∷◌, map}
use Rattle.std.proofs.Common.{sym, ap, ◌∙◌, subst, arith, Bool, ◌&&◌}
use Rattle.std.specs.Prelude.{nat_le}
use Rattle.std.proofs.lemmas.Bool.Decides.{nat_tests}
use Rattle.std.specs.List.{AllByRecursion}
use Rattle.sg_paths.specs.Operations.{PlainOp, PlainNumbered, PlainBatch}
use Rattle.sg_paths.specs.Batches.{Cover}
use Rattle.segment.specs.Pieces.{PlainPiece, live_docs_at}
use Rattle.segment.specs.Views.{PlainParts, IsBuildablePiece, AreBuildable}
use Rattle.piece_docs.proofs.LiveLemmas.{live_docs_less-covered}
use Rattle.index_core.specs.Histories.{Record, is_among}
use Rattle.index_core.specs.Records.{frozen, drawn, current}
use Rattle.index_core.specs.Generations.{documents_of}
use Rattle.index_core.specs.LegalHistories.{IsLegal}
use Rattle.index_core.specs.CurrentPieces.{is_segment, IsPieceOf, AreOf, after_built}
use Rattle.index_core.proofs.JournalLemmas.{live_docs_stay}
use Rattle.index_core.proofs.ListLemmas.{all_weaker, both}
use Rattle.index_core.proofs.SoundLemmas.{current_were}
use Rattle.index_core.proofs.SoundRecordLemmas.{legal_sound}
use Rattle.index_shared.specs.Sections.{Extends}
use Rattle.index_shared.specs.Offering.{Fits, IsReady}
use Rattle.index_shared.specs.Offers.{IsUpToDate}
use Rattle.index_shared.proofs.ExtendsLemmas.{still_holds}
use Rattle.index_shared.proofs.OfferEventLemmas.{tended_extends, tended_built}
use Rattle.index_shared.proofs.OfferGrowthLemmas.{drawn_grows, frozen_grows}
use Rattle.index_shared.proofs.OfferUpToDateLemmas.{up_to_date_stays}

-- ---- a later record

module _ (r s : Record) (legal : IsLegal r) (legal' : IsLegal s) (more : Extends r s) where
  pub fits_later : (upto g : ℕ) (ds : List PlainNumbered) (live : List Bool)
      → Fits r upto g ds live → Fits s upto g ds live
  fits_later upto g ds live fits =
      let within = fits.within in
      let less = frozen_grows r s more.events legal' more.history_is in
      let inside = (legal_sound r legal).plain.frozen_within in
      record {
        is_drawn = drawn_grows r s more.events g more.history_is fits.is_drawn;
        within = omega (arith, within, less);
        holds = fits.holds ∙ sym (still_holds r s legal legal' more g fits.is_drawn);
        live_docs = fits.live_docs
            ∙ sym (live_docs_stay r.journal more.operations upto ds
            (omega (arith, within, inside)))
            ∙ sym (ap (λ (os : List PlainOp). live_docs_at os upto ds) more.journal_is);
      }

  pub ready_later : (upto : ℕ) (bs : List PlainBatch) (p : PlainPiece) → IsReady r upto bs p
      → IsReady s upto bs p
  ready_later upto bs p ready = record {
    fits = fits_later upto p.generation _ _ ready.fits;
    done = λ is knows.
        up_to_date_stays r s more.events upto p.generation legal' more.history_is
        ready.fits.is_drawn (ready.done is knows);
    buildable = ready.buildable;
  }

  pub all_ready_later : (upto : ℕ) (bs : List PlainBatch) (ps : List PlainPiece)
      → AllByRecursion (IsReady r upto bs) ps → AllByRecursion (IsReady s upto bs) ps
  all_ready_later upto bs ps ready =
      all_weaker (IsReady r upto bs) (IsReady s upto bs) (ready_later upto bs) ps ready

-- ---- the first section

-- pieces know the deletes since the start, and no more than are frozen
abbrev AreKnown : ℕ → ℕ → List PlainPiece → Type 0
AreKnown start upto ps = AllByRecursion (λ p. (start ≤ p.applied) × (p.applied ≤ upto)) ps

ready_pieces : (r : Record) (upto start : ℕ) (bs : List PlainBatch) (ps : List PlainPiece)
    → upto ≡ frozen r → Cover r.journal start upto bs → AreKnown start upto ps
    → AllByRecursion (IsPieceOf r) ps → AllByRecursion IsBuildablePiece ps
    → AllByRecursion (λ g. is_among g (drawn r) ≡ true) (map (λ p. p.generation) ps)
    → AllByRecursion (IsReady r upto bs) ps
ready_pieces r upto start bs [] frozen-is covered known are buildable were = tt
ready_pieces r upto start bs (p ∷ ps) frozen-is covered known are buildable were = (
  record {
    fits = record {
      is_drawn = were.0;
      within = omega (arith, frozen-is);
      holds = are.0.documents;
      live_docs = live_docs_less-covered r.journal upto start bs p covered known.0.0 known.0.1
          are.0.live_docs;
    };
    done = λ is knows.
        inr (
          are.0.has_segment ∙ is,
          subst (λ (n : ℕ). upto ≤ n) are.0.applied_through knows,
        );
    buildable = buildable.0;
  },
  ready_pieces r upto start bs ps frozen-is covered known.1 are.1 buildable.1 were.1,
)

-- the pieces that were shared are ready
pub ready_all : (r : Record) (parts : PlainParts) → AreOf r parts → AreBuildable parts
    → AllByRecursion (IsReady r parts.upto parts.batches) parts.pieces
ready_all r parts of buildable =
    let own = of.parts_of.pieces in
    let generations : map (λ p. p.generation) parts.pieces ≡ current r =
    own.generations ∙ of.generations in
    ready_pieces r parts.upto own.start parts.batches parts.pieces of.upto own.covered own.known
    of.each buildable.pieces
    (subst (λ (gs : List ℕ). AllByRecursion (λ g. is_among g (drawn r) ≡ true) gs)
    (sym generations) (current_were r))

-- the same of what is read of them
pub ready_slices : (r : Record) (parts : PlainParts) (upto : ℕ) (ps : List PlainPiece)
    (bs : List PlainBatch) → upto ≡ parts.upto → ps ≡ parts.pieces → bs ≡ parts.batches
    → AreOf r parts → AreBuildable parts → AllByRecursion (IsReady r upto bs) ps
ready_slices r parts upto ps bs same pieces batches of buildable =
    let of_pieces = subst (λ (z : List PlainPiece).
    AllByRecursion (IsReady r parts.upto parts.batches) z) (sym pieces)
    (ready_all r parts of buildable) in
    let of_batches = subst (λ (z : List PlainBatch).
    AllByRecursion (IsReady r parts.upto z) ps) (sym batches) of_pieces in
    subst (λ (n : ℕ). AllByRecursion (IsReady r n bs) ps) (sym same) of_batches

-- ---- one piece

-- what fits a generation fits it once it is given a segment
pub fits_built : (c x upto g : ℕ) (r now s : Record) (ds : List PlainNumbered) (live : List Bool)
    → r ≡ now → IsLegal r → IsLegal s → s ≡ after_built c x r
    → (IsLegal now → Fits now upto g ds live) → Fits s upto g ds live
fits_built c x upto g r now s ds live same legal legal' is fits =
    let more = tended_extends c 1 r (after_built c x r) (tended_built c x r) in
    fits_later r s legal legal' (subst (Extends r) (sym is) more) upto g ds live
    (subst (λ (x : Record). Fits x upto g ds live) (sym same) (fits (subst IsLegal same legal)))

-- what misses nothing is up to date
pub skipped_up : (r : Record) (upto : ℕ) (bs : List PlainBatch) (p : PlainPiece)
    → IsReady r upto bs p → (is_segment p.body && nat_le upto p.applied) ≡ true
    → IsUpToDate r upto p.generation
skipped_up r upto bs p ready is =
    let tests = both (is_segment p.body) (nat_le upto p.applied) is in
    let knows = tests.1 in ready.done tests.0 (grind (arith, nat_tests, knows))

-- the live docs of what a generation gets are those of its documents
pub live_docs_of : (r : Record) (upto g : ℕ) (ds : List PlainNumbered) (live : List Bool)
    → Fits r upto g ds live → live ≡ live_docs_at r.journal upto (documents_of r g)
live_docs_of r upto g ds live fits =
    fits.live_docs
    ∙ ap (λ (es : List PlainNumbered). live_docs_at r.journal upto es) fits.holds
