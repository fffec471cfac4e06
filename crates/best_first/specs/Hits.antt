-- The hits that a search of one segment hands up. Source: this project's own.
use Rattle.std.specs.Prelude.{ℕ, ◌≡◌, List, get_or}
use Rattle.sg_base.specs.declared.hit.Hit.{Hit}
use Rattle.sg_paths.specs.AllPaths.{FullPath, all_paths}
use Rattle.sg_paths.specs.Operations.{PlainNumbered}
use Rattle.best_first.specs.Parts.{HasSuggestion}
use Rattle.best_first.specs.PathMatches.{no_path, seq_at}

-- the path with an ordinal
abbrev pub path_at : List PlainNumbered → ℕ → FullPath
path_at ds ordinal = get_or (all_paths ds) ordinal no_path

-- the hit of a path with a score, in the segment at a place of its view
abbrev pub hit_of : List PlainNumbered → ℕ → ℕ → FullPath → Hit
hit_of ds piece score p = record {
  score = score;
  seq = seq_at ds p.entry.doc;
  piece = piece;
  doc = p.entry.doc;
  place = p.entry.place;
}

-- a hit of the segment: its document and its suggestion are there, it has the document's number,
-- and it is of that piece
pub record IsHitOf (ds : List PlainNumbered) (piece : ℕ) (h : Hit) : Type 0 where
  pub suggestion : HasSuggestion ds h.doc h.place
  pub seq : h.seq ≡ seq_at ds h.doc
  pub piece_is : h.piece ≡ piece
