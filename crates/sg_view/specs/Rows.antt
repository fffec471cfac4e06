-- Hits of a view's segments. Source: this project's own.
use Rattle.std.specs.Prelude.{◌≡◌, ℕ, ◌<◌, List, [], length, get_or}
use Rattle.sg_base.specs.declared.hit.Hit.{Hit}
use Rattle.sg_paths.specs.Documents.{PlainDocument, PlainSuggestion}
use Rattle.sg_paths.specs.Operations.{PlainNumbered}
use Rattle.best_first.specs.Parts.{HasSuggestion, suggestions_at, no_suggestion}
use Rattle.best_first.specs.Parts.{no_document, seq_at}
use Rattle.sg_view.specs.Viewing.{LiveSegment}

-- the segment behind the last
abbrev pub no_segment : LiveSegment
no_segment = record { generation = 0; documents = []; live_docs = [] }

-- the documents of the segment at a place
abbrev pub documents_at : List LiveSegment → ℕ → List PlainNumbered
documents_at segments piece = (get_or segments piece no_segment).documents

-- there is a segment at the hit's piece, and in it the document and the suggestion
abbrev pub HasHit : List LiveSegment → Hit → Type 0
HasHit segments h =
    (h.piece < length segments) × HasSuggestion (documents_at segments h.piece) h.doc h.place

-- the hit's number is its document's
abbrev pub IsNumbered : List LiveSegment → Hit → Type 0
IsNumbered segments h = h.seq ≡ seq_at (documents_at segments h.piece) h.doc

-- the hit's document
abbrev pub hit_document : List LiveSegment → Hit → PlainDocument
hit_document segments h = (get_or (documents_at segments h.piece) h.doc no_document).document

-- the hit's suggestion
abbrev pub hit_suggestion : List LiveSegment → Hit → PlainSuggestion
hit_suggestion segments h =
    get_or (suggestions_at (documents_at segments h.piece) h.doc) h.place no_suggestion

-- its key
abbrev pub hit_key : List LiveSegment → Hit → List ℕ
hit_key segments h = (hit_suggestion segments h).key
