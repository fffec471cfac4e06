-- Keys of documents that have one suggestion each. Source: this project's own.
use Rattle.std.specs.Prelude.{ℕ, List, [], slice_index_or}
use Rattle.sg_base.specs.Placed.{Placed}
use Rattle.sg_base.specs.declared.hit.Hit.{Hit}

-- the key of a hit's document
abbrev pub key_in : List (Placed ℕ) → Hit → List ℕ
key_in keys h = (slice_index_or keys h.doc (record { items = []; places = 0 })).items
