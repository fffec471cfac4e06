-- What is found delete by delete. No public clause cites this module.
use Rattle.std.specs.Prelude.{ℕ, Bool, false, nat_lt, List, slice_get}
use Rattle.std.specs.Option.{option_map_or}
use Rattle.std.specs.List.{flat_map}
use Rattle.sg_paths.specs.Operations.{PlainNumbered}
use Rattle.seg_table.specs.Ids.{places_from}
use Rattle.delete_queue.specs.Deletes.{NumberedDelete, reaches}

-- whether the document at a place was added before the operation with the number seq
abbrev pub is_before : ℕ → List PlainNumbered → ℕ → Bool
is_before seq docs place = option_map_or (λ d. nat_lt d.seq seq) (slice_get docs place) false

-- the places that a delete reaches
abbrev pub places_of : List PlainNumbered → NumberedDelete → List ℕ
places_of docs e = places_from 0 (λ d. reaches d e) docs

-- the places that deletes reach, one delete after the other
abbrev pub places_reached : List PlainNumbered → List NumberedDelete → List ℕ
places_reached docs deletes = flat_map (places_of docs) deletes
