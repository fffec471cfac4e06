-- A segment's table and transducer are what a search may rely on.
use Rattle.std.proofs.Common.{◌≡◌, ◌<◌, ◌≤◌, ℕ, List, [], ◌∷◌, length, inl, inr, subst, sym}
use Rattle.std.proofs.Common.{arith}
use Rattle.std.specs.List.{AllByRecursion}
use Rattle.sg_base.specs.Lists.{In, Pairs}
use Rattle.sg_paths.specs.declared.limits.TheConstants.{MOST_SEGMENT_PATHS}
use Rattle.sg_paths.specs.Operations.{PlainNumbered}
use Rattle.sg_paths.specs.AllPaths.{all_paths}
use Rattle.sg_paths.specs.PathLaws.{IsLegal}
use Rattle.fst_code.specs.Bytes.{nodes_of}
use Rattle.fst_code.specs.Lists.{list_of}
use Rattle.fst_code.specs.Transducers.{IsTransducer}
use Rattle.fst_walk.specs.Starts.{AllHaveContexts}
use Rattle.segment.specs.Represents.{RiseFrom, NumbersRise, path_tails}
use Rattle.sg_view.specs.PlainParts.{IsSegment}

-- each later document has a greater number
above : (seq : ℕ) (ds : List PlainNumbered) → RiseFrom seq ds → (d : PlainNumbered) → In d ds
    → seq < d.seq
above seq [] rise d among = elim among [ ]
above seq (x ∷ xs) rise d (inl e) = subst (λ (z : PlainNumbered). seq < z.seq) (sym e) rise.0
above seq (x ∷ xs) rise d (inr later) =
    let first : seq < x.seq = rise.0 in
    let behind : x.seq < d.seq = above x.seq xs rise.1 d later in omega arith

rising_from : (seq : ℕ) (ds : List PlainNumbered) → RiseFrom seq ds
    → Pairs (λ (a b : PlainNumbered). a.seq < b.seq) ds
rising_from seq [] rise = tt
rising_from seq (x ∷ xs) rise = (above x.seq xs rise.1, rising_from x.seq xs rise.1)

pub rising : (ds : List PlainNumbered) → NumbersRise ds
    → Pairs (λ (a b : PlainNumbered). a.seq < b.seq) ds
rising [] rise = tt
rising (x ∷ xs) rise = (above x.seq xs rise, rising_from x.seq xs rise)

-- from what a segment says of its documents, of its table and of its transducer
pub is_segment : (docs table : List PlainNumbered) (text : List ℕ) → table ≡ docs
    → NumbersRise docs → length (all_paths docs) ≤ MOST_SEGMENT_PATHS
    → AllByRecursion (λ p. IsLegal p.entry) (all_paths docs) → list_of text ≡ path_tails docs
    → IsTransducer (nodes_of text) → AllHaveContexts (list_of text)
    → IsSegment table (nodes_of text)
is_segment docs table text same rise few legal maps sound contexts =
    subst (λ (z : List PlainNumbered). IsSegment z (nodes_of text)) (sym same) (record {
      documents = record { legal = legal; few = few; rising = rising docs rise };
      mapping = record { transducer = sound; maps = maps };
      contexts = contexts;
    })
