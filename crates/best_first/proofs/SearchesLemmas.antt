-- Documents, the transducer of their paths and a query are what the loops of a search know.
use Rattle.std.proofs.Common.{Bool, ◌≡◌, ◌≤◌, ◌<◌, inl, inr, ℕ, zero, suc, true, Some, List, []}
use Rattle.std.proofs.Common.{◌∷◌, length, get_or, refl, sym, ap, ◌∙◌, subst, arith}
use Rattle.std.specs.Prelude.{IfSome}
use Rattle.sg_base.specs.ByteStrings.{lacks}
use Rattle.sg_base.specs.Lists.{In}
use Rattle.sg_base.specs.declared.node.Edge.{Edge}
use Rattle.sg_context.specs.Boosts.{boost_of, IsBoost}
use Rattle.sg_context.specs.Queries.{PlainQuery, IsQuery}
use Rattle.sg_context.proofs.BoostLemmas.{boost_of-IsBoost}
use Rattle.sg_paths.specs.AllPaths.{FullPath, all_paths}
use Rattle.sg_paths.specs.Operations.{PlainNumbered}
use Rattle.fst_code.specs.Lists.{root_paths}
use Rattle.fst_code.specs.Tails.{tails}
use Rattle.fst_walk.specs.Starts.{start_contexts}
use Rattle.fst_walk.proofs.PlaceLemmas.{place_ordinal}
use Rattle.path_desk.specs.Entries.{Queued}
use Rattle.path_desk.specs.declared.entry.Entry.{Entry}
use Rattle.collector.proofs.ListLemmas.{map-length}
use Rattle.best_first.specs.Matches.{Match, Best, Ends}
use Rattle.best_first.specs.Met.{IsMet}
use Rattle.best_first.specs.Parts.{AreDocuments, IsMapping}
use Rattle.best_first.specs.PathMatches.{Setting, tail_of, setting_of, match_at, matches_of}
use Rattle.best_first.specs.Roots.{AreRoots}
use Rattle.best_first.specs.Searches.{Searches}
use Rattle.best_first.specs.Segments.{IsSegment}
use Rattle.best_first.proofs.GroundLemmas.{is_ground}
use Rattle.best_first.proofs.Grounds.{IsGround}
use Rattle.best_first.proofs.KeyLemmas.{path_suggestion, path_key}
use Rattle.best_first.proofs.SegmentLemmas.{is_segment, knows_at}

-- a query's boosts are 1 or greater
boosts_of : (q : PlainQuery) → IsQuery q → (c : List ℕ) (b : ℕ) → boost_of q.contexts c ≡ Some b
    → 1 ≤ b
boosts_of q is c b e =
    let h : IsBoost b =
    subst (λ o. IfSome o IsBoost) e (boost_of-IsBoost q.contexts c is.boosts) in
    h.least

-- the setting of a query over documents, where the transducer gives the starts
abbrev pub setting_at : PlainQuery → List PlainNumbered → List (List Edge) → List Bool → Setting
setting_at q ds nodes marks = setting_of q ds (start_contexts (root_paths nodes) q) marks

ground_of : (q : PlainQuery) (ds : List PlainNumbered) (nodes : List (List Edge))
    (marks : List Bool) → AreDocuments ds → IsMapping nodes ds → IsQuery q
    → lacks 0 q.prefix ≡ true → IsGround (setting_at q ds nodes marks) nodes (all_paths ds)
ground_of q ds nodes marks a m is clean =
    is_ground q ds nodes marks a m clean (boosts_of q is)

-- what a search assumes of a segment
pub segment_of : (q : PlainQuery) (ds : List PlainNumbered) (nodes : List (List Edge))
    (marks : List Bool) (roots : List Entry) → AreDocuments ds → IsMapping nodes ds → IsQuery q
    → lacks 0 q.prefix ≡ true → AreRoots q nodes 0 (start_contexts (root_paths nodes) q) roots
    → IsSegment (matches_of q ds (start_contexts (root_paths nodes) q) marks)
    (IsMet (setting_at q ds nodes marks) nodes) nodes
    (match_at (setting_at q ds nodes marks) (all_paths ds)) roots q.prefix
segment_of q ds nodes marks roots a m is clean are =
    is_segment (setting_at q ds nodes marks) nodes (all_paths ds)
    (ground_of q ds nodes marks a m is clean) roots are

at_in : (ps : List FullPath) (i : ℕ) (none : FullPath) → i < length ps → In (get_or ps i none) ps
at_in [] i none h = absurd (omega (arith, h))
at_in (p ∷ ps) zero none h = inl refl
at_in (p ∷ ps) (suc i) none h = inr (at_in ps i none (omega (arith, h)))

-- at the end an entry's ordinal is that of a path
end_ordinal : (s : Setting) (nodes : List (List Edge)) (ps : List FullPath) → IsGround s nodes ps
    → (p : Queued) → IsMet s nodes p → p.entry.node.0 ≡ 0 → p.entry.ordinal < length ps
end_ordinal s nodes ps g p k z =
    let h = k.is_node in
    let o = place_ordinal (root_paths nodes) (tails nodes) _ _ _ _ k.meets in
    let end = (g.sound.the_end (omega (arith, h))).1 in
    let one : length (tails nodes p.entry.node.0) ≡ 1 =
    ap (λ n. length (tails nodes n)) z ∙ ap length end in
    let all : length (root_paths nodes) ≡ length ps =
    ap length g.lists ∙ map-length tail_of ps in
    omega (arith, o, one, all)

-- what its loops know
pub searches : (q : PlainQuery) (ds : List PlainNumbered) (nodes : List (List Edge))
    (marks : List Bool) → AreDocuments ds → IsMapping nodes ds → IsQuery q
    → lacks 0 q.prefix ≡ true → Searches (setting_at q ds nodes marks) nodes ds
searches q ds nodes marks a m is clean =
    let g = ground_of q ds nodes marks a m is clean in
    record {
      knows = knows_at (setting_at q ds nodes marks) nodes (all_paths ds) g;
      ordinal = end_ordinal (setting_at q ds nodes marks) nodes (all_paths ds) g;
      suggestion = λ i none h. path_suggestion ds (get_or (all_paths ds) i none)
          (at_in (all_paths ds) i none h);
      key = λ i none h. path_key ds (get_or (all_paths ds) i none)
          (at_in (all_paths ds) i none h);
    }

-- at the end of a path its score is that of its match
pub score_at_end : (all : List Match) (e : Queued) (m : Match) → Best all e → Ends all e m
    → m.rank.score ≡ e.entry.score
score_at_end all e m b n =
    ap (λ (z : Match). z.rank.score) (sym (n.alone b.met.0 b.met.1 b.met.2)) ∙ b.met.3
