-- A search of documents that is done, or whose queue is empty, answers what a search must.
use Rattle.std.proofs.Common.{◌≡◌, ◌≤◌, ◌<◌, ◌∙◌, ℕ, Bool, true, false, List, [], length, map, sym}
use Rattle.std.proofs.Common.{arith, not, ◌&&◌, eqb, refl, ◌∷◌}
use Rattle.std.specs.Prelude.{Option, None, option_map, nat_le}
use Rattle.std.specs.List.{list_all}
use Rattle.std.proofs.lemmas.Bool.{and_parts}
use Rattle.std.proofs.lemmas.Bool.Decides.{nat_tests}
use Rattle.sg_base.specs.ByteStrings.{lacks}
use Rattle.sg_base.specs.Cuts.{PlainCut}
use Rattle.sg_base.specs.Keys.{is_key, is_key_byte}
use Rattle.sg_base.specs.declared.hit.Hit.{Hit}
use Rattle.sg_base.specs.declared.node.Edge.{Edge}
use Rattle.sg_base.specs.declared.rank.Rank.{Rank}
use Rattle.sg_base.specs.declared.reserved.TheConstants.{KEY_END}
use Rattle.sg_context.specs.Queries.{PlainQuery, IsQuery}
use Rattle.sg_paths.specs.AllPaths.{all_paths}
use Rattle.sg_paths.specs.Operations.{PlainNumbered}
use Rattle.sg_answers.specs.Reports.{live_of, viewed_segment, queue_size}
use Rattle.fst_walk.proofs.BoolLemmas.{clash}
use Rattle.path_desk.specs.Desks.{PlainDesk, cut_at, cleared}
use Rattle.path_desk.specs.declared.entry.Entry.{Entry}
use Rattle.collector.specs.Tops.{closed}
use Rattle.best_first.specs.Ends.{last_row, is_done}
use Rattle.best_first.specs.Followed.{HasBegun, BetweenPaths, ClosesAs, starts_of, setting}
use Rattle.best_first.specs.Matches.{Match}
use Rattle.best_first.specs.Met.{IsMet}
use Rattle.best_first.specs.Parts.{AreDocuments, IsMapping}
use Rattle.best_first.specs.PathMatches.{all_matches, match_at}
use Rattle.best_first.specs.Roots.{AreRoots}
use Rattle.best_first.specs.Segments.{IsSegment, started}
use Rattle.best_first.specs.Steps.{put_all}
use Rattle.best_first.proofs.BetweenLemmas.{between-begin}
use Rattle.best_first.proofs.ClosingLemmas.{Answers, closed-done, closed-ended}
use Rattle.best_first.proofs.SearchesLemmas.{segment_of}
use Rattle.best_first.proofs.SegmentLemmas.{roots_length}
use Rattle.best_first.proofs.WholeLemmas.{search_of}

-- no byte of a key ends one
pub lacks_end : (k : List ℕ) → list_all is_key_byte k ≡ true → lacks 0 k ≡ true
lacks_end [] h = refl
lacks_end (b ∷ bs) h = by (eqb b 0) (eqb b 29) (lacks_end bs) h
  where
    by : (x y : Bool) → (list_all is_key_byte bs ≡ true → lacks 0 bs ≡ true)
        → ((not x && not y) && list_all is_key_byte bs) ≡ true → (not x && lacks 0 bs) ≡ true
    by true y f h = h
    by false true f h = absurd (clash h)
    by false false f h = f h

pub key_lacks_end : (k : List ℕ) → is_key k ≡ true → lacks 0 k ≡ true
key_lacks_end k h = lacks_end k (and_parts (nat_le (length k) 255) (list_all is_key_byte k) h).1

at_most : (n : ℕ) → nat_le n 1 ≡ true → n ≤ 1
at_most n h = grind (arith, nat_tests)

holds : (n : ℕ) → n ≤ 1 → nat_le n 1 ≡ true
holds n h = grind (arith, nat_tests)

module _ (query : PlainQuery) (nodes : List (List Edge)) (ds : List PlainNumbered)
    (marks : List Bool) (generation : ℕ) (begun : HasBegun query nodes ds)
    (live : 0 < length (live_of ds marks)) (reached : List Match) (k : ℕ) (d : PlainDesk)
    (row : Hit → Rank) (hits : List Hit)
    (between : BetweenPaths query nodes ds marks reached k d (map row hits)) (one : Bool)
    (is : one ≡ nat_le (length (starts_of nodes query)) 1) (same : k ≡ query.k)
    (room : d.room ≡ queue_size query.k (viewed_segment generation ds marks)) where
  segment : IsSegment (all_matches (setting query nodes ds marks) (all_paths ds))
      (IsMet (setting query nodes ds marks) nodes) nodes
      (match_at (setting query nodes ds marks) (all_paths ds)) begun.roots query.prefix
  segment = segment_of query ds nodes marks begun.roots begun.documents begun.mapping
      begun.is_query begun.key begun.are_roots

  as_many : length begun.roots ≡ length (starts_of nodes query)
  as_many = roots_length query nodes 0 (starts_of nodes query) begun.roots begun.are_roots

  search_from : (cut : Option PlainCut)
      → Answers (all_matches (setting query nodes ds marks) (all_paths ds)) query.prefix
      (length begun.roots) k d.room generation (map row (closed k row hits cut).hits)
      (closed k row hits cut).cut
      → ClosesAs query (viewed_segment generation ds marks) k row hits cut
  search_from cut h = search_of query ds marks nodes generation begun.roots begun.documents
      begun.mapping begun.is_query begun.key begun.are_roots live k d.room same room
      (map row (closed k row hits cut).hits) (closed k row hits cut).cut h

  few : one ≡ true → length begun.roots ≤ 1
  few h = let n = at_most (length (starts_of nodes query)) (sym is ∙ h) in omega (arith, n, as_many)

  is_one : length begun.roots ≤ 1 → one ≡ true
  is_one h = is ∙ holds (length (starts_of nodes query)) (omega (arith, h, as_many))

  some : 1 ≤ k
  some = let least = begun.is_query.row_count.least in omega (arith, least, same)

  pub when_done : is_done one d (last_row k (map row hits)) ≡ true
      → ClosesAs query (viewed_segment generation ds marks) k row hits None
  when_done h = search_from None
      (closed-done (all_matches (setting query nodes ds marks) (all_paths ds))
      (IsMet (setting query nodes ds marks) nodes) nodes
      (match_at (setting query nodes ds marks) (all_paths ds)) begun.roots query.prefix segment
      reached k d row hits between one generation few h)

  pub when_empty : d.waiting ≡ [] → is_done one d (last_row k (map row hits)) ≡ false
      → (cut : Option PlainCut) → cut ≡ option_map (cut_at generation d.room) d.dropped
      → ClosesAs query (viewed_segment generation ds marks) k row hits cut
  when_empty empty going cut e = search_from cut
      (closed-ended (all_matches (setting query nodes ds marks) (all_paths ds))
      (IsMet (setting query nodes ds marks) nodes) nodes
      (match_at (setting query nodes ds marks) (all_paths ds)) begun.roots query.prefix segment
      reached k d row hits between one generation empty some going is_one cut e)

-- the starts are put in, and nothing is reached yet
pub begun : (query : PlainQuery) (nodes : List (List Edge)) (ds : List PlainNumbered)
    (marks : List Bool) → AreDocuments ds × IsMapping nodes ds
    → IsQuery query × (lacks KEY_END query.prefix ≡ true) → (roots : List Entry)
    → AreRoots query nodes 0 (starts_of nodes query) roots → (d0 d1 d2 : PlainDesk) (room k : ℕ)
    → d1 ≡ cleared d0 room → d2 ≡ put_all d1 (started query.prefix roots)
    → BetweenPaths query nodes ds marks [] k d2 [] × (d2.room ≡ room) × (d2.reached ≡ 0)
begun query nodes ds marks stands is roots are d0 d1 d2 room k q1 q2 =
    between-begin (all_matches (setting query nodes ds marks) (all_paths ds))
    (IsMet (setting query nodes ds marks) nodes) nodes
    (match_at (setting query nodes ds marks) (all_paths ds)) roots query.prefix
    (segment_of query ds nodes marks roots stands.0 stands.1 is.0 is.1 are) d0 d1 d2 room k q1 q2
