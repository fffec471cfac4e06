-- What is known of the entry at which a path is followed.
use Rattle.std.proofs.Common.{◌≡◌, ◌<◌, ◌+◌, ◌-◌, ℕ, List, length, map, take, drop, sym}
use Rattle.std.proofs.Common.{subst, [], Bool, ap, ◌∙◌}
use Rattle.std.specs.Prelude.{slice_index_or}
use Rattle.sg_base.specs.Lists.{In}
use Rattle.sg_base.specs.declared.hit.Hit.{Hit}
use Rattle.sg_base.specs.declared.rank.Rank.{Rank}
use Rattle.sg_context.specs.Queries.{PlainQuery}
use Rattle.sg_base.specs.declared.node.Edge.{Edge}
use Rattle.sg_paths.specs.AllPaths.{all_paths}
use Rattle.sg_paths.specs.Operations.{PlainNumbered}
use Rattle.path_desk.specs.declared.entry.Entry.{Entry}
use Rattle.path_desk.specs.Entries.{queued}
use Rattle.path_desk.specs.Desks.{PlainDesk, path_of, stepped, taken_room}
use Rattle.collector.specs.Hits.{row_of}
use Rattle.best_first.specs.Followed.{FollowsPath}
use Rattle.best_first.specs.Hits.{path_at, hit_of}
use Rattle.best_first.specs.Matches.{Match, Best, Ends}
use Rattle.best_first.specs.Met.{IsMet}
use Rattle.best_first.specs.Parts.{HasSuggestion, key_at}
use Rattle.best_first.specs.PathMatches.{Setting, all_matches, match_at, setting_of, no_path}
use Rattle.best_first.specs.PathMatches.{seq_at}
use Rattle.best_first.specs.Steps.{IsWithin, IsFree, HasFreeArc, arcs_of, child, child_entry}
use Rattle.best_first.specs.Steps.{put_all, most_path_bytes}
use Rattle.best_first.proofs.SearchLemmas.{follows-over, follows-calls, free-in, current-sound}
use Rattle.best_first.proofs.SearchesLemmas.{score_at_end}

module _ (s : Setting) (nodes : List (List Edge)) (ds : List PlainNumbered) (r : List Match)
    (d : PlainDesk) (e : Entry) (f : FollowsPath s nodes ds r d e) where
  pub met : IsMet s nodes (queued e (path_of d))
  met = follows-over (all_matches s (all_paths ds)) (IsMet s nodes) r d e f.follows

  pub is_best : Best (all_matches s (all_paths ds)) (queued e (path_of d))
  is_best = (current-sound (all_matches s (all_paths ds)) (IsMet s nodes) r d.room [] d.waiting
      (taken_room d.reached d.followed) d.dropped (queued e (path_of d))
      f.follows.searching.progress).0

  pub is_node : e.node.0 < length nodes
  is_node = f.searches.knows.is_node (queued e (path_of d)) met

  pub short : (e.node.0 ≡ 0 → ⊥) → length (path_of d) < most_path_bytes nodes
  short inner = f.searches.knows.short (queued e (path_of d)) met inner

  pub within : (edges : List Edge) → edges ≡ arcs_of nodes e.node.0 → (a : Edge) → In a edges
      → IsWithin e a
  within edges is a i =
      f.searches.knows.within (queued e (path_of d)) met a (subst (λ zs. In a zs) is i)

  pub free : (edges : List Edge) → edges ≡ arcs_of nodes e.node.0 → (e.node.0 ≡ 0 → ⊥)
      → HasFreeArc edges
  free edges is inner = free-in (arcs_of nodes e.node.0) edges (sym is)
      (f.searches.knows.free (queued e (path_of d)) met inner)

  -- at the end there is a path with the ordinal, and its suggestion
  pub ordinal : e.node.0 ≡ 0 → e.ordinal < length (all_paths ds)
  ordinal z = f.searches.ordinal (queued e (path_of d)) met z

  pub suggestion : e.node.0 ≡ 0 → HasSuggestion ds (path_at ds e.ordinal).entry.doc
      (path_at ds e.ordinal).entry.place
  suggestion z = f.searches.suggestion e.ordinal no_path (ordinal z)

  pub ends : e.node.0 ≡ 0
      → Ends (all_matches s (all_paths ds)) (queued e (path_of d))
      (match_at s (all_paths ds) e.ordinal)
  ends z = f.searches.knows.end (queued e (path_of d)) met z

  pub end_score : e.node.0 ≡ 0 → (match_at s (all_paths ds) e.ordinal).rank.score ≡ e.score
  end_score z = score_at_end (all_matches s (all_paths ds)) (queued e (path_of d))
      (match_at s (all_paths ds) e.ordinal) is_best (ends z)

  -- one arc, from the clauses of the calls
  pub one_arc : (d1 d2 d3 : PlainDesk) (e' : Entry) (node : List Edge) (at' len : ℕ) (edge : Edge)
      → (e.node.0 ≡ 0 → ⊥) → node ≡ arcs_of nodes e.node.0
      → ((us : List Edge) × (vs : List Edge) × (a : Edge) × IsFree node us vs a
      × (length us ≡ at'))
      → d1 ≡ put_all d (map (child (queued e (path_of d))) (take (at' - 0) (drop 0 node)))
      → len ≡ length node
      → d2 ≡ put_all d1 (map (child (queued e (path_of d1)))
      (take (len - (at' + 1)) (drop (at' + 1) node)))
      → ((x : Edge) → edge ≡ slice_index_or node at' x) → d3 ≡ stepped d2 edge.label
      → e' ≡ child_entry e edge
      → FollowsPath s nodes ds r d3 e' × (length (path_of d3) ≡ length (path_of d) + 1)
  one_arc d1 d2 d3 e' node at' len edge inner is free_at q1 l q2 qe q3 qc =
      let done = follows-calls (all_matches s (all_paths ds)) (IsMet s nodes) r nodes
      (match_at s (all_paths ds)) f.searches.knows d d1 d2 d3 e e' node at' len edge f.follows
      inner is free_at q1 l q2 qe q3 qc in
      (record { searches = f.searches; follows = done.0 }, done.1)

abbrev rank_with : ℕ → List ℕ → ℕ → ℕ → Rank
rank_with score key seq place = record { score = score; key = key; seq = seq; place = place }

-- the hit at the end has the rank of the path
pub end_row : (query : PlainQuery) (ds : List PlainNumbered) (starts : List (List ℕ))
    (marks : List Bool) (nodes : List (List Edge)) (r : List Match) (d : PlainDesk) (e : Entry)
    → FollowsPath (setting_of query ds starts marks) nodes ds r d e → e.node.0 ≡ 0 → (piece : ℕ)
    → (key : Hit → List ℕ)
    → ((h : Hit) → HasSuggestion ds h.doc h.place → key h ≡ key_at ds h.doc h.place)
    → row_of key (hit_of ds piece e.score (path_at ds e.ordinal))
    ≡ (match_at (setting_of query ds starts marks) (all_paths ds) e.ordinal).rank
end_row query ds starts marks nodes r d e f z piece key keyed =
    let p = path_at ds e.ordinal in
    let s = setting_of query ds starts marks in
    let k : key (hit_of ds piece e.score p) ≡ p.entry.key =
    keyed (hit_of ds piece e.score p) (suggestion s nodes ds r d e f z)
    ∙ f.searches.key e.ordinal no_path (ordinal s nodes ds r d e f z) in
    ap (λ b. rank_with e.score b (seq_at ds p.entry.doc) p.entry.place) k
    ∙ ap (λ n. rank_with n p.entry.key (seq_at ds p.entry.doc) p.entry.place)
    (sym (end_score s nodes ds r d e f z))
