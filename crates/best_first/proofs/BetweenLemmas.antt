-- Between two paths: nothing is reached yet, a path is taken, and one path more is reached.
use Rattle.std.proofs.Common.{◌≡◌, ℕ, zero, suc, Bool, true, false, cond, List, [], ◌∷◌, ◌++◌, take}
use Rattle.std.proofs.Common.{map, refl, sym, ap, ◌∙◌, subst}
use Rattle.std.specs.List.{filter}
use Rattle.std.specs.Prelude.{None}
use Rattle.std.proofs.lemmas.List.{append-nil}
use Rattle.sg_base.specs.Rows.{ranked, put_row}
use Rattle.sg_base.specs.declared.node.Edge.{Edge}
use Rattle.sg_base.specs.declared.rank.Rank.{Rank}
use Rattle.path_desk.specs.Desks.{PlainDesk, taken_room, path_of, path_ended, following, cleared}
use Rattle.path_desk.specs.Desks.{put_entry}
use Rattle.path_desk.specs.Entries.{Queued, queued}
use Rattle.path_desk.specs.declared.entry.Entry.{Entry}
use Rattle.collector.proofs.KeptLemmas.{put_row-take}
use Rattle.collector.proofs.RankingLemmas.{is_ranking-ranked}
use Rattle.best_first.specs.Matches.{Match, Ends, ranks_of}
use Rattle.best_first.specs.Progress.{Progress}
use Rattle.best_first.specs.Segments.{Searching, Follows, Between, IsSegment, started}
use Rattle.best_first.specs.Steps.{put_all}
use Rattle.best_first.proofs.ChooseLemmas.{progress-reach, progress-begin}
use Rattle.best_first.proofs.ProgressLemmas.{progress-take}
use Rattle.best_first.proofs.SearchLemmas.{searching-put_all, followed-put_all}

pub put-kept : (k : ℕ) (r : Rank) (rows ms : List Rank) → rows ≡ take k (ranked ms)
    → take k (put_row r rows) ≡ take k (ranked (r ∷ ms))
put-kept k r rows ms e =
    ap (λ zs. take k (put_row r zs)) e ∙ put_row-take k r (ranked ms) (is_ranking-ranked ms).once

-- the followed path is at its end: it counts as reached
pub between-reached : (all : List Match) (P : Queued → Type 0) (reached : List Match)
    (d : PlainDesk) (e : Entry) (m : Match) → Follows all P reached d e
    → Ends all (queued e (path_of d)) m
    → Searching all P (m ∷ reached) (path_ended d) [] None
between-reached all P reached d e m f n = record {
  progress =
      subst (λ o. Progress all P (m ∷ reached) d.room [] d.waiting (taken_room d.reached o)
      d.dropped None) f.path
      (progress-reach all P reached d.room (queued e (path_of d)) [] d.waiting
      (taken_room d.reached d.followed) d.dropped f.searching.progress m n);
}

-- the first queued entry is taken
pub follows-first : (all : List Match) (P : Queued → Type 0) (reached : List Match) (d : PlainDesk)
    (e : Entry) (path : List ℕ) (rest : List Queued) → Searching all P reached d [] None
    → d.followed ≡ None → d.waiting ≡ queued e path ∷ rest
    → Follows all P reached (following d rest path) e
follows-first all P reached d e path rest s idle is = record {
  searching = record {
    progress = progress-take all P reached d.room (queued e path) rest d.reached d.dropped
        (subst (λ ws. Progress all P reached d.room [] ws d.reached d.dropped None) is
        (subst (λ o. Progress all P reached d.room [] d.waiting (taken_room d.reached o)
        d.dropped None) idle s.progress));
  };
  path = refl;
}

kept_after : (b : Bool) (k : ℕ) (m : Match) (rows new : List Rank) (reached : List Match)
    → m.live ≡ b → new ≡ cond b (take k (put_row m.rank rows)) rows
    → rows ≡ take k (ranked (ranks_of reached))
    → new ≡ take k (ranked (map (λ n. n.rank)
    (cond b (m ∷ filter (λ n. n.live) reached) (filter (λ n. n.live) reached))))
kept_after true k m rows new reached is e h = e ∙ put-kept k m.rank rows (ranks_of reached) h
kept_after false k m rows new reached is e h = e ∙ h

-- one path more is reached, and its row is kept
pub between-after : (all : List Match) (P : Queued → Type 0) (reached : List Match)
    (d d' : PlainDesk) (e : Entry) (m : Match) (k k' : ℕ) (rows new : List Rank)
    → Follows all P reached d e → Ends all (queued e (path_of d)) m
    → d' ≡ path_ended d → k' ≡ k → new ≡ cond m.live (take k (put_row m.rank rows)) rows
    → rows ≡ take k (ranked (ranks_of reached)) → Between all P (m ∷ reached) k' d' new
between-after all P reached d d' e m k k' rows new f n qd qk qn h =
    subst (λ z. Between all P (m ∷ reached) k' z new) (sym qd)
    (subst (λ z. Between all P (m ∷ reached) z (path_ended d) new) (sym qk)
    (record {
      searching = between-reached all P reached d e m f n;
      idle = refl;
      kept =
          kept_after m.live k m rows new reached refl qn h;
    }))

take_none : (k : ℕ) (none : List Rank) → none ≡ [] → [] ≡ take k none
take_none zero none e = refl
take_none (suc k) none e = sym (ap (take (suc k)) e)

room-put_all : (d : PlainDesk) (xs : List Queued) → (put_all d xs).room ≡ d.room
room-put_all d [] = refl
room-put_all d (x ∷ xs) = room-put_all (put_entry d x) xs

reached-put_all : (d : PlainDesk) (xs : List Queued) → (put_all d xs).reached ≡ d.reached
reached-put_all d [] = refl
reached-put_all d (x ∷ xs) = reached-put_all (put_entry d x) xs

-- the starts are put in
pub between-begin : (all : List Match) (P : Queued → Type 0) (nodes : List (List Edge))
    (match_at : ℕ → Match) (roots : List Entry) (prefix : List ℕ)
    → IsSegment all P nodes match_at roots prefix
    → (d0 d1 d2 : PlainDesk) (room k : ℕ) → d1 ≡ cleared d0 room
    → d2 ≡ put_all d1 (started prefix roots)
    → Between all P [] k d2 [] × (d2.room ≡ room) × (d2.reached ≡ 0)
between-begin all P nodes match_at roots prefix seg d0 d1 d2 room k q1 q2 =
    let xs : List Queued = started prefix roots in
    let start : Searching all P [] (cleared d0 room) (xs ++ []) None =
    subst (λ zs. Searching all P [] (cleared d0 room) zs None) (sym (append-nil xs))
    (record { progress = progress-begin all P room xs seg.begin seg.roots_sound }) in
    let D = put_all (cleared d0 room) xs in
    let loaded : Searching all P [] D [] None =
    searching-put_all all P [] (cleared d0 room) xs [] None start in
    let is : d2 ≡ D = q2 ∙ ap (λ z. put_all z xs) q1 in (
      subst (λ z. Between all P [] k z []) (sym is)
          (record {
            searching = loaded;
            idle = followed-put_all (cleared d0 room) xs;
            kept =
                take_none k [] refl;
          }),
      ap (λ z. z.room) is ∙ room-put_all (cleared d0 room) xs,
      ap (λ z. z.reached) is ∙ reached-put_all (cleared d0 room) xs,
    )
