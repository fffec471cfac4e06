-- The matching paths that a search meets are those of the documents, each once.
use Rattle.std.proofs.Common.{◌≡◌, ◌+◌, ◌*◌, ℕ, suc, Bool, true, false, ◌&&◌, cond, nat_eq}
use Rattle.std.proofs.Common.{filter, map, List, [], ◌∷◌, refl, sym, ap, ◌∙◌, arith}
use Rattle.std.proofs.Common.{Option, Some, None}
use Rattle.std.specs.Prelude.{is_some, filter_map, option_map}
use Rattle.std.specs.List.{starts_with, cons_option}
use Rattle.sg_base.specs.ByteStrings.{begins}
use Rattle.sg_base.specs.Ranking.{in_order}
use Rattle.sg_base.specs.declared.rank.Rank.{Rank}
use Rattle.sg_context.specs.Boosts.{boost_of}
use Rattle.sg_context.specs.Queries.{PlainQuery}
use Rattle.sg_paths.specs.Operations.{PlainNumbered}
use Rattle.sg_paths.specs.Paths.{PlainPath, paths}
use Rattle.sg_paths.specs.AllPaths.{Entry, FullPath, entry_of, path_entries, entry_cmp}
use Rattle.sg_paths.specs.AllPaths.{number_after, numbered, all_paths}
use Rattle.sg_answers.specs.Answers.{matching_ranks, path_rank, rank_with}
use Rattle.sg_answers.specs.Reports.{matching, live_of}
use Rattle.fst_walk.specs.Starts.{total}
use Rattle.best_first.specs.Matches.{Match, ranks_of}
use Rattle.best_first.specs.PathMatches.{Setting, boost_or, rank_of, match_of, is_match}
use Rattle.best_first.specs.PathMatches.{live_at, seq_at, setting_of}
use Rattle.best_first.specs.PathMatches.{matches_of}
use Rattle.best_first.proofs.SumLemmas.{total-append, total-map, total-in_order, total-filter}

clash : {A : Type 0} → true ≡ false → A
clash e = absurd cc

pub begins-starts_with : (p bs : List ℕ) → begins p bs ≡ starts_with nat_eq bs p
begins-starts_with [] bs = refl
begins-starts_with (a ∷ p) [] = refl
begins-starts_with (a ∷ p) (b ∷ bs) = ap (λ z. nat_eq a b && z) (begins-starts_with p bs)

total-numbered : (f : Entry → ℕ) (last : Option (Entry × ℕ)) (es : List Entry)
    → total (λ (p : FullPath). f p.entry) (numbered last es) ≡ total f es
total-numbered f last [] = refl
total-numbered f last (e ∷ es) =
    ap (λ n. f e + n) (total-numbered f (Some (e, number_after last e)) es)

-- the documents that are chosen by place
abbrev chosen : ℕ → (ℕ → Bool) → List PlainNumbered → List PlainNumbered
chosen k w [] = []
chosen k w (d ∷ ds) = cond (w k) (d ∷ chosen (k + 1) w ds) (chosen (k + 1) w ds)

chosen-all : (k : ℕ) (ds : List PlainNumbered) → chosen k (λ _. true) ds ≡ ds
chosen-all k [] = refl
chosen-all k (d ∷ ds) = ap (λ z. d ∷ z) (chosen-all (k + 1) ds)

first_place : (k : ℕ) → k ≡ k + 0
first_place k = omega arith

later_place : (k i : ℕ) → k + 1 + i ≡ k + suc i
later_place k i = omega arith

none_live : (xs : List PlainNumbered) → live_of xs [] ≡ []
none_live [] = refl
none_live (x ∷ xs) = refl

chosen-live : (k : ℕ) (w : ℕ → Bool) (ds : List PlainNumbered) (marks : List Bool)
    → ((i : ℕ) → w (k + i) ≡ live_at marks i) → chosen k w ds ≡ live_of ds marks
chosen-live k w [] marks f = refl
chosen-live k w (d ∷ ds) [] f =
    let e : w k ≡ false = ap w (first_place k) ∙ f 0 in
    ap (λ b. cond b (d ∷ chosen (k + 1) w ds) (chosen (k + 1) w ds)) e
    ∙ chosen-live (k + 1) w ds [] (λ i. ap w (later_place k i) ∙ f (suc i))
    ∙ none_live ds
chosen-live k w (d ∷ ds) (m ∷ marks) f =
    let e : w k ≡ m = ap w (first_place k) ∙ f 0 in
    let h = chosen-live (k + 1) w ds marks (λ i. ap w (later_place k i) ∙ f (suc i)) in
    ap (λ b. cond b (d ∷ chosen (k + 1) w ds) (chosen (k + 1) w ds)) e
    ∙ ap (λ z. cond m (d ∷ z) z) h

-- one document
module _ (s : Setting) (f : Rank → ℕ) where
  -- what an entry adds, where its document is chosen
  abbrev share : (ℕ → Bool) → Entry → ℕ
  share w e = cond (is_match s e) (cond (w e.doc) (f (rank_of s e)) 0) 0

  path_by : (k : ℕ) (x : PlainPath) (rest : List Rank) (b : Bool) (o : Option ℕ) (v : Bool)
      → v ≡ true
      → cond (b && is_some o) (cond v (f (record {
        score = x.weight * boost_or o;
        key = x.key;
        seq = s.seqs k;
        place = x.place;
      })) 0) 0 + total f rest
      ≡ total f (cons_option (option_map (rank_with (s.seqs k) x) (cond b o None)) rest)
  path_by k x rest true None v t = omega arith
  path_by k x rest true (Some n) true t = refl
  path_by k x rest true (Some n) false t = clash (sym t)
  path_by k x rest false o v t = omega arith

  one_path : (k : ℕ) (w : ℕ → Bool) (x : PlainPath) (rest : List Rank) → w k ≡ true
      → share w (entry_of k x) + total f rest
      ≡ total f (cons_option (path_rank s.query (s.seqs k) x) rest)
  one_path k w x rest t =
      path_by k x rest (begins s.query.prefix x.key) (boost_of s.query.contexts x.context) (w k) t
      ∙ ap (λ b. total f (cons_option (option_map (rank_with (s.seqs k) x)
      (cond b (boost_of s.query.contexts x.context) None)) rest))
      (begins-starts_with s.query.prefix x.key)

  document_shares : (k : ℕ) (w : ℕ → Bool) (xs : List PlainPath) → w k ≡ true
      → total (share w) (map (entry_of k) xs)
      ≡ total f (filter_map (path_rank s.query (s.seqs k)) xs)
  document_shares k w [] t = refl
  document_shares k w (x ∷ xs) t =
      ap (λ n. share w (entry_of k x) + n) (document_shares k w xs t)
      ∙ one_path k w x (filter_map (path_rank s.query (s.seqs k)) xs) t

  none_by : (a v : Bool) (n : ℕ) → v ≡ false → cond a (cond v n 0) 0 ≡ 0
  none_by true true n e = clash e
  none_by true false n e = refl
  none_by false v n e = refl

  no_shares : (k : ℕ) (w : ℕ → Bool) (xs : List PlainPath) → w k ≡ false
      → total (share w) (map (entry_of k) xs) ≡ 0
  no_shares k w [] t = refl
  no_shares k w (x ∷ xs) t =
      let h = no_shares k w xs t in
      let c = none_by (is_match s (entry_of k x)) (w k) (f (rank_of s (entry_of k x))) t in
      omega (arith, h, c)

  document_by : (k : ℕ) (w : ℕ → Bool) (d : PlainNumbered) (es : List Entry)
      (ds : List PlainNumbered) (b : Bool) → w k ≡ b → s.seqs k ≡ d.seq
      → total (share w) es ≡ total f (matching s.query ds)
      → total (share w) (map (entry_of k) (paths d.document)) + total (share w) es
      ≡ total f (matching s.query (cond b (d ∷ ds) ds))
  document_by k w d es ds true t seq h =
      let one : total (share w) (map (entry_of k) (paths d.document))
      ≡ total f (matching_ranks s.query d) =
      document_shares k w (paths d.document) t
      ∙ ap (λ n. total f (filter_map (path_rank s.query n) (paths d.document))) seq in
      let both = total-append f (matching_ranks s.query d) (matching s.query ds) in
      omega (arith, one, both, h)
  document_by k w d es ds false t seq h =
      let none = no_shares k w (paths d.document) t in omega (arith, none, h)

  documents_shares : (k : ℕ) (w : ℕ → Bool) (ds : List PlainNumbered)
      → ((i : ℕ) → s.seqs (k + i) ≡ seq_at ds i)
      → total (share w) (path_entries k ds) ≡ total f (matching s.query (chosen k w ds))
  documents_shares k w [] g = refl
  documents_shares k w (d ∷ ds) g =
      total-append (share w) (map (entry_of k) (paths d.document)) (path_entries (k + 1) ds)
      ∙ document_by k w d (path_entries (k + 1) ds) (chosen (k + 1) w ds) (w k) refl
      (ap s.seqs (first_place k) ∙ g 0)
      (documents_shares (k + 1) w ds (λ i. ap s.seqs (later_place k i) ∙ g (suc i)))

-- together
module _ (query : PlainQuery) (ds : List PlainNumbered) (starts : List (List ℕ))
    (marks : List Bool) where
  abbrev setting : Setting
  setting = setting_of query ds starts marks

  abbrev matches : List Match
  matches = matches_of query ds starts marks

  no_places : (i : ℕ) → 0 + i ≡ i
  no_places i = omega arith

  summed_by : (w : ℕ → Bool) (f : Rank → ℕ)
      → total (λ (p : FullPath). share setting f w p.entry) (all_paths ds)
      ≡ total f (matching query (chosen 0 w ds))
  summed_by w f =
      total-numbered (share setting f w) None (in_order entry_cmp (path_entries 0 ds))
      ∙ total-in_order entry_cmp (share setting f w) (path_entries 0 ds)
      ∙ documents_shares setting f 0 w ds (λ i. ap (seq_at ds) (no_places i))

  pub all_sums : (f : Rank → ℕ)
      → total (λ (m : Match). f m.rank) matches ≡ total f (matching query ds)
  all_sums f =
      total-map (λ (m : Match). f m.rank) (match_of setting)
      (filter (λ (p : FullPath). is_match setting p.entry) (all_paths ds))
      ∙ total-filter (λ (p : FullPath). f (rank_of setting p.entry))
      (λ (p : FullPath). is_match setting p.entry) (all_paths ds)
      ∙ summed_by (λ _. true) f
      ∙ ap (λ z. total f (matching query z)) (chosen-all 0 ds)

  pub live_sums : (f : Rank → ℕ)
      → total f (ranks_of matches) ≡ total f (matching query (live_of ds marks))
  live_sums f =
      total-map f (λ (m : Match). m.rank) (filter (λ (m : Match). m.live) matches)
      ∙ total-filter (λ (m : Match). f m.rank) (λ (m : Match). m.live) matches
      ∙ total-map (λ (m : Match). cond m.live (f m.rank) 0) (match_of setting)
      (filter (λ (p : FullPath). is_match setting p.entry) (all_paths ds))
      ∙ total-filter
      (λ (p : FullPath). cond (live_at marks p.entry.doc) (f (rank_of setting p.entry)) 0)
      (λ (p : FullPath). is_match setting p.entry) (all_paths ds)
      ∙ summed_by (live_at marks) f
      ∙ ap (λ z. total f (matching query z))
      (chosen-live 0 (live_at marks) ds marks (λ i. ap (live_at marks) (no_places i)))
