-- How many live documents have one of some matching paths: as many as their ranking has rows.
use Rattle.std.proofs.Common.{cond, ◌≡◌, ◌<◌, ◌+◌, inl, inr, ℕ, zero, suc, Bool, true, false}
use Rattle.std.proofs.Common.{nat_eq, ◌||◌, filter, map, List, [], ◌∷◌, length, get_or}
use Rattle.std.proofs.Common.{refl, sym, ap, ◌∙◌, subst, arith}
use Rattle.std.specs.List.{list_any}
use Rattle.std.proofs.lemmas.Bool.Decides.{nat_tests}
use Rattle.sg_base.specs.Lists.{In, Pairs}
use Rattle.sg_base.specs.Ranking.{IsRanking}
use Rattle.sg_base.specs.Rows.{ranked}
use Rattle.sg_base.specs.declared.rank.Rank.{Rank}
use Rattle.sg_base.proofs.ListLemmas.{in-map, in-filter, pairs-map}
use Rattle.collector.proofs.RankingLemmas.{is_ranking-ranked}
use Rattle.sg_context.specs.Queries.{PlainQuery}
use Rattle.sg_paths.specs.Operations.{PlainNumbered}
use Rattle.sg_paths.specs.AllPaths.{FullPath, all_paths}
use Rattle.sg_answers.specs.Answers.{matching_ranks}
use Rattle.sg_answers.specs.Reports.{matching, ViewedSegment, viewed_segment, live_of, live_among}
use Rattle.fst_walk.proofs.ListLemmas.{filter_keeps}
use Rattle.best_first.specs.Lists.{passing}
use Rattle.best_first.specs.Matches.{Match, ranks_of}
use Rattle.best_first.specs.PathMatches.{Setting, match_of, is_match, live_at, seq_at}
use Rattle.best_first.specs.PathMatches.{no_document, setting_of, matches_of}
use Rattle.best_first.proofs.AnswerLemmas.{matching_ranks-seq, AreDistinct}
use Rattle.best_first.proofs.AskedLemmas.{path_entry, doc_within}
use Rattle.best_first.proofs.CountLemmas.{live_sums}
use Rattle.best_first.proofs.MemberLemmas.{map-in, in-flat_map, as_many}
use Rattle.best_first.proofs.OrderedLemmas.{pairs-filter}
use Rattle.best_first.proofs.SumLemmas.{summed_members}

-- numbers rise
abbrev pub Rising : List PlainNumbered → Type 0
Rising = Pairs (λ a b. a.seq < b.seq)

pub in_live : (ds : List PlainNumbered) (marks : List Bool) (x : PlainNumbered)
    → In x (live_of ds marks) → In x ds
in_live [] marks x i = elim i [ ]
in_live (d ∷ ds) [] x i = elim i [ ]
in_live (d ∷ ds) (true ∷ marks) x (inl e) = inl e
in_live (d ∷ ds) (true ∷ marks) x (inr i) = inr (in_live ds marks x i)
in_live (d ∷ ds) (false ∷ marks) x i = inr (in_live ds marks x i)

live_rising : (ds : List PlainNumbered) (marks : List Bool) → Rising ds
    → Rising (live_of ds marks)
live_rising [] marks u = tt
live_rising (d ∷ ds) [] u = tt
live_rising (d ∷ ds) (true ∷ marks) u =
    (λ y i. u.0 y (in_live ds marks y i), live_rising ds marks u.1)
live_rising (d ∷ ds) (false ∷ marks) u = live_rising ds marks u.1

differ : (m n : ℕ) → m < n → nat_eq m n ≡ false
differ m n l = grind (arith, nat_tests)

distinct_of : (ds : List PlainNumbered) → Rising ds → AreDistinct ds
distinct_of [] u = tt
distinct_of (d ∷ ds) u = (λ y i. differ d.seq y.seq (u.0 y i), distinct_of ds u.1)

-- no number of the live ones stands twice
pub live_distinct : (ds : List PlainNumbered) (marks : List Bool) → Rising ds
    → AreDistinct (live_of ds marks)
live_distinct ds marks u = distinct_of (live_of ds marks) (live_rising ds marks u)

-- how many are live, where each document is marked
length_at : (live : Bool) (d : PlainNumbered) (ds : List PlainNumbered) (n : ℕ) → length ds ≡ n
    → length (cond live (d ∷ ds) ds) ≡ cond live 1 0 + n
length_at true d ds n h = omega (arith, h)
length_at false d ds n h = omega (arith, h)

pub length-live_of : (ds : List PlainNumbered) (marks : List Bool) → length marks ≡ length ds
    → length (live_of ds marks) ≡ passing (λ live. live) marks
length-live_of [] [] h = refl
length-live_of [] (live ∷ marks) h = absurd (omega (arith, h))
length-live_of (d ∷ ds) [] h = absurd (omega (arith, h))
length-live_of (d ∷ ds) (live ∷ marks) h =
    length_at live d (live_of ds marks) _ (length-live_of ds marks (omega (arith, h)))

-- a document with the number of a live one is marked live
place_in : (ds : List PlainNumbered) (i : ℕ) → i < length ds → In (get_or ds i no_document) ds
place_in [] i h = absurd (omega (arith, h))
place_in (d ∷ ds) zero h = inl refl
place_in (d ∷ ds) (suc i) h = inr (place_in ds i (omega (arith, h)))

live_mark : (ds : List PlainNumbered) (marks : List Bool) → Rising ds → (i : ℕ) → i < length ds
    → (d : PlainNumbered) → In d (live_of ds marks) → d.seq ≡ seq_at ds i
    → live_at marks i ≡ true
live_mark [] marks u i h d j e = absurd (omega (arith, h))
live_mark (x ∷ xs) [] u i h d j e = elim j [ ]
live_mark (x ∷ xs) (true ∷ marks) u zero h d j e = refl
live_mark (x ∷ xs) (true ∷ marks) u (suc i) h d (inl j) e =
    let less = u.0 (get_or xs i no_document) (place_in xs i (omega (arith, h))) in
    let same : d.seq ≡ x.seq = ap (λ (z : PlainNumbered). z.seq) j in
    absurd (omega (arith, less, same, e))
live_mark (x ∷ xs) (true ∷ marks) u (suc i) h d (inr j) e =
    live_mark xs marks u.1 i (omega (arith, h)) d j e
live_mark (x ∷ xs) (false ∷ marks) u zero h d j e =
    let less = u.0 d (in_live xs marks d j) in absurd (omega (arith, less, e))
live_mark (x ∷ xs) (false ∷ marks) u (suc i) h d j e =
    live_mark xs marks u.1 i (omega (arith, h)) d j e

-- tests of some of a list
pub any_has : {X : Type 0} (p : X → Bool) (x : X) (xs : List X) → In x xs → p x ≡ true
    → list_any p xs ≡ true
any_has p x [] i h = elim i [ ]
any_has p x (y ∷ ys) (inl e) h = here (p y) (list_any p ys) (ap p (sym e) ∙ h)
  where
    here : (b c : Bool) → b ≡ true → (b || c) ≡ true
    here true c k = refl
    here false c k = cc
any_has p x (y ∷ ys) (inr i) h = there (p y) (list_any p ys) (any_has p x ys i h)
  where
    there : (b c : Bool) → c ≡ true → (b || c) ≡ true
    there true c k = refl
    there false c k = k

any_by : {X : Type 0} (p : X → Bool) (y : X) (ys : List X) (b : Bool) → p y ≡ b
    → (b || list_any p ys) ≡ true
    → (list_any p ys ≡ true → (x : X) × In x ys × (p x ≡ true))
    → (x : X) × In x (y ∷ ys) × (p x ≡ true)
any_by p y ys true is h more = (y, inl refl, is)
any_by p y ys false is h more = let r = more h in (r.0, inr r.1, r.2)

any_in : {X : Type 0} (p : X → Bool) (xs : List X) → list_any p xs ≡ true
    → (x : X) × In x xs × (p x ≡ true)
any_in p [] h = absurd cc
any_in p (x ∷ xs) h = any_by p x xs (p x) refl h (any_in p xs)

-- ranks of live ones
rank_in : (r : Rank) (ms : List Match) → In r (ranks_of ms)
    → (m : Match) × In m ms × (m.live ≡ true) × (r ≡ m.rank)
rank_in r ms i =
    let a = in-map (λ (m : Match). m.rank) r (filter (λ (m : Match). m.live) ms) i in
    let b = in-filter (λ (m : Match). m.live) a.0 ms a.1 in
    (a.0, b.0, b.1, a.2)

pub rank_has : (m : Match) (ms : List Match) → In m ms → m.live ≡ true
    → In m.rank (ranks_of ms)
rank_has m ms i l =
    map-in (λ (z : Match). z.rank) m (filter (λ (z : Match). z.live) ms)
    (filter_keeps (λ (z : Match). z.live) m ms i l)

equal_is : (m n : ℕ) → nat_eq m n ≡ true → m ≡ n
equal_is m n h = grind (arith, nat_tests)

is_equal : (m n : ℕ) → m ≡ n → nat_eq m n ≡ true
is_equal m n h = grind (arith, nat_tests)

not_equal : (m n : ℕ) → nat_eq m n ≡ false → m ≡ n → ⊥
not_equal m n h e = let t = is_equal m n e in absurd cc

numbers_differ : {X : Type 0} (f : X → ℕ) (xs : List X)
    → Pairs (λ a b. nat_eq (f a) (f b) ≡ false) xs → Pairs (λ a b. a ≡ b → ⊥) (map f xs)
numbers_differ {X} f xs a =
    pairs-map f (λ m n. m ≡ n → ⊥) (λ (x y : X). nat_eq (f x) (f y) ≡ false) xs
    (λ x y h. not_equal (f x) (f y) h) a

length-map : {X Y : Type 0} (f : X → Y) (xs : List X) → length (map f xs) ≡ length xs
length-map f [] = refl
length-map f (x ∷ xs) = ap suc (length-map f xs)

module _ (query : PlainQuery) (ds : List PlainNumbered) (starts : List (List ℕ))
    (marks : List Bool) (u : Rising ds) (generation : ℕ) where
  abbrev setting : Setting
  setting = setting_of query ds starts marks

  abbrev matches : List Match
  matches = matches_of query ds starts marks

  abbrev live : List PlainNumbered
  live = live_of ds marks

  abbrev segment : ViewedSegment
  segment = viewed_segment generation ds marks

  -- a live matching path is of a live document
  document_of : (m : Match) → In m matches → m.live ≡ true
      → (d : PlainNumbered) × In d live × (m.rank.seq ≡ d.seq)
  document_of m i l =
      let r = summed_members (ranks_of matches) (matching query live)
      (live_sums query ds starts marks) m.rank (rank_has m matches i l) in
      let e = in-flat_map (matching_ranks query) m.rank live r in
      (e.0, e.1, matching_ranks-seq query e.0 m.rank e.2)

  -- and a matching path of a live document is live
  live_of_document : (m : Match) → In m matches → (d : PlainNumbered) → In d live
      → m.rank.seq ≡ d.seq → m.live ≡ true
  live_of_document m i d j e =
      let a = in-map (match_of setting) m
      (filter (λ (p : FullPath). is_match setting p.entry) (all_paths ds)) i in
      let b = in-filter (λ (p : FullPath). is_match setting p.entry) a.0 (all_paths ds) a.1 in
      let h = doc_within 0 ds a.0.entry (path_entry ds a.0 b.0) in
      ap (λ (z : Match). z.live) a.2
      ∙ live_mark ds marks u a.0.entry.doc (omega (arith, h)) d j
      (sym e ∙ ap (λ (z : Match). z.rank.seq) a.2)

  module _ (ms : List Match) (inside : (m : Match) → In m ms → In m matches) where
    abbrev among : List PlainNumbered
    among = live_among segment (map (λ (m : Match). m.rank) ms)

    abbrev has_row : PlainNumbered → Bool
    has_row d = list_any (λ r. nat_eq r.seq d.seq) (map (λ (m : Match). m.rank) ms)

    ranking : IsRanking (ranked (ranks_of ms)) (ranks_of ms)
    ranking = is_ranking-ranked (ranks_of ms)

    row_document : (n : ℕ) → In n (map (λ (r : Rank). r.seq) (ranked (ranks_of ms)))
        → In n (map (λ (d : PlainNumbered). d.seq) among)
    row_document n i =
        let a = in-map (λ (r : Rank). r.seq) n (ranked (ranks_of ms)) i in
        let b = rank_in a.0 ms (ranking.from a.0 a.1) in
        let c = document_of b.0 (inside b.0 b.1) b.2 in
        let seq : n ≡ c.0.seq = a.2 ∙ ap (λ (r : Rank). r.seq) b.3 ∙ c.2 in
        subst (λ k. In k (map (λ (d : PlainNumbered). d.seq) among)) (sym seq)
        (map-in (λ (d : PlainNumbered). d.seq) c.0 among (filter_keeps has_row c.0 live c.1
        (any_has (λ r. nat_eq r.seq c.0.seq) b.0.rank (map (λ (m : Match). m.rank) ms)
        (map-in (λ (m : Match). m.rank) b.0 ms b.1) (is_equal b.0.rank.seq c.0.seq c.2))))

    row_of : (m : Match) → In m ms → (d : PlainNumbered) → In d live → m.rank.seq ≡ d.seq
        → In d.seq (map (λ (r : Rank). r.seq) (ranked (ranks_of ms)))
    row_of m i d j seq =
        let l = live_of_document m (inside m i) d j seq in
        let z = ranking.best m.rank (rank_has m ms i l) in
        subst (λ k. In k (map (λ (r : Rank). r.seq) (ranked (ranks_of ms)))) (z.2 ∙ seq)
        (map-in (λ (r : Rank). r.seq) z.0 (ranked (ranks_of ms)) z.1)

    row_by : (r : Rank) → In r (map (λ (m : Match). m.rank) ms) → (d : PlainNumbered)
        → In d live → r.seq ≡ d.seq
        → In d.seq (map (λ (r : Rank). r.seq) (ranked (ranks_of ms)))
    row_by r i d j seq =
        let m = in-map (λ (m : Match). m.rank) r ms i in
        row_of m.0 m.1 d j (sym (ap (λ (x : Rank). x.seq) m.2) ∙ seq)

    document_row : (n : ℕ) → In n (map (λ (d : PlainNumbered). d.seq) among)
        → In n (map (λ (r : Rank). r.seq) (ranked (ranks_of ms)))
    document_row n i =
        let a = in-map (λ (d : PlainNumbered). d.seq) n among i in
        let b = in-filter has_row a.0 live a.1 in
        let c = any_in (λ r. nat_eq r.seq a.0.seq) (map (λ (m : Match). m.rank) ms) b.1 in
        subst (λ k. In k (map (λ (r : Rank). r.seq) (ranked (ranks_of ms)))) (sym a.2)
        (row_by c.0 c.1 a.0 b.0 (equal_is c.0.seq a.0.seq c.2))

    -- as many live documents have one of the paths as rows are ranked
    pub documents_are_rows : length among ≡ length (ranked (ranks_of ms))
    documents_are_rows =
        sym (length-map (λ (d : PlainNumbered). d.seq) among)
        ∙ as_many (map (λ (d : PlainNumbered). d.seq) among)
        (map (λ (r : Rank). r.seq) (ranked (ranks_of ms)))
        (numbers_differ (λ (d : PlainNumbered). d.seq) among
        (pairs-filter (λ a b. nat_eq a.seq b.seq ≡ false) has_row live (live_distinct ds marks u)))
        (numbers_differ (λ (r : Rank). r.seq) (ranked (ranks_of ms)) ranking.once)
        document_row row_document
        ∙ length-map (λ (r : Rank). r.seq) (ranked (ranks_of ms))
