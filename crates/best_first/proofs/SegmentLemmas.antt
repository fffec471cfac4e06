-- A segment's transducer and list of paths are what the search assumes.
use Rattle.std.proofs.Common.{◌≡◌, ◌≤◌, ◌<◌, ◌+◌, ◌-◌, ℕ, suc, Bool, true, false, ◌&&◌, cond, ◌⊎◌}
use Rattle.std.proofs.Common.{inl, inr, map, List, [], ◌∷◌, ◌++◌, length, length-append, refl, sym}
use Rattle.std.proofs.Common.{ap, ◌∙◌, subst, arith}
use Rattle.std.proofs.lemmas.Bool.{cases_order}
use Rattle.sg_base.specs.ByteStrings.{begins}
use Rattle.sg_base.specs.Lists.{In}
use Rattle.sg_base.specs.declared.node.Edge.{Edge}
use Rattle.sg_base.proofs.ListLemmas.{in-map}
use Rattle.sg_context.specs.Queries.{PlainQuery}
use Rattle.sg_paths.specs.AllPaths.{FullPath}
use Rattle.fst_code.specs.Lists.{root_paths}
use Rattle.fst_code.specs.Tails.{Tail, tails}
use Rattle.fst_walk.specs.Fronts.{behind}
use Rattle.fst_walk.specs.Spots.{IsPlace}
use Rattle.fst_walk.proofs.BeginLemmas.{begins_itself}
use Rattle.fst_walk.proofs.FrontLemmas.{length-behind}
use Rattle.path_desk.specs.Entries.{Queued, queued, key_part}
use Rattle.path_desk.specs.declared.entry.Entry.{Entry}
use Rattle.best_first.specs.Listings.{IsListing}
use Rattle.best_first.specs.Lists.{passing}
use Rattle.best_first.specs.Matches.{Match, covers, Best}
use Rattle.best_first.specs.Met.{IsAt, IsMet}
use Rattle.best_first.specs.PathMatches.{Setting, place_of, all_matches, match_at}
use Rattle.best_first.specs.Roots.{IsRoot, AreRoots}
use Rattle.best_first.specs.Segments.{IsSegment}
use Rattle.best_first.specs.Steps.{Knows}
use Rattle.best_first.proofs.ArcLemmas.{within_at, short_at, free_at, family_at, end_at}
use Rattle.best_first.proofs.ChildLemmas.{best-over}
use Rattle.best_first.proofs.CoverLemmas.{covers-of, covers-start}
use Rattle.best_first.proofs.Grounds.{IsGround}
use Rattle.best_first.proofs.ListingLemmas.{ordered_at}
use Rattle.best_first.proofs.OverLemmas.{over_of, match_from}
use Rattle.best_first.proofs.StartLemmas.{at_place, at_few}
use Rattle.best_first.proofs.TextLemmas.{key_begins, key_is}

-- a cursor under some bytes isn't the root
not_whole : (paths before after : List Tail) (b : List ℕ) (c : ℕ)
    → paths ≡ (before ++ behind b c paths) ++ after → 0 < length paths → 0 < length b → ⊥
not_whole paths (y ∷ before) after b c e some long =
    let l = ap length e in
    let m = length-append ((y ∷ before) ++ behind b c paths) after in
    let n = length-append before (behind b c paths) in
    let o = length-behind b c paths in
    omega (arith, l, m, n, o)
not_whole [] [] after b c e some long = omega (arith, some)
not_whole (x ∷ xs) [] after b c e some long =
    let h : x ≡ (b ++ x.0, c + x.1) = cc in
    let l : length x.0 ≡ length (b ++ x.0) = ap (λ (z : Tail). length z.0) h in
    let m = length-append b x.0 in
    omega (arith, l, m, long)

in_roots : (s : Setting) (t : List (List Edge)) (number : ℕ) (cs : List (List ℕ)) (es : List Entry)
    → AreRoots s.query t number cs es → (e : Entry) → In e es
    → (c : List ℕ) × (n : ℕ) × (j : ℕ) × IsAt cs n c × (e.start ≡ number + n)
    × IsRoot s.query t j c e
in_roots s t number [] [] a e i = elim i [ ]
in_roots s t number [] (x ∷ es) a e i = elim a [ ]
in_roots s t number (c ∷ cs) [] a e i = elim a [ ]
in_roots s t number (c ∷ cs) (x ∷ es) a e (inl i) =
    let h : e.start ≡ number + 0 = ap (λ (z : Entry). z.start) i ∙ a.0.start ∙ (omega arith) in
    (c, 0, number, refl, h, subst (IsRoot s.query t number c) (sym i) a.0)
in_roots s t number (c ∷ cs) (x ∷ es) a e (inr i) =
    let r = in_roots s t (number + 1) cs es a.1 e i in
    let q = r.4 in
    (r.0, suc r.1, r.2, r.3, (let h : e.start ≡ number + suc r.1 = omega (arith, q) in h), r.5)

pub roots_length : (q : PlainQuery) (t : List (List Edge)) (number : ℕ) (cs : List (List ℕ))
    (es : List Entry) → AreRoots q t number cs es → length es ≡ length cs
roots_length q t number [] [] a = refl
roots_length q t number [] (x ∷ es) a = elim a [ ]
roots_length q t number (c ∷ cs) [] a = elim a [ ]
roots_length q t number (c ∷ cs) (x ∷ es) a = ap suc (roots_length q t (number + 1) cs es a.1)

abbrev count : Bool → ℕ
count b = cond b 1 0

off : (m : Match) (q : Queued) → (q.entry.start ≡ m.start → ⊥) → (b : Bool) → covers m q ≡ b
    → count b ≡ 0
off m q n true e = absurd (n (covers-start m q e))
off m q n false e = refl

none_before : (s : Setting) (t : List (List Edge)) (prefix : List ℕ) (number : ℕ)
    (cs : List (List ℕ)) (es : List Entry) → AreRoots s.query t number cs es → (m : Match)
    → m.start < number
    → passing (covers m) (map (λ e. queued e prefix) es) ≡ 0
none_before s t prefix number [] [] a m l = refl
none_before s t prefix number [] (x ∷ es) a m l = elim a [ ]
none_before s t prefix number (c ∷ cs) [] a m l = elim a [ ]
none_before s t prefix number (c ∷ cs) (x ∷ es) a m l =
    let rest = none_before s t prefix (number + 1) cs es a.1 m (omega (arith, l)) in
    let is = a.0.start in
    let head = off m (queued x prefix) (λ e. omega (arith, e, l, is)) (covers m (queued x prefix))
    refl in
    omega (arith, rest, head)

one_root : (s : Setting) (t : List (List Edge)) (prefix : List ℕ) (number : ℕ) (cs : List (List ℕ))
    (es : List Entry) → AreRoots s.query t number cs es → (m : Match)
    → begins prefix m.bytes ≡ true → number ≤ m.start → m.start < number + length cs
    → passing (covers m) (map (λ e. queued e prefix) es) ≡ 1
one_root s t prefix number [] [] a m b l h = absurd (omega (arith, l, h))
one_root s t prefix number [] (x ∷ es) a m b l h = elim a [ ]
one_root s t prefix number (c ∷ cs) [] a m b l h = elim a [ ]
one_root s t prefix number (c ∷ cs) (x ∷ es) a m b l h =
    at (cases_order number m.start) (λ k j. one_root s t prefix (number + 1) cs es a.1 m b k j)
  where
    is : x.start ≡ number
    is = a.0.start

    at : (number ≡ m.start) ⊎ ((number < m.start) ⊎ (m.start < number))
        → (number + 1 ≤ m.start → m.start < number + 1 + length cs
        → passing (covers m) (map (λ e. queued e prefix) es) ≡ 1)
        → passing (covers m) (map (λ e. queued e prefix) (x ∷ es)) ≡ 1
    at (inl e) ih =
        let head : covers m (queued x prefix) ≡ true = covers-of m (queued x prefix) (is ∙ e) b in
        let rest = none_before s t prefix (number + 1) cs es a.1 m (omega (arith, e)) in
        ap (λ z. cond z 1 0 + passing (covers m) (map (λ e. queued e prefix) es)) head
        ∙ (omega (arith, rest))
    at (inr (inl k)) ih =
        let q = is in
        let head = off m (queued x prefix) (λ e. omega (arith, e, k, q))
        (covers m (queued x prefix)) refl in
        let rest = ih (omega (arith, k)) (omega (arith, h)) in
        omega (arith, head, rest)
    at (inr (inr k)) ih = absurd (omega (arith, l, k))

first_of : (x y : Bool) → (x && y) ≡ true → x ≡ true
first_of true y h = refl
first_of false y h = h

-- entries that stand over nodes go on by them
pub knows_at : (s : Setting) (t : List (List Edge)) (ps : List FullPath) → IsGround s t ps
    → Knows (all_matches s ps) (IsMet s t) t (match_at s ps)
knows_at s t ps g = record {
  is_node = λ p k. let h = k.is_node in omega (arith, h);
  within = λ p k a i. within_at s t ps g p k a i;
  short = λ p k n. short_at s t ps g p k;
  free = λ p k n. free_at s t ps g p k n;
  family = λ p us vs a k n f. family_at s t ps g p us vs a k n f;
  end = λ p k z. end_at s t ps g p k z;
}

module _ (s : Setting) (t : List (List Edge)) (ps : List FullPath) (g : IsGround s t ps)
    (roots : List Entry) (are : AreRoots s.query t 0 s.starts roots) where
  not_root : (c b : List ℕ) (n cost ordinal : ℕ) → n < length t
      → IsPlace (root_paths t) (tails t) (c ++ 29 ∷ b) n cost ordinal → n + 1 ≡ length t → ⊥
  not_root c b n cost ordinal h at e =
      let whole : tails t n ≡ root_paths t =
      ap (tails t) (let q : n ≡ length t - 1 = omega (arith, e) in q) in
      let is : root_paths t ≡ (at.before ++ behind (c ++ 29 ∷ b) cost (root_paths t)) ++ at.after =
      at.is ∙ ap (λ z. (at.before ++ behind (c ++ 29 ∷ b) cost z) ++ at.after) whole in
      let some : 0 < length (root_paths t) = subst (λ z. 0 < length z) whole (g.sound.some n h) in
      let l = length-append c (29 ∷ b) in
      not_whole (root_paths t) at.before at.after (c ++ 29 ∷ b) cost is some (omega (arith, l))

  under_root : (c b : List ℕ) (n cost ordinal : ℕ) → n < length t
      → IsPlace (root_paths t) (tails t) (c ++ 29 ∷ b) n cost ordinal → n + 1 < length t
  under_root c b n cost ordinal h at = by (cases_order (n + 1) (length t))
    where
      by : (n + 1 ≡ length t) ⊎ ((n + 1 < length t) ⊎ (length t < n + 1)) → n + 1 < length t
      by (inl e) = absurd (not_root c b n cost ordinal h at e)
      by (inr (inl l)) = l
      by (inr (inr l)) = absurd (omega (arith, h, l))

  root_met : (e : Entry) → In e roots → IsMet s t (queued e s.query.prefix)
  root_met e i =
      let r = in_roots s t 0 s.starts roots are e i in
      let root = r.5 in
      let q = r.4 in
      let start : e.start ≡ r.1 = omega (arith, q) in
      record {
        context = r.0;
        at = subst (λ n. IsAt s.starts n r.0) (sym start) r.3;
        boost = root.boost;
        is_node = under_root r.0 s.query.prefix e.node.0 e.cost e.ordinal root.is_node root.meets;
        meets = root.meets;
        score = root.score;
        under = begins_itself s.query.prefix;
      }

  root_sound : (q : Queued) → In q (map (λ e. queued e s.query.prefix) roots)
      → Best (all_matches s ps) q × IsMet s t q
  root_sound q i =
      let r = in-map (λ (e : Entry). queued e s.query.prefix) q roots i in
      let m = root_met r.0 r.1 in
      subst (λ z. Best (all_matches s ps) z × IsMet s t z) (sym r.2) (
        best-over (all_matches s ps) (tails t) (queued r.0 s.query.prefix)
            (over_of s t ps g (queued r.0 s.query.prefix) m),
        m,
      )

  starts_of : (m : Match) → In m (all_matches s ps) → m.start < length s.starts
  starts_of m i =
      let x = match_from s t ps g m i in
      let l = at_few s.starts (place_of x.0.entry.context s.starts) x.0.entry.context
      (at_place x.0.entry.context s.starts (g.started x.0 x.1 x.2)) in
      subst (λ n. n < length s.starts) (sym (ap (λ (z : Match). z.start) x.3)) l

  begun : (m : Match) → In m (all_matches s ps) → begins s.query.prefix m.bytes ≡ true
  begun m i =
      let x = match_from s t ps g m i in
      subst (λ z. begins s.query.prefix z ≡ true) (sym (ap (λ (z : Match). z.bytes) x.3))
      (key_begins s.query.prefix x.0.entry.key _
      (first_of (begins s.query.prefix x.0.entry.key) _ x.2))

  listing_at : IsListing (all_matches s ps) (length roots)
  listing_at = record {
    keyed = λ m i.
        let x = match_from s t ps g m i in
        ap (λ (z : Match). z.rank.key) x.3 ∙ sym (key_is x.0.entry.key _ (g.paths.clean x.0 x.1).1)
        ∙ ap (λ (z : Match). key_part z.bytes) (sym x.3);
    within = λ m i. subst (λ n. m.start < n) (sym (roots_length s.query t 0 s.starts roots are))
        (starts_of m i);
    ordered = ordered_at s t ps g;
  }

  pub is_segment : IsSegment (all_matches s ps) (IsMet s t) t (match_at s ps) roots s.query.prefix
  is_segment = record {
    knows = knows_at s t ps g;
    listing = listing_at;
    prefix_is_key = g.prefix;
    under = λ p k. k.under;
    begin = λ m i. let l = starts_of m i in
        one_root s t s.query.prefix 0 s.starts roots are m (begun m i) (omega arith)
        (omega (arith, l));
    roots_sound = root_sound;
  }
