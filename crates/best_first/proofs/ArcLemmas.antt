-- From an entry over a cursor to those behind its arcs, and to the end.
use Rattle.std.proofs.Common.{◌≡◌, ◌≤◌, ◌<◌, ◌+◌, ◌-◌, ◌*◌, ℕ, zero, suc, Bool, true, false, eqb}
use Rattle.std.proofs.Common.{eqb-true, inl, inr, map, List, [], ◌∷◌, ◌++◌, length, length-append}
use Rattle.std.proofs.Common.{get_or, append_assoc, refl, sym, ap, ◌∙◌, subst, arith}
use Rattle.std.proofs.Math.Nat.{mul-le-mul_right}
use Rattle.std.proofs.lemmas.List.{append-nil}
use Rattle.sg_base.specs.ByteStrings.{begins}
use Rattle.sg_base.specs.Lists.{In}
use Rattle.sg_base.specs.declared.limits.TheConstants.{MOST_WEIGHT}
use Rattle.sg_base.specs.declared.node.Edge.{Edge}
use Rattle.sg_base.proofs.ListLemmas.{in-append, in-map}
use Rattle.sg_paths.specs.AllPaths.{FullPath, path_bytes}
use Rattle.fst_code.specs.Lists.{root_paths}
use Rattle.fst_code.specs.Tails.{Tail, tails}
use Rattle.fst_walk.specs.Fronts.{behind}
use Rattle.fst_walk.specs.Spots.{IsPlace}
use Rattle.fst_walk.proofs.BeginLemmas.{begins-append}
use Rattle.fst_walk.proofs.BoolLemmas.{clash}
use Rattle.fst_walk.proofs.NodeLemmas.{arc_place}
use Rattle.fst_walk.proofs.PlaceLemmas.{place_cost, place_ordinal}
use Rattle.path_desk.specs.Entries.{Queued}
use Rattle.best_first.specs.Families.{IsFamily}
use Rattle.best_first.specs.Matches.{Match, Ends}
use Rattle.best_first.specs.Met.{IsAt, IsMet}
use Rattle.best_first.specs.PathMatches.{tail_of, Setting, place_of, bytes_of, match_of, is_match}
use Rattle.best_first.specs.PathMatches.{all_matches, match_at, no_path}
use Rattle.best_first.specs.Steps.{most_bytes, most_path_bytes, IsWithin, HasFreeArc, IsFree, child}
use Rattle.best_first.specs.Steps.{arcs_of}
use Rattle.best_first.proofs.ChildLemmas.{over-child, ends-over}
use Rattle.best_first.proofs.CoverLemmas.{covers-of}
use Rattle.best_first.proofs.FamilyLemmas.{family-over}
use Rattle.best_first.proofs.Grounds.{IsGround}
use Rattle.best_first.proofs.MemberLemmas.{in-left, in-right, in-split}
use Rattle.best_first.proofs.OverLemmas.{place_has, in-spread, free_way, arc_low, spreads, over_of}
use Rattle.best_first.proofs.OverLemmas.{match_from, match_in, path_under}
use Rattle.best_first.proofs.Overs.{IsOver}
use Rattle.best_first.proofs.StartLemmas.{at_one, at_place}
use Rattle.best_first.proofs.TextLemmas.{regroup, key_begins}

-- the first that costs nothing
first_by : (x : Edge) (xs : List Edge) (e : Edge) (b : Bool) → eqb x.cost 0 ≡ b → In e (x ∷ xs)
    → e.cost ≡ 0
    → (In e xs → HasFreeArc xs)
    → HasFreeArc (x ∷ xs)
first_by x xs e true t i z f =
    ([], xs, x, record { is = refl; free = eqb-true x.cost 0 t; first = λ u j. elim j [ ] })
first_by x xs e false t i z f =
    let more : In e xs = elim i as (λ _. In e xs)
    [ inl j ↦ absurd (dear (ap (λ (y : Edge). y.cost) (sym j) ∙ z)) | inr j ↦ j ] in
    let r = f more in (
      x ∷ r.0,
      r.1,
      r.2,
      record {
        is = ap (λ ys. x ∷ ys) r.3.is;
        free = r.3.free;
        first = λ u j z'. elim j as (λ _. ⊥)
            [ inl k ↦ dear (ap (λ (y : Edge). y.cost) (sym k) ∙ z') | inr k ↦ r.3.first u k z' ];
      },
    )
  where
    dear : x.cost ≡ 0 → ⊥
    dear q = clash (sym t ∙ ap (λ n. eqb n 0) q)

pub first_free : (es : List Edge) (e : Edge) → In e es → e.cost ≡ 0 → HasFreeArc es
first_free [] e i z = elim i [ ]
first_free (x ∷ xs) e i z = first_by x xs e (eqb x.cost 0) refl i z (λ j. first_free xs e j z)

-- what stands at a place of a list
pub at_ordinal : (ps : List FullPath) (us vs : List Tail) (x : Tail) → map tail_of ps ≡ us ++ x ∷ vs
    → In (get_or ps (length us) no_path) ps × (tail_of (get_or ps (length us) no_path) ≡ x)
at_ordinal [] [] vs x e = cc
at_ordinal [] (u ∷ us) vs x e = cc
at_ordinal (p ∷ ps) [] vs x e = (inl refl, cc)
at_ordinal (p ∷ ps) (u ∷ us) vs x e =
    let k : map tail_of ps ≡ us ++ x ∷ vs = cc in
    let r = at_ordinal ps us vs x k in
    (inr r.0, r.1)

-- no path is longer than the longest
at_most : (u : Tail) (ts : List Tail) → In u ts → length u.0 ≤ most_bytes ts
at_most u [] i = elim i [ ]
at_most u (t ∷ ts) (inl e) =
    let h : length u.0 ≡ length t.0 = ap (λ (z : Tail). length z.0) e in omega (arith, h)
at_most u (t ∷ ts) (inr i) = let h = at_most u ts i in omega (arith, h)

positive : (n : ℕ) → (n ≡ 0 → ⊥) → 0 < n
positive zero f = absurd (f refl)
positive (suc n) f = omega arith

module _ (s : Setting) (t : List (List Edge)) (ps : List FullPath) (g : IsGround s t ps) where
  inside : (p : Queued) → IsMet s t p → p.entry.node.0 < length t
  inside p k = let h = k.is_node in omega (arith, h)

  above : (p : Queued) → IsMet s t p → (a : Edge) → In a (arcs_of t p.entry.node.0)
      → 0 < p.entry.node.0
  above p k a i = let low = arc_low s t ps g p.entry.node.0 (inside p k) a i in omega (arith, low)

  met_place : (p : Queued) (k : IsMet s t p) (a : Edge) → In a (arcs_of t p.entry.node.0)
      → IsPlace (root_paths t) (tails t) (k.context ++ 29 ∷ (p.bytes ++ a.label ∷ [])) a.target.0
      (p.entry.cost + a.cost) (p.entry.ordinal + a.before)
  met_place p k a i =
      let sp = in-split a (arcs_of t p.entry.node.0) i in
      subst (λ z. IsPlace (root_paths t) (tails t) z a.target.0 (p.entry.cost + a.cost)
      (p.entry.ordinal + a.before))
      (append_assoc k.context (29 ∷ p.bytes) (a.label ∷ []))
      (arc_place t g.sound (root_paths t) (k.context ++ 29 ∷ p.bytes) p.entry.node.0 p.entry.cost
      p.entry.ordinal sp.0 sp.1 a (inside p k) sp.2 k.meets)

  pub met_child : (p : Queued) → IsMet s t p → (a : Edge) → In a (arcs_of t p.entry.node.0)
      → IsMet s t (child p a)
  met_child p k a i = record {
    context = k.context;
    at = k.at;
    boost = k.boost;
    is_node =
        let low = arc_low s t ps g p.entry.node.0 (inside p k) a i in
        let h = inside p k in
        omega (arith, low, h);
    meets = met_place p k a i;
    score = (over-child (all_matches s ps) (tails t) p (arcs_of t p.entry.node.0)
        (over_of s t ps g p k)
        (spreads s t ps g p.entry.node.0 (above p k a i) (inside p k)) a i).score_is;
    under = key_begins s.query.prefix p.bytes (a.label ∷ []) k.under;
  }

  pub within_at : (p : Queued) → IsMet s t p → (a : Edge) → In a (arcs_of t p.entry.node.0)
      → IsWithin p.entry a
  within_at p k a i =
      let m = met_place p k a i in
      let low = arc_low s t ps g p.entry.node.0 (inside p k) a i in
      let h = inside p k in
      let cost : p.entry.cost + a.cost ≤ 2147483647 =
      place_cost (root_paths t) (tails t) _ _ _ _ 2147483647 m
      (g.sound.some a.target.0 (omega (arith, low, h))) g.sound.cheap in
      let ordinal = place_ordinal (root_paths t) (tails t) _ _ _ _ m in
      let few = g.sound.paths in
      let part : a.cost ≤ MOST_WEIGHT - p.entry.cost = omega (arith, cost) in
      let le : a.cost * p.entry.boost ≤ (MOST_WEIGHT - p.entry.cost) * p.entry.boost =
      mul-le-mul_right p.entry.boost part in
      record {
        cost = omega (arith, cost);
        score = subst (λ z. a.cost * p.entry.boost ≤ z) (sym k.score) le;
        ordinal = omega (arith, ordinal, few);
      }

  -- under an entry goes on a path that is longer than its bytes
  pub short_at : (p : Queued) → IsMet s t p → length p.bytes < most_path_bytes t
  short_at p k =
      let b : List ℕ = k.context ++ 29 ∷ p.bytes in
      let v = free_way (tails t p.entry.node.0) (g.sound.free p.entry.node.0 k.is_node) in
      let u : Tail = (b ++ v.0.0, p.entry.cost + v.0.1) in
      let i : In u (root_paths t) =
      place_has (root_paths t) (tails t) b p.entry.node.0 p.entry.cost p.entry.ordinal v.0 k.meets
      v.1 in
      let l = at_most u (root_paths t) i in
      let e = length-append k.context (29 ∷ p.bytes) in
      let f = length-append b v.0.0 in
      omega (arith, l, e, f)

  pub free_at : (p : Queued) → IsMet s t p → (p.entry.node.0 ≡ 0 → ⊥)
      → HasFreeArc (arcs_of t p.entry.node.0)
  free_at p k n =
      let f = free_way (tails t p.entry.node.0) (g.sound.free p.entry.node.0 k.is_node) in
      let v : Tail = f.0 in
      let r = in-spread (tails t) (arcs_of t p.entry.node.0) v
      (subst (In v) (g.sound.inner p.entry.node.0 (positive p.entry.node.0 n) (inside p k)) f.1) in
      let e : v.1 ≡ r.0.cost + r.1.1 = ap (λ (z : Tail). z.1) r.4 in
      let z = f.2 in
      first_free (arcs_of t p.entry.node.0) r.0 r.2
      (let q : r.0.cost ≡ 0 = omega (arith, e, z) in q)

  module _ (p : Queued) (us vs : List Edge) (a : Edge) (k : IsMet s t p)
      (n : p.entry.node.0 ≡ 0 → ⊥) (f : IsFree (arcs_of t p.entry.node.0) us vs a) where
    family : IsFamily (all_matches s ps) (IsOver (all_matches s ps) (tails t)) p (child p a)
        (map (child p) us ++ map (child p) vs)
    family = family-over (all_matches s ps) (tails t) p (arcs_of t p.entry.node.0) us vs a
        (over_of s t ps g p k)
        (spreads s t ps g p.entry.node.0 (positive p.entry.node.0 n) (inside p k)) f

    met_of : (u : Edge) → In u (us ++ a ∷ vs) → IsMet s t (child p u)
    met_of u i = met_child p k u (subst (In u) (sym f.is) i)

    met_sibling : (e : Queued) → In e (map (child p) us ++ map (child p) vs) → IsMet s t e
    met_sibling e i =
        elim (in-append e (map (child p) us) (map (child p) vs) i) as (λ _. IsMet s t e) [
          | inl j ↦ let r = in-map (child p) e us j in
              subst (IsMet s t) (sym r.2) (met_of r.0 (in-left r.0 us (a ∷ vs) r.1))
          | inr j ↦ let r = in-map (child p) e vs j in
              subst (IsMet s t) (sym r.2) (met_of r.0 (in-right r.0 us (a ∷ vs) (inr r.1)))
        ]

    pub family_at : IsFamily (all_matches s ps) (IsMet s t) p (child p a)
        (map (child p) us ++ map (child p) vs)
    family_at = record {
      child = family.child;
      same_score = family.same_score;
      child_sound = (family.child_sound.0, met_of a (in-right a us (a ∷ vs) (inl refl)));
      sibling = family.sibling;
      sibling_sound = λ e i. ((family.sibling_sound e i).0, met_sibling e i);
      parted = family.parted;
    }

  -- two matching paths with one start have one context
  pub one_context : (p r : FullPath) → In p ps → In r ps → is_match s p.entry ≡ true
      → is_match s r.entry ≡ true
      → place_of p.entry.context s.starts ≡ place_of r.entry.context s.starts
      → p.entry.context ≡ r.entry.context
  one_context p r i j h l e =
      at_one s.starts (place_of r.entry.context s.starts) p.entry.context r.entry.context
      (subst (λ n. IsAt s.starts n p.entry.context) e
      (at_place p.entry.context s.starts (g.started p i h)))
      (at_place r.entry.context s.starts (g.started r j l))

  pub different_matches : (m m' : Match) → In m (all_matches s ps) → In m' (all_matches s ps)
      → m.start ≡ m'.start → m.bytes ≡ m'.bytes → m ≡ m'
  different_matches m m' i j e b =
      let x = match_from s t ps g m i in
      let y = match_from s t ps g m' j in
      let start : place_of x.0.entry.context s.starts ≡ place_of y.0.entry.context s.starts =
      sym (ap (λ (z : Match). z.start) x.3) ∙ e ∙ ap (λ (z : Match). z.start) y.3 in
      let bytes : bytes_of x.0 ≡ bytes_of y.0 =
      sym (ap (λ (z : Match). z.bytes) x.3) ∙ b ∙ ap (λ (z : Match). z.bytes) y.3 in
      let c = one_context x.0 y.0 x.1 y.1 x.2 y.2 start in
      let whole : path_bytes x.0 ≡ path_bytes y.0 =
      regroup x.0 ∙ ap (λ z. z ++ 29 ∷ bytes_of x.0) c
      ∙ ap (λ z. y.0.entry.context ++ 29 ∷ z) bytes ∙ sym (regroup y.0) in
      x.3 ∙ ap (match_of s) (g.paths.once x.0 y.0 x.1 y.1 whole) ∙ sym y.3

  end_split : (before after : List Tail) (b : List ℕ) (c : ℕ) (ways : List Tail)
      → ways ≡ ([], 0) ∷ []
      → (before ++ behind b c ways) ++ after ≡ before ++ (b ++ [], c + 0) ∷ after
  end_split before after b c ways e =
      ap (λ z. (before ++ behind b c z) ++ after) e
      ∙ append_assoc before ((b ++ [], c + 0) ∷ []) after

  pub end_at : (p : Queued) → IsMet s t p → p.entry.node.0 ≡ 0
      → Ends (all_matches s ps) p (match_at s ps p.entry.ordinal)
  end_at p k z =
      let h = inside p k in
      let own : tails t p.entry.node.0 ≡ ([], 0) ∷ [] =
      ap (tails t) z ∙ (g.sound.the_end (omega (arith, h))).1 in
      let b : List ℕ = k.context ++ 29 ∷ p.bytes in
      let e = ends-over (all_matches s ps) (tails t) p (over_of s t ps g p k) own
      different_matches in
      let split : map tail_of ps ≡ k.meets.before ++ (b ++ [], p.entry.cost + 0) ∷ k.meets.after =
      sym g.lists ∙ k.meets.is ∙ end_split k.meets.before k.meets.after b p.entry.cost
      (tails t p.entry.node.0) own in
      let r0 = at_ordinal ps k.meets.before k.meets.after (b ++ [], p.entry.cost + 0) split in
      let r = subst (λ n. In (get_or ps n no_path) ps
      × (tail_of (get_or ps n no_path) ≡ (b ++ [], p.entry.cost + 0))) k.meets.place r0 in
      let f : FullPath = get_or ps p.entry.ordinal no_path in
      let bytes : path_bytes f ≡ k.context ++ 29 ∷ p.bytes =
      ap (λ (u : Tail). u.0) r.1 ∙ append-nil b in
      let m = path_under s t ps g k.context p.bytes p.entry.start p.entry.boost f r.0 k.at k.boost
      k.under bytes in
      let i = match_in s t ps g f r.0 m.0 in
      let begun : begins p.bytes (bytes_of f) ≡ true =
      subst (λ x. begins p.bytes x ≡ true) (append-nil p.bytes ∙ sym m.2)
      (begins-append p.bytes []) in
      let same : match_of s f ≡ e.0 =
      e.1.alone (match_of s f) i (covers-of (match_of s f) p (sym m.1) begun) in
      subst (Ends (all_matches s ps) p) (sym same) e.1
