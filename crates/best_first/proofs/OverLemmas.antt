-- From a cursor of the transducer to what an entry lies over.
use Rattle.std.proofs.Common.{◌≡◌, ◌≤◌, ◌<◌, ◌+◌, ◌-◌, ◌*◌, ℕ, true, false, inl, inr, filter, map}
use Rattle.std.proofs.Common.{List, [], ◌∷◌, ◌++◌, length, append_assoc, refl, sym, ap, ◌∙◌, subst}
use Rattle.std.proofs.Common.{arith, Some}
use Rattle.std.specs.Prelude.{is_some}
use Rattle.std.proofs.lemmas.Bool.{and_from}
use Rattle.sg_base.specs.ByteStrings.{begins}
use Rattle.sg_base.specs.Lists.{In, Pairs}
use Rattle.sg_base.specs.declared.limits.TheConstants.{MOST_WEIGHT}
use Rattle.sg_base.specs.declared.node.Edge.{Edge}
use Rattle.sg_base.proofs.ListLemmas.{in-append, in-map, each_in}
use Rattle.sg_context.specs.Boosts.{boost_of}
use Rattle.sg_paths.specs.AllPaths.{FullPath, path_bytes}
use Rattle.fst_code.specs.Lists.{root_paths, HasFree}
use Rattle.fst_code.specs.Tails.{Tail, along, spread, tails}
use Rattle.fst_code.specs.Transducers.{Rises}
use Rattle.fst_walk.specs.Fronts.{behind}
use Rattle.fst_walk.specs.Spots.{IsPlace}
use Rattle.fst_walk.proofs.BeginLemmas.{begins-cancel}
use Rattle.fst_walk.proofs.BoolLemmas.{clash}
use Rattle.fst_walk.proofs.ListLemmas.{In-filter, filter_keeps}
use Rattle.path_desk.specs.Entries.{Queued}
use Rattle.best_first.specs.Matches.{Match}
use Rattle.best_first.specs.Met.{IsAt, IsMet}
use Rattle.best_first.specs.PathMatches.{tail_of, Setting, place_of, boost_or, bytes_of, rank_of}
use Rattle.best_first.specs.PathMatches.{match_of, is_match, all_matches}
use Rattle.best_first.specs.Steps.{arcs_of}
use Rattle.best_first.proofs.CoverLemmas.{covers-start, covers-bytes}
use Rattle.best_first.proofs.Grounds.{IsGround}
use Rattle.best_first.proofs.MemberLemmas.{in-left, in-right, map-in}
use Rattle.best_first.proofs.Overs.{IsSpread, IsOver}
use Rattle.best_first.proofs.StartLemmas.{at_one, at_in, at_place, number_of}
use Rattle.best_first.proofs.TextLemmas.{cut_same, regroup, begins_key, key_begins}

-- a path that begins so goes on from the place
abbrev pub GoesOn : List Tail → List ℕ → ℕ → Tail → Type 0
GoesOn ways b c t = (v : Tail) × In v ways × (t.0 ≡ b ++ v.0) × (t.1 ≡ c + v.1)

pub under_place : (paths : List Tail) (ways : ℕ → List Tail) (b : List ℕ) (n c o : ℕ) (t : Tail)
    → IsPlace paths ways b n c o → In t paths → begins b t.0 ≡ true → GoesOn (ways n) b c t
under_place paths ways b n c o t at i h =
    let j : In t ((at.before ++ behind b c (ways n)) ++ at.after) = subst (In t) at.is i in
    elim (in-append t (at.before ++ behind b c (ways n)) at.after j) as
    (λ _. GoesOn (ways n) b c t) [
      | inl k ↦
          elim (in-append t at.before (behind b c (ways n)) k) as (λ _. GoesOn (ways n) b c t) [
            | inl l ↦ absurd (out (in-left t at.before at.after l))
            | inr l ↦
                let r = in-map (λ (v : Tail). (b ++ v.0, c + v.1)) t (ways n) l in
                (r.0, r.1, ap (λ (z : Tail). z.0) r.2, ap (λ (z : Tail). z.1) r.2)
          ]
      | inr k ↦ absurd (out (in-right t at.before at.after k))
    ]
  where
    out : In t (at.before ++ at.after) → ⊥
    out k = clash (sym (each_in (λ (u : Tail). begins b u.0 ≡ false) t (at.before ++ at.after)
        at.others k) ∙ h)

pub place_has : (paths : List Tail) (ways : ℕ → List Tail) (b : List ℕ) (n c o : ℕ) (v : Tail)
    → IsPlace paths ways b n c o
    → In v (ways n) → In (let u : Tail = (b ++ v.0, c + v.1) in u) paths
place_has paths ways b n c o v at i =
    let u : Tail = (b ++ v.0, c + v.1) in
    subst (In u) (sym at.is)
    (in-left u (at.before ++ behind b c (ways n)) at.after
    (in-right u at.before (behind b c (ways n))
    (map-in (λ (w : Tail). (b ++ w.0, c + w.1)) v (ways n) i)))

-- ways of arcs
pub in-spread : (ways : ℕ → List Tail) (es : List Edge) (t : Tail) → In t (spread ways es)
    → (e : Edge) × (v : Tail) × In e es × In v (ways e.target.0) × (t ≡ along e v)
in-spread ways [] t i = elim i [ ]
in-spread ways (e ∷ es) t i =
    elim (in-append t (map (along e) (ways e.target.0)) (spread ways es) i) as
    (λ _. (d : Edge) × (v : Tail) × In d (e ∷ es) × In v (ways d.target.0) × (t ≡ along d v)) [
      | inl k ↦ let r = in-map (along e) t (ways e.target.0) k in (e, r.0, inl refl, r.1, r.2)
      | inr k ↦ let r = in-spread ways es t k in (r.0, r.1, inr r.2, r.3, r.4)
    ]

pub spread-in : (ways : ℕ → List Tail) (es : List Edge) (e : Edge) (v : Tail) → In e es
    → In v (ways e.target.0) → In (along e v) (spread ways es)
spread-in ways [] e v i j = elim i [ ]
spread-in ways (d ∷ es) e v (inl k) j =
    in-left (along e v) (map (along d) (ways d.target.0)) (spread ways es)
    (subst (λ (x : Edge). In (along e v) (map (along x) (ways x.target.0))) k
    (map-in (along e) v (ways e.target.0) j))
spread-in ways (d ∷ es) e v (inr k) j =
    in-right (along e v) (map (along d) (ways d.target.0)) (spread ways es)
    (spread-in ways es e v k j)

-- a way that costs nothing
pub free_way : (ts : List Tail) → HasFree ts → (v : Tail) × In v ts × (v.1 ≡ 0)
free_way [] h = elim h [ ]
free_way (x ∷ ts) (inl e) = (x, inl refl, e)
free_way (x ∷ ts) (inr h) = let r = free_way ts h in (r.0, inr r.1, r.2)

rising : (es : List Edge) → Rises es → Pairs (λ (x y : Edge). x.label < y.label) es
rising [] r = tt
rising (e ∷ es) r = (λ y i. each_in (λ (d : Edge). e.label < d.label) y es r.0 i, rising es r.1)

-- the arcs of a node other than the end spread its ways
module _ (s : Setting) (t : List (List Edge)) (ps : List FullPath) (g : IsGround s t ps) where
  node_ways : (id : ℕ) → 0 < id → id < length t → tails t id ≡ spread (tails t) (arcs_of t id)
  node_ways id p h = g.sound.inner id p h

  pub arc_low : (id : ℕ) → id < length t → (a : Edge) → In a (arcs_of t id) → a.target.0 < id
  arc_low id h a i = each_in (λ (e : Edge). e.target.0 < id) a (arcs_of t id)
      (g.sound.node id h).below i

  pub spreads : (id : ℕ) → 0 < id → id < length t → IsSpread (tails t) (arcs_of t id) id
  spreads id p h = record {
    down = λ a v i j. subst (In (along a v)) (sym (node_ways id p h))
        (spread-in (tails t) (arcs_of t id) a v i j);
    up = λ w j. in-spread (tails t) (arcs_of t id) w (subst (In w) (node_ways id p h) j);
    labels = rising (arcs_of t id) (g.sound.node id h).rises;
    frees = λ a i. let low = arc_low id h a i in
        free_way (tails t a.target.0) (g.sound.free a.target.0 (omega (arith, low, h)));
  }

  -- paths and matches
  path_at : (u : Tail) → In u (root_paths t) → (p : FullPath) × In p ps × (u ≡ tail_of p)
  path_at u i = in-map tail_of u ps (subst (In u) g.lists i)

  at_path : (p : FullPath) → In p ps → In (tail_of p) (root_paths t)
  at_path p i = subst (In (tail_of p)) (sym g.lists) (map-in tail_of p ps i)

  pub match_from : (m : Match) → In m (all_matches s ps)
      → (p : FullPath) × In p ps × (is_match s p.entry ≡ true) × (m ≡ match_of s p)
  match_from m i =
      let r = in-map (match_of s) m (filter (λ (p : FullPath). is_match s p.entry) ps) i in
      let k = In-filter (λ (p : FullPath). is_match s p.entry) r.0 ps r.1 in
      (r.0, k.0, k.1, r.2)

  pub match_in : (p : FullPath) → In p ps → is_match s p.entry ≡ true
      → In (match_of s p) (all_matches s ps)
  match_in p i h = map-in (match_of s) p (filter (λ (r : FullPath). is_match s r.entry) ps)
      (filter_keeps (λ (r : FullPath). is_match s r.entry) p ps i h)

  -- a path under a context of the starts and bytes that begin with the query's key matches
  pub path_under : (c b : List ℕ) (n : ℕ) (boost : ℕ) (p : FullPath) → In p ps → IsAt s.starts n c
      → boost_of s.query.contexts c ≡ Some boost
      → begins s.query.prefix b ≡ true → path_bytes p ≡ c ++ 29 ∷ b
      → (is_match s p.entry ≡ true) × ((match_of s p).start ≡ n) × (bytes_of p ≡ b)
      × ((rank_of s p.entry).score ≡ p.entry.weight * boost)
  path_under c b n boost p i at is under e =
      let clean = g.paths.clean p i in
      let r = cut_same 29 p.entry.context c (bytes_of p) b clean.0
      (g.ends c (at_in s.starts n c at)) (sym (regroup p) ∙ e) in
      let k : begins s.query.prefix p.entry.key ≡ true =
      begins_key 0 s.query.prefix p.entry.key _ g.prefix
      (subst (λ z. begins s.query.prefix z ≡ true) (sym r.1) under) in
      let bo : boost_of s.query.contexts p.entry.context ≡ Some boost =
      ap (boost_of s.query.contexts) r.0 ∙ is in (
        and_from _ _ k (ap is_some bo),
        ap (λ z. place_of z s.starts) r.0
            ∙ number_of s.starts n c g.different at,
        r.1,
        ap (λ z. p.entry.weight * boost_or z) bo,
      )

  from_weight : (w c : ℕ) → w ≤ MOST_WEIGHT → c ≡ MOST_WEIGHT - w → w ≡ MOST_WEIGHT - c
  from_weight w c h e = omega (arith, h, e)

  longer : (c b v : List ℕ) → (c ++ 29 ∷ b) ++ v ≡ c ++ 29 ∷ (b ++ v)
  longer c b v = append_assoc c (29 ∷ b) v

  -- an entry over a cursor lies over the matching paths of its node's ways
  pub over_of : (p : Queued) → IsMet s t p → IsOver (all_matches s ps) (tails t) p
  over_of p k = record {
    score_is = k.score;
    least = g.boosts k.context p.entry.boost k.boost;
    fits = λ v j.
        let u : Tail = ((k.context ++ 29 ∷ p.bytes) ++ v.0, p.entry.cost + v.1) in
        let r = path_at u (place_has (root_paths t) (tails t) (k.context ++ 29 ∷ p.bytes)
        p.entry.node.0 p.entry.cost p.entry.ordinal v k.meets j) in
        let e : p.entry.cost + v.1 ≡ MOST_WEIGHT - r.0.entry.weight = ap (λ (z : Tail). z.1) r.2 in
        omega (arith, e);
    to = λ v j.
        let u : Tail = ((k.context ++ 29 ∷ p.bytes) ++ v.0, p.entry.cost + v.1) in
        let r = path_at u (place_has (root_paths t) (tails t) (k.context ++ 29 ∷ p.bytes)
        p.entry.node.0 p.entry.cost p.entry.ordinal v k.meets j) in
        let e : p.entry.cost + v.1 ≡ MOST_WEIGHT - r.0.entry.weight = ap (λ (z : Tail). z.1) r.2 in
        let bytes : path_bytes r.0 ≡ k.context ++ 29 ∷ (p.bytes ++ v.0) =
        sym (ap (λ (z : Tail). z.0) r.2) ∙ longer k.context p.bytes v.0 in
        let m = path_under k.context (p.bytes ++ v.0) p.entry.start p.entry.boost r.0 r.1 k.at
        k.boost (key_begins s.query.prefix p.bytes v.0 k.under) bytes in
        let weight = from_weight r.0.entry.weight (p.entry.cost + v.1) (g.paths.light r.0 r.1) e in
        (match_of s r.0, match_in r.0 r.1 m.0, m.1, m.2, m.3 ∙ ap (λ z. z * p.entry.boost) weight);
    from = λ m i c.
        let f = match_from m i in
        let start : p.entry.start ≡ place_of f.0.entry.context s.starts =
        covers-start m p c ∙ ap (λ (z : Match). z.start) f.3 in
        let own : IsAt s.starts p.entry.start f.0.entry.context =
        subst (λ n. IsAt s.starts n f.0.entry.context) (sym start)
        (at_place f.0.entry.context s.starts (g.started f.0 f.1 f.2)) in
        let same : f.0.entry.context ≡ k.context =
        at_one s.starts p.entry.start f.0.entry.context k.context own k.at in
        let mb : m.bytes ≡ bytes_of f.0 = ap (λ (z : Match). z.bytes) f.3 in
        let whole : path_bytes f.0 ≡ k.context ++ 29 ∷ m.bytes =
        regroup f.0 ∙ ap (λ z. z ++ 29 ∷ bytes_of f.0) same
        ∙ ap (λ z. k.context ++ 29 ∷ z) (sym mb) in
        let begun : begins (k.context ++ 29 ∷ p.bytes) (path_bytes f.0) ≡ true =
        ap (begins (k.context ++ 29 ∷ p.bytes)) whole
        ∙ begins-cancel k.context (29 ∷ p.bytes) (29 ∷ m.bytes) ∙ covers-bytes m p c in
        let v = under_place (root_paths t) (tails t) (k.context ++ 29 ∷ p.bytes) p.entry.node.0
        p.entry.cost p.entry.ordinal (tail_of f.0) k.meets (at_path f.0 f.1) begun in
        let bytes : path_bytes f.0 ≡ k.context ++ 29 ∷ (p.bytes ++ v.0.0) =
        v.2 ∙ longer k.context p.bytes v.0.0 in
        let under = path_under k.context (p.bytes ++ v.0.0) p.entry.start p.entry.boost f.0 f.1 k.at
        k.boost (key_begins s.query.prefix p.bytes v.0.0 k.under) bytes in
        let cost : p.entry.cost + v.0.1 ≡ MOST_WEIGHT - f.0.entry.weight =
        sym v.3 in
        let weight =
        from_weight f.0.entry.weight (p.entry.cost + v.0.1) (g.paths.light f.0 f.1) cost in (
          v.0,
          v.1,
          mb ∙ under.2,
          ap (λ (z : Match). z.rank.score) f.3 ∙ under.3
              ∙ ap (λ z. z * p.entry.boost) weight,
        );
    free = free_way (tails t p.entry.node.0) (g.sound.free p.entry.node.0 k.is_node);
  }
