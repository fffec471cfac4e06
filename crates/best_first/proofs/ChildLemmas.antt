-- From an entry over a node to the entry behind an arc, and to the end.
use Rattle.std.proofs.Common.{◌≡◌, ◌≤◌, ◌<◌, ◌+◌, ◌-◌, ◌*◌, inl, inr, ℕ, Bool, true, false, cond}
use Rattle.std.proofs.Common.{nat_eq, ◌&&◌, List, [], ◌∷◌, ◌++◌, map, append_assoc, refl, sym, ap}
use Rattle.std.proofs.Common.{◌∙◌, subst, arith}
use Rattle.std.proofs.Math.Nat.{mul-le-mul_right, mul-sub, mul_comm}
use Rattle.std.proofs.lemmas.Bool.{eqb-true, eq-eqb}
use Rattle.std.proofs.lemmas.Bool.Decides.{nat_tests}
use Rattle.std.proofs.lemmas.List.{append-nil}
use Rattle.sg_base.specs.ByteStrings.{begins}
use Rattle.sg_base.specs.Lists.{In, Pairs}
use Rattle.sg_base.specs.declared.limits.TheConstants.{MOST_WEIGHT}
use Rattle.sg_base.specs.declared.node.Edge.{Edge}
use Rattle.fst_code.specs.Tails.{Tail, along}
use Rattle.fst_walk.proofs.BeginLemmas.{begins-append}
use Rattle.path_desk.specs.Entries.{Queued}
use Rattle.best_first.specs.Lists.{passing}
use Rattle.best_first.specs.Matches.{Match, covers, Best, Ends}
use Rattle.best_first.specs.Steps.{child}
use Rattle.best_first.proofs.CoverLemmas.{covers-start, covers-bytes, covers-of, covers-under}
use Rattle.best_first.proofs.Overs.{no_way, score_at, IsSpread, IsOver}

-- scores

less_costs : (b c c' : ℕ) → c ≤ c' → (MOST_WEIGHT - c') * b ≤ (MOST_WEIGHT - c) * b
less_costs b c c' h =
    let l : MOST_WEIGHT - c' ≤ MOST_WEIGHT - c = omega (arith, h) in
    mul-le-mul_right b l

pub best-over : (all : List Match) (ways : ℕ → List Tail) (p : Queued) → IsOver all ways p
    → Best all p
best-over all ways p o = record {
  bound = λ m i c.
      let v = o.from m i c in
      let le : score_at p (p.entry.cost + v.0.1) ≤ score_at p p.entry.cost =
      less_costs p.entry.boost p.entry.cost (p.entry.cost + v.0.1) (omega arith) in
      subst (λ n. m.rank.score ≤ n) (sym o.score_is)
      (subst (λ n. n ≤ score_at p p.entry.cost) (sym v.3) le);
  met =
      let v = o.free in
      let m = o.to v.0 v.1 in
      let same : p.entry.cost + v.0.1 ≡ p.entry.cost = let z = v.2 in omega (arith, z) in (
        m.0,
        m.1,
        covers-of m.0 p (sym m.2) (subst (λ z. begins p.bytes z ≡ true) (sym m.3)
            (begins-append p.bytes v.0.0)),
        m.4 ∙ ap (λ n. score_at p n) same ∙ sym o.score_is,
      );
}

-- labels

label_at : (l a : ℕ) (p as' : List ℕ) → begins (p ++ l ∷ []) (p ++ a ∷ as') ≡ nat_eq l a
label_at l a [] as' = grind (arith, nat_tests)
label_at l a (q ∷ p) as' = let e = label_at l a p as' in grind (arith, nat_tests)

one_label : (a b : Edge) (edges : List Edge) → Pairs (λ x y. x.label < y.label) edges → In a edges
    → In b edges → a.label ≡ b.label → a ≡ b
one_label a b [] up i j e = elim i [ ]
one_label a b (x ∷ xs) up (inl i) (inl j) e = i ∙ sym j
one_label a b (x ∷ xs) up (inl i) (inr j) e =
    let l : x.label < b.label = up.0 b j in
    let q : a.label ≡ x.label = ap (λ (z : Edge). z.label) i in
    absurd (omega (arith, l, q, e))
one_label a b (x ∷ xs) up (inr i) (inl j) e =
    let l : x.label < a.label = up.0 a i in
    let q : b.label ≡ x.label = ap (λ (z : Edge). z.label) j in
    absurd (omega (arith, l, q, e))
one_label a b (x ∷ xs) up (inr i) (inr j) e = one_label a b xs up.1 i j e

longer : (p : List ℕ) (l : ℕ) (more : List ℕ) → p ++ (l ∷ more) ≡ (p ++ l ∷ []) ++ more
longer p l more = sym (append_assoc p (l ∷ []) more)

module _ (all : List Match) (ways : ℕ → List Tail) (p : Queued) (edges : List Edge)
    (o : IsOver all ways p) (d : IsSpread ways edges p.entry.node.0) where
  pub under_child : (m : Match) (a : Edge) → covers m (child p a) ≡ true → covers m p ≡ true
  under_child m a c = covers-under m p (child p a) refl (begins-append p.bytes (a.label ∷ [])) c

  -- what goes on from the entry goes on by one arc
  pub by_arc : (m : Match) → In m all → covers m p ≡ true
      → (a : Edge) × (v : Tail) × In a edges × In v (ways a.target.0)
      × (m.bytes ≡ p.bytes ++ (a.label ∷ v.0))
      × (m.rank.score ≡ score_at p (p.entry.cost + (a.cost + v.1)))
  by_arc m i c =
      let w = o.from m i c in
      let u = d.up w.0 w.1 in (
        u.0,
        u.1,
        u.2,
        u.3,
        w.2 ∙ ap (λ (z : Tail). p.bytes ++ z.0) u.4,
        w.3
            ∙ ap (λ (z : Tail). score_at p (p.entry.cost + z.1)) u.4,
      )

  -- and an arc's entry is over it exactly where the label is its
  label_of : (m : Match) (a b : Edge) (more : List ℕ) → m.bytes ≡ p.bytes ++ (b.label ∷ more)
      → begins (p.bytes ++ a.label ∷ []) m.bytes ≡ nat_eq a.label b.label
  label_of m a b more e = ap (begins (p.bytes ++ a.label ∷ [])) e
      ∙ label_at a.label b.label p.bytes more

  pub cost_within : (a : Edge) → In a edges → p.entry.cost + a.cost ≤ MOST_WEIGHT
  cost_within a i =
      let v = d.frees a i in
      let h = o.fits (along a v.0) (d.down a v.0 i v.1) in
      omega (arith, h)

  split_product : (x y z : ℕ) → (x - y) * z ≡ x * z - y * z
  split_product x y z = mul_comm (x - y) z ∙ mul-sub z x y ∙ ap (λ n. n - z * y) (mul_comm z x)
      ∙ ap (λ n. x * z - n) (mul_comm z y)

  child_score : (a : Edge) → (child p a).entry.score ≡ score_at p (p.entry.cost + a.cost)
  child_score a =
      let inner : (MOST_WEIGHT - p.entry.cost) - a.cost ≡ MOST_WEIGHT - (p.entry.cost + a.cost) =
      omega arith in
      ap (λ n. n - a.cost * p.entry.boost) o.score_is
      ∙ sym (split_product (MOST_WEIGHT - p.entry.cost) a.cost p.entry.boost)
      ∙ ap (λ n. n * p.entry.boost) inner

  -- the entry behind an arc is over its node
  pub over-child : (a : Edge) → In a edges → IsOver all ways (child p a)
  over-child a i = record {
    score_is = child_score a;
    least = o.least;
    fits = λ v j. let h = o.fits (along a v) (d.down a v i j) in omega (arith, h);
    to = λ v j.
        let m = o.to (along a v) (d.down a v i j) in
        let sum : p.entry.cost + (a.cost + v.1) ≡ p.entry.cost + a.cost + v.1 = omega arith in
        (m.0, m.1, m.2, m.3 ∙ longer p.bytes a.label v.0, m.4 ∙ ap (λ n. score_at p n) sum);
    from = λ m j c.
        let w = by_arc m j (under_child m a c) in
        let b : Edge = w.0 in
        let v : Tail = w.1 in
        let same_label : a.label ≡ b.label =
        eqb-true a.label b.label (sym (label_of m a b v.0 w.4) ∙ covers-bytes m (child p a) c) in
        let same : b ≡ a = one_label b a edges d.labels w.2 i (sym same_label) in
        let sum : p.entry.cost + (a.cost + v.1) ≡ p.entry.cost + a.cost + v.1 = omega arith in (
          v,
          subst (λ (z : Edge). In v (ways z.target.0)) same w.3,
          subst (λ (z : Edge). m.bytes ≡ p.bytes ++ (z.label ∷ v.0)) same w.4
              ∙ longer p.bytes a.label v.0,
          subst (λ (z : Edge). m.rank.score ≡ score_at p (p.entry.cost + (z.cost + v.1))) same w.5
              ∙ ap (λ n. score_at p n) sum,
        );
    free = d.frees a i;
  }

  -- counts

  child_covers : (m : Match) (a b : Edge) (more : List ℕ) → p.entry.start ≡ m.start
      → m.bytes ≡ p.bytes ++ (b.label ∷ more) → covers m (child p a) ≡ nat_eq a.label b.label
  child_covers m a b more s e =
      ap (λ z. z && begins (p.bytes ++ a.label ∷ []) m.bytes) (eq-eqb p.entry.start m.start s)
      ∙ label_of m a b more e

  pub passing_children : (m : Match) (xs : List Edge) (b : Edge) (more : List ℕ)
      → p.entry.start ≡ m.start → m.bytes ≡ p.bytes ++ (b.label ∷ more)
      → passing (covers m) (map (child p) xs) ≡ passing (λ (u : Edge). nat_eq u.label b.label) xs
  passing_children m [] b more s e = refl
  passing_children m (x ∷ xs) b more s e =
      ap (λ z. cond z 1 0 + passing (covers m) (map (child p) xs)) (child_covers m x b more s e)
      ∙ ap (λ n. cond (nat_eq x.label b.label) 1 0 + n) (passing_children m xs b more s e)

  pub no_children : (m : Match) (xs : List Edge) → covers m p ≡ false
      → passing (covers m) (map (child p) xs) ≡ 0
  no_children m [] n = refl
  no_children m (x ∷ xs) n = none_at (covers m (child p x)) refl (no_children m xs n)
    where
      none_at : (c : Bool) → covers m (child p x) ≡ c → passing (covers m) (map (child p) xs) ≡ 0
          → cond c 1 0 + passing (covers m) (map (child p) xs) ≡ 0
      none_at true e h = let never : true ≡ false = sym (under_child m x e) ∙ n in cc
      none_at false e h = omega (arith, h)

-- at the end an entry is over one matching path, where no two have the same start and bytes
pub ends-over : (all : List Match) (ways : ℕ → List Tail) (p : Queued) → IsOver all ways p
    → ways p.entry.node.0 ≡ no_way ∷ []
    → ((m m' : Match) → In m all → In m' all → m.start ≡ m'.start → m.bytes ≡ m'.bytes → m ≡ m')
    → (m : Match) × Ends all p m
ends-over all ways p o end different =
    let own : In (no_way) (ways p.entry.node.0) =
    subst (λ zs. In (no_way) zs) (sym end) (inl refl) in
    let m = o.to (no_way) own in
    let bytes : p.bytes ≡ m.0.bytes = sym (append-nil p.bytes) ∙ sym m.3 in (
      m.0,
      record {
        of = m.1;
        over = covers-of m.0 p (sym m.2)
            (subst (λ z. begins p.bytes z ≡ true) (sym m.3) (begins-append p.bytes []));
        bytes = bytes;
        alone = λ m' i c.
            let v = o.from m' i c in
            let empty : v.0 ≡ no_way = elim (subst (λ zs. In v.0 zs) end v.1) as (λ _. v.0 ≡ no_way)
            [ inl e ↦ e | inr j ↦ elim j [ ] ] in
            let bytes' : m'.bytes ≡ p.bytes =
            v.2 ∙ ap (λ (z : Tail). p.bytes ++ z.0) empty ∙ append-nil p.bytes in
            different m' m.0 i m.1 (sym (covers-start m' p c) ∙ sym m.2) (bytes' ∙ bytes);
      },
    )
