-- All paths rise: each is bytewise less than the next, whatever stands behind it.
use Rattle.std.proofs.Common.{◌≡◌, ◌≤◌, ◌<◌, ◌+◌, ℕ, suc, Bool, true, false, not, ◌&&◌, ◌||◌}
use Rattle.std.proofs.Common.{cond, Ordering, eqb}
use Rattle.std.proofs.Common.{List, [], ◌∷◌, ◌++◌, length, map, refl, sym, ap, ◌∙◌, arith}
use Rattle.std.proofs.Common.{append_assoc, Option, Some, None}
use Rattle.std.specs.Prelude.{is_none}
use Rattle.std.specs.Int.{w32, to_be_bytes}
use Rattle.std.specs.List.{AllByRecursion, list_all, position_from}
use Rattle.std.specs.Cmp.Lexicographic.{slice_cmp, bytes_decides}
use Rattle.std.specs.Ordering.{nat_cmp, is_lt, ordering_then, ordering_reverse}
use Rattle.std.specs.declared.cmp.Ordering.TheVariants.{Less, Equal, Greater}
use Rattle.std.specs.FinMap.{nat_cmp-IsAntisymmetric, slice_cmp-IsAntisymmetric}
use Rattle.std.proofs.lemmas.Cmp.{nat_list_cmp_total}
use Rattle.std.proofs.lemmas.List.{append_cancel_right}
use Rattle.std.proofs.lemmas.Bool.{and_from, and_parts}
use Rattle.sg_base.specs.ReservedBytes.{is_reserved}
use Rattle.sg_base.specs.Keys.{is_key_byte}
use Rattle.sg_base.specs.Ranking.{in_order}
use Rattle.sg_base.proofs.Sorting.{rises-in_order, NoneBelow, Rises as Sorted}
use Rattle.sg_base.proofs.InOrderLemmas.{length-in_order}
use Rattle.sg_paths.specs.Operations.{PlainNumbered}
use Rattle.sg_paths.specs.AllPaths.{Entry, path_entries, entry_cmp, entry_cmp_total}
use Rattle.sg_paths.specs.AllPaths.{is_alike, number_after, numbered, all_paths}
use Rattle.sg_paths.specs.AllPaths.{head_bytes, path_bytes}
use Rattle.sg_paths.specs.PathLaws.{IsLegal, RisesFrom, Rises}
use Rattle.sg_base.specs.ByteStrings.{is_less, lacks}
use Rattle.sg_base.proofs.ByteStringLemmas.{slice-less}
use Rattle.sg_paths.proofs.ByteLemmas.{front_less, ends_less, keys_less, number_less, longer_less}

clash : false ≡ true → ⊥
clash e = cc

-- entries that tie are one
each_ties : (o p : Ordering) → ordering_then o p ≡ Equal → (o ≡ Equal) × (p ≡ Equal)
each_ties Less p h = cc
each_ties Equal p h = (refl, h)
each_ties Greater p h = cc

abbrev entry_with : List ℕ → List ℕ → ℕ → ℕ → ℕ → Entry
entry_with c k w d p = record { context = c; key = k; weight = w; doc = d; place = p }

pub entry_cmp_exact : (x y : Entry) → entry_cmp x y ≡ Equal → x ≡ y
entry_cmp_exact x y ties =
    let a = each_ties _ (nat_cmp x.place y.place) ties in
    let b = each_ties _ (nat_cmp x.doc y.doc) a.0 in
    let c = each_ties _ (nat_cmp y.weight x.weight) b.0 in
    let d = each_ties (slice_cmp nat_cmp (x.context ++ 29 ∷ []) (y.context ++ 29 ∷ []))
    (slice_cmp nat_cmp x.key y.key) c.0 in
    let context : x.context ≡ y.context = append_cancel_right x.context y.context (29 ∷ [])
    (slice_cmp-IsAntisymmetric nat_cmp-IsAntisymmetric _ _ d.0) in
    let key : x.key ≡ y.key = slice_cmp-IsAntisymmetric nat_cmp-IsAntisymmetric x.key y.key d.1 in
    let weight : x.weight ≡ y.weight = sym (nat_cmp-IsAntisymmetric y.weight x.weight c.1) in
    let doc : x.doc ≡ y.doc = nat_cmp-IsAntisymmetric x.doc y.doc b.1 in
    let place : x.place ≡ y.place = nat_cmp-IsAntisymmetric x.place y.place a.1 in
    ap (λ z. entry_with z x.key x.weight x.doc x.place) context
    ∙ ap (λ z. entry_with y.context z x.weight x.doc x.place) key
    ∙ (ap (λ z. entry_with y.context y.key z x.doc x.place) weight
    ∙ (ap (λ z. entry_with y.context y.key y.weight z x.place) doc
    ∙ ap (λ z. entry_with y.context y.key y.weight y.doc z) place))

-- what isn't before the one, is behind it in one of three ways
pub data Behind (e f : Entry) : Type 0 where
  context : is_less (e.context ++ 29 ∷ []) (f.context ++ 29 ∷ []) ≡ true → Behind e f
  key : e.context ≡ f.context → is_less e.key f.key ≡ true → Behind e f
  alike : e.context ≡ f.context → e.key ≡ f.key → Behind e f

turned : (x y : List ℕ) → slice_cmp nat_cmp y x ≡ Greater → is_less x y ≡ true
turned x y h =
    let back : slice_cmp nat_cmp x y ≡ Less =
    nat_list_cmp_total.antisymm x y ∙ ap ordering_reverse h in
    sym (slice-less x y) ∙ ap is_lt back

behind_key : (e f : Entry) (o : Ordering) (p : Ordering) → slice_cmp nat_cmp f.key e.key ≡ o
    → e.context ≡ f.context
    → is_lt (ordering_then o p) ≡ false → Behind e f
behind_key e f Less p is same h = absurd (clash (sym h))
behind_key e f Equal p is same h =
    alike same (sym (slice_cmp-IsAntisymmetric nat_cmp-IsAntisymmetric f.key e.key is))
behind_key e f Greater p is same h = key same (turned e.key f.key is)

then_assoc2 : (c d e : Ordering)
    → ordering_then (ordering_then c d) e ≡ ordering_then c (ordering_then d e)
then_assoc2 Less d e = refl
then_assoc2 Equal d e = refl
then_assoc2 Greater d e = refl

then_assoc3 : (b c d e : Ordering) → ordering_then (ordering_then (ordering_then b c) d) e
    ≡ ordering_then b (ordering_then c (ordering_then d e))
then_assoc3 Less c d e = refl
then_assoc3 Equal c d e = then_assoc2 c d e
then_assoc3 Greater c d e = refl

then_assoc : (a b c d e : Ordering)
    → ordering_then (ordering_then (ordering_then (ordering_then a b) c) d) e
    ≡ ordering_then a (ordering_then b (ordering_then c (ordering_then d e)))
then_assoc Less b c d e = refl
then_assoc Equal b c d e = then_assoc3 b c d e
then_assoc Greater b c d e = refl

behind_context : (e f : Entry) (o p r : Ordering)
    → slice_cmp nat_cmp (f.context ++ 29 ∷ []) (e.context ++ 29 ∷ []) ≡ o
    → slice_cmp nat_cmp f.key e.key ≡ p → is_lt (ordering_then o (ordering_then p r)) ≡ false
    → Behind e f
behind_context e f Less p r is k h = absurd (clash (sym h))
behind_context e f Equal p r is k h =
    behind_key e f p r k (sym (append_cancel_right f.context e.context (29 ∷ [])
    (slice_cmp-IsAntisymmetric nat_cmp-IsAntisymmetric _ _ is))) h
behind_context e f Greater p r is k h =
    context (turned (e.context ++ 29 ∷ []) (f.context ++ 29 ∷ []) is)

pub behind : (e f : Entry) → is_lt (entry_cmp f e) ≡ false → Behind e f
behind e f h =
    behind_context e f (slice_cmp nat_cmp (f.context ++ 29 ∷ []) (e.context ++ 29 ∷ []))
    (slice_cmp nat_cmp f.key e.key)
    (ordering_then (nat_cmp e.weight f.weight)
    (ordering_then (nat_cmp f.doc e.doc) (nat_cmp f.place e.place))) refl refl
    (ap is_lt
    (sym (then_assoc (slice_cmp nat_cmp (f.context ++ 29 ∷ []) (e.context ++ 29 ∷ []))
    (slice_cmp nat_cmp f.key e.key)
    (nat_cmp e.weight f.weight) (nat_cmp f.doc e.doc) (nat_cmp f.place e.place))) ∙ h)

-- no byte of the context ends a context, and none of the key ends a key
abbrev pub IsClean : Entry → Type 0
IsClean e = (lacks 29 e.context ≡ true) × (lacks 0 e.key ≡ true)

alike_true : (e f : Entry) → e.context ≡ f.context → e.key ≡ f.key → is_alike e f ≡ true
alike_true e f a b =
    and_from _ _ ((bytes_decides e.context f.context).1 a) ((bytes_decides e.key f.key).1 b)

-- the path of the next
regroup : (c k n : List ℕ) → (c ++ 29 ∷ (k ++ 0 ∷ [])) ++ n ≡ c ++ 29 ∷ (k ++ 0 ∷ n)
regroup c k n =
    append_assoc c (29 ∷ (k ++ 0 ∷ [])) n ∙ ap (λ z. c ++ 29 ∷ z) (append_assoc k (0 ∷ []) n)

regroup_more : (c k n z : List ℕ)
    → ((c ++ 29 ∷ (k ++ 0 ∷ [])) ++ n) ++ z ≡ c ++ 29 ∷ (k ++ 0 ∷ (n ++ z))
regroup_more c k n z = append_assoc (c ++ 29 ∷ (k ++ 0 ∷ [])) n z ∙ regroup c k (n ++ z)

pub next_goes : (e f : Entry) (m : ℕ) → IsClean e → IsClean f → Behind e f → m + 1 < 4294967296
    → (z : List ℕ)
    → is_less (path_bytes (record { entry = e; n = m }) ++ z)
    (path_bytes (record { entry = f; n = number_after (Some (e, m)) f })) ≡ true
next_goes e f m p q (context h) k z =
    let x = to_be_bytes w32 m in
    let y = to_be_bytes w32 (number_after (Some (e, m)) f) in
    ap (λ w. is_less w (head_bytes f ++ y)) (regroup_more e.context e.key x z)
    ∙ ap (λ w. is_less (e.context ++ 29 ∷ (e.key ++ 0 ∷ (x ++ z))) w) (regroup f.context f.key y)
    ∙ ends_less 29 e.context f.context (e.key ++ 0 ∷ (x ++ z)) (f.key ++ 0 ∷ y) p.0 q.0 h
next_goes e f m p q (key c h) k z =
    let x = to_be_bytes w32 m in
    let y = to_be_bytes w32 (number_after (Some (e, m)) f) in
    ap (λ w. is_less w (head_bytes f ++ y)) (regroup_more e.context e.key x z)
    ∙ ap (λ w. is_less (e.context ++ 29 ∷ (e.key ++ 0 ∷ (x ++ z))) w) (regroup f.context f.key y)
    ∙ ap (λ w. is_less (w ++ 29 ∷ (e.key ++ 0 ∷ (x ++ z))) (f.context ++ 29 ∷ (f.key ++ 0 ∷ y))) c
    ∙ front_less f.context (29 ∷ (e.key ++ 0 ∷ (x ++ z))) (29 ∷ (f.key ++ 0 ∷ y))
    ∙ front_less (29 ∷ []) (e.key ++ 0 ∷ (x ++ z)) (f.key ++ 0 ∷ y)
    ∙ keys_less e.key f.key (x ++ z) y p.1 q.1 h
next_goes e f m p q (alike c h) k z =
    let x = to_be_bytes w32 m in
    let n : number_after (Some (e, m)) f ≡ m + 1 =
    ap (λ b. cond b (m + 1) 0) (alike_true e f c h) in
    let heads : head_bytes e ≡ head_bytes f =
    ap (λ z. z ++ 29 ∷ (e.key ++ 0 ∷ [])) c ∙ ap (λ z. f.context ++ 29 ∷ (z ++ 0 ∷ [])) h in
    ap (λ w. is_less w (head_bytes f ++ to_be_bytes w32 (number_after (Some (e, m)) f)))
    (append_assoc (head_bytes e) x z)
    ∙ ap (λ w. is_less (w ++ (x ++ z))
    (head_bytes f ++ to_be_bytes w32 (number_after (Some (e, m)) f))) heads
    ∙ ap (λ i. is_less (head_bytes f ++ (x ++ z)) (head_bytes f ++ to_be_bytes w32 i)) n
    ∙ front_less (head_bytes f) (x ++ z) (to_be_bytes w32 (m + 1))
    ∙ longer_less x (to_be_bytes w32 (m + 1)) z refl (number_less m (m + 1) (omega arith) k)

number_most : (e f : Entry) (m : ℕ) (b : Bool) → cond b (m + 1) 0 ≤ m + 1
number_most e f m true = omega arith
number_most e f m false = omega arith

rise_from : (e : Entry) (m : ℕ) (es : List Entry)
    → NoneBelow entry_cmp entry_cmp_total entry_cmp_exact e es
    → Sorted entry_cmp entry_cmp_total entry_cmp_exact es
    → IsClean e → AllByRecursion IsClean es → m + length es < 4294967296
    → RisesFrom (path_bytes (record { entry = e; n = m }))
    (map path_bytes (numbered (Some (e, m)) es))
rise_from e m [] below sorted p all k = tt
rise_from e m (f ∷ fs) below sorted p all k =
    let n = number_after (Some (e, m)) f in
    let most = number_most e f m (is_alike e f) in
    let x : List ℕ = path_bytes (record { entry = e; n = m }) in
    let y : List ℕ = path_bytes (record { entry = f; n = n }) in (
      λ z. slice-less (x ++ z) y
          ∙ next_goes e f m p all.0 (behind e f below.0) (omega (arith, k)) z,
      rise_from f n fs sorted.0 sorted.1 all.0 all.1 (omega (arith, k, most)),
    )

rise_all : (es : List Entry) → Sorted entry_cmp entry_cmp_total entry_cmp_exact es
    → AllByRecursion IsClean es → length es ≤ 4194304 → Rises (map path_bytes (numbered None es))
rise_all [] sorted all k = tt
rise_all (e ∷ es) sorted all k =
    rise_from e 0 es sorted.0 sorted.1 all.0 all.1 (omega (arith, k))

-- what is legal is clean
lacks_key : (k : List ℕ) → list_all is_key_byte k ≡ true → lacks 0 k ≡ true
lacks_key [] h = refl
lacks_key (b ∷ bs) h = by (eqb b 0) (eqb b 29) (lacks_key bs) h
  where
    by : (x y : Bool) → (list_all is_key_byte bs ≡ true → lacks 0 bs ≡ true)
        → ((not x && not y) && list_all is_key_byte bs) ≡ true → (not x && lacks 0 bs) ≡ true
    by true y f h = h
    by false true f h = absurd (clash h)
    by false false f h = f h

lacks_context : (n : ℕ) (c : List ℕ) → is_none (position_from is_reserved n c) ≡ true
    → lacks 29 c ≡ true
lacks_context n [] h = refl
lacks_context n (b ∷ bs) h = by (eqb b 0) (eqb b 29) _ (lacks_context (n + 1) bs) h
  where
    by : (x y z : Bool)
        → (is_none (position_from is_reserved (n + 1) bs) ≡ true → lacks 29 bs ≡ true)
        → is_none (cond (x || (y || z)) (Some n) (position_from is_reserved (n + 1) bs)) ≡ true
        → (not y && lacks 29 bs) ≡ true
    by true y z f h = absurd (clash h)
    by false true z f h = absurd (clash h)
    by false false true f h = absurd (clash h)
    by false false false f h = f h

pub legal_clean : (e : Entry) → IsLegal e → IsClean e
legal_clean e l =
    (lacks_context 0 e.context (and_parts _ _ l.context).0, lacks_key e.key (and_parts _ _ l.key).1)

entries_clean : (last : Option (Entry × ℕ)) (es : List Entry)
    → AllByRecursion (λ p. IsLegal p.entry) (numbered last es) → AllByRecursion IsClean es
entries_clean last [] a = tt
entries_clean last (e ∷ es) a =
    (legal_clean e a.0, entries_clean (Some (e, number_after last e)) es a.1)

-- all paths, where they are legal
pub paths_rise : (docs : List PlainNumbered)
    → AllByRecursion (λ p. IsLegal p.entry) (all_paths docs)
    → length (path_entries 0 docs) ≤ 4194304 → Rises (map path_bytes (all_paths docs))
paths_rise docs legal few =
    let es = path_entries 0 docs in
    let l = length-in_order entry_cmp es in
    rise_all (in_order entry_cmp es) (rises-in_order entry_cmp entry_cmp_total entry_cmp_exact es)
    (entries_clean None (in_order entry_cmp es) legal) (omega (arith, l, few))

-- there are as many as entries
length-numbered : (last : Option (Entry × ℕ)) (es : List Entry)
    → length (numbered last es) ≡ length es
length-numbered last [] = refl
length-numbered last (e ∷ es) = ap suc (length-numbered (Some (e, number_after last e)) es)

pub length-all_paths : (docs : List PlainNumbered)
    → length (all_paths docs) ≡ length (path_entries 0 docs)
length-all_paths docs =
    length-numbered None (in_order entry_cmp (path_entries 0 docs))
    ∙ length-in_order entry_cmp (path_entries 0 docs)
