-- The walk as a loop.
use Rattle.std.proofs.Common.{◌≡◌, ◌<◌, ◌≤◌, ◌+◌, ◌-◌, ℕ, zero, suc, ◌*◌, Bool, false, not}
use Rattle.std.proofs.Common.{eqb, eq-eqb, ne_eqb, List, [], ◌∷◌, ◌++◌, length, get_or, drop}
use Rattle.std.proofs.Common.{Option, Some, None, refl, sym, ap, subst, ◌∙◌, arith, ◌⊎◌, inl, inr}
use Rattle.std.proofs.Common.{append_assoc}
use Rattle.std.specs.List.{AllByRecursion}
use Rattle.std.proofs.lemmas.Bool.{cases_lt}
use Rattle.sg_base.specs.declared.node.Edge.{Edge}
use Rattle.fst_code.specs.Rules.{has, for_targets, postorder, from_to, in_nodes, targets_broken}
use Rattle.fst_code.specs.Rules.{misplaced, or_first, broken_if}
use Rattle.fst_code.specs.Numbering.{first_target, completed, finished, IsPlaced}
use Rattle.fst_code.specs.Bytes.{first_form, entry}
use Rattle.fst_code.proofs.TableLemmas.{Falls}
use Rattle.fst_code.proofs.WalkLemmas.{from_to_more, has-from_to, length-from_to}
use Rattle.fst_code.proofs.ArcLemmas.{drop_arc}
use Rattle.fst_code.proofs.ReadLemmas.{over_each, below_of, at_any}
use Rattle.fst_code.proofs.PassingLemmas.{passes, enters, Goes, goes_on, targets_go, postorder_goes}
use Rattle.std.proofs.lemmas.List.{append-nil, drop_at}

pub finished_push : (nodes : List (List Edge)) (fs : List (ℕ × ℕ)) (id at : ℕ) (done : List ℕ)
    → finished nodes (fs ++ (id, at) ∷ []) done ≡ finished nodes fs (completed nodes id at done)
finished_push nodes [] id at done = refl
finished_push nodes (f ∷ fs) id at done =
    ap (completed nodes f.0 f.1) (finished_push nodes fs id at done)

drop_suc : (at : ℕ) (xs : List Edge) (t : ℕ) → Some t ≡ first_target (drop at xs)
    → (e : Edge) × (drop at xs ≡ e ∷ drop (suc at) xs) × (e.target.0 ≡ t)
drop_suc zero [] t h = absurd cc
drop_suc zero (x ∷ xs) t h = (x, refl, cc)
drop_suc (suc at) [] t h = absurd cc
drop_suc (suc at) (x ∷ xs) t h = drop_suc at xs t h

pub drop_first : (at : ℕ) (xs : List Edge) (t : ℕ) → Some t ≡ first_target (drop at xs)
    → (e : Edge) × (drop at xs ≡ e ∷ drop (at + 1) xs) × (e.target.0 ≡ t)
drop_first at xs t h =
    let d = drop_suc at xs t h in
    let s : suc at ≡ at + 1 = omega (arith) in
    (d.0, d.1 ∙ ap (λ (k : ℕ). d.0 ∷ drop k xs) s, d.2)

pub drop_none : (at : ℕ) (xs : List Edge) → None ≡ first_target (drop at xs) → drop at xs ≡ []
drop_none zero [] h = refl
drop_none zero (x ∷ xs) h = absurd cc
drop_none (suc at) [] h = refl
drop_none (suc at) (x ∷ xs) h = drop_none at xs h

hasnt_from : (t n i : ℕ) → i + n ≤ t → has t (from_to n i) ≡ false
hasnt_from t zero i h = refl
hasnt_from t (suc n) i h = rw (ne_eqb t i (λ e. absurd (omega (arith, h, e))))
    (hasnt_from t n (i + 1) (omega (arith, h)))

pub leaves : (nodes : List (List Edge)) (id at next : ℕ)
    → None ≡ first_target (drop at (get_or nodes id [])) → id ≡ next
    → completed nodes id at (from_to next 0) ≡ from_to (next + 1) 0
leaves nodes id at next h e =
    ap (λ (es : List Edge). for_targets (postorder id nodes) es (from_to next 0) ++ id ∷ [])
    (drop_none at (get_or nodes id []) h)
    ∙ ap (λ (k : ℕ). from_to next 0 ++ k ∷ []) (omega (arith, e)) ∙ from_to_more next

below_drop : (k at : ℕ) (es : List Edge) → AllByRecursion (λ (e : Edge). e.target.0 < k) es
    → AllByRecursion (λ (e : Edge). e.target.0 < k) (drop at es)
below_drop k zero es all = all
below_drop k (suc at) [] all = tt
below_drop k (suc at) (e ∷ es) all = below_drop k at es all.1

first_below : (k : ℕ) (e : Edge) (xs es : List Edge) → xs ≡ e ∷ es
    → AllByRecursion (λ (x : Edge). x.target.0 < k) xs → e.target.0 < k
first_below k e xs es same all =
    (subst (λ z. AllByRecursion (λ (x : Edge). x.target.0 < k) z) same all).0

pub target_below : (nodes : List (List Edge)) (id at t : ℕ) → Falls nodes
    → Some t ≡ first_target (drop at (get_or nodes id [])) → t < id
target_below nodes id at t falls h =
    let d = drop_first at (get_or nodes id []) t h in
    let l = first_below id d.0 (drop at (get_or nodes id [])) (drop (at + 1) (get_or nodes id []))
    d.1 (below_drop id at (get_or nodes id []) (falls id)) in
    omega (arith, l, d.2)

pub goes_past : (nodes : List (List Edge)) (id at t next : ℕ) → Falls nodes
    → Some t ≡ first_target (drop at (get_or nodes id [])) → t < next
    → completed nodes id at (from_to next 0) ≡ completed nodes id (at + 1) (from_to next 0)
goes_past nodes id at t next falls h known =
    let d = drop_first at (get_or nodes id []) t h in
    let l = target_below nodes id at t falls h in
    ap (λ (es : List Edge). for_targets (postorder id nodes) es (from_to next 0) ++ id ∷ []) d.1
    ∙ passes nodes id d.0 (drop (at + 1) (get_or nodes id [])) [] (from_to next 0)
    (omega (arith, l, d.2)) (has-from_to next 0 d.0.target.0 (omega (arith))
    (omega (arith, known, d.2)))

pub goes_in : (nodes : List (List Edge)) (id at t next : ℕ) → Falls nodes
    → Some t ≡ first_target (drop at (get_or nodes id [])) → next ≤ t
    → completed nodes id at (from_to next 0)
    ≡ completed nodes id (at + 1) (completed nodes t 0 (from_to next 0))
goes_in nodes id at t next falls h new =
    let d = drop_first at (get_or nodes id []) t h in
    let l = target_below nodes id at t falls h in
    ap (λ (es : List Edge). for_targets (postorder id nodes) es (from_to next 0) ++ id ∷ []) d.1
    ∙ enters nodes id d.0 (drop (at + 1) (get_or nodes id [])) [] (from_to next 0) falls
    (omega (arith, l, d.2)) (hasnt_from d.0.target.0 next 0 (omega (arith, new, d.2)))
    ∙ ap (λ (k : ℕ). completed nodes id (at + 1) (completed nodes k 0 (from_to next 0))) d.2

pub begins : (nodes : List (List Edge)) (root : ℕ)
    → completed nodes root 0 [] ≡ postorder (root + 1) nodes root []
unfolding postorder
begins nodes root =
    let s : suc root ≡ root + 1 = omega (arith) in
    let here : completed nodes root 0 [] ≡ postorder (suc root) nodes root [] = refl in
    here ∙ ap (λ (k : ℕ). postorder k nodes root []) s

completed_goes : (nodes : List (List Edge)) (id at : ℕ) (done : List ℕ)
    → Goes done (completed nodes id at done)
completed_goes nodes id at done =
    let g = targets_go (postorder id nodes) (postorder_goes id nodes) (drop at (get_or nodes id []))
    done in
    goes_on done (for_targets (postorder id nodes) (drop at (get_or nodes id [])) done)
    (completed nodes id at done) g (id ∷ [], refl)

finished_goes : (nodes : List (List Edge)) (fs : List (ℕ × ℕ)) (done : List ℕ)
    → Goes done (finished nodes fs done)
finished_goes nodes [] done = ([], sym (append-nil done))
finished_goes nodes (f ∷ fs) done =
    goes_on done (finished nodes fs done) (finished nodes (f ∷ fs) done)
    (finished_goes nodes fs done) (completed_goes nodes f.0 f.1 (finished nodes fs done))

fronts : (n : ℕ) (all : List ℕ) → Goes (from_to n 0) all → all ≡ from_to n 0 ++ drop n all
fronts n all g = g.1 ∙ ap (λ (x : List ℕ). from_to n 0 ++ x)
    (sym (ap (drop n) g.1 ∙ drop_at (from_to n 0) g.0 n (length-from_to n 0)))

pub all_left : (nodes : List (List Edge)) (fs : List (ℕ × ℕ)) (id at next : ℕ) (all : List ℕ)
    → fs ≡ [] → None ≡ first_target (drop at (get_or nodes id [])) → id ≡ next
    → finished nodes fs (completed nodes id at (from_to next 0)) ≡ all
    → all ≡ from_to (next + 1) 0 ++ drop (next + 1) all
all_left nodes fs id at next all none h e inv =
    let l : finished nodes fs (completed nodes id at (from_to next 0)) ≡ from_to (next + 1) 0 =
    ap (λ f. finished nodes f (completed nodes id at (from_to next 0))) none
    ∙ leaves nodes id at next h e in
    fronts (next + 1) all ([], sym inv ∙ l ∙ sym (append-nil (from_to (next + 1) 0)))

pub falls_of : (ns : List (List Edge))
    → in_nodes first_form (λ id at n. targets_broken first_form id at n) ns ≡ None → Falls ns
falls_of ns e =
    let r = over_each first_form (λ id at n. targets_broken first_form id at n) 0
    (entry (length ns)) ns e in
    λ id. at_any (λ (k : ℕ) (es : List Edge). AllByRecursion (λ (x : Edge). x.target.0 < k) es) ns
    (λ k. tt)
    (λ k h. let q = r k h in below_of first_form k q.0 (get_or ns k [])
    (let z : k ≡ 0 + k = omega (arith) in
    ap (λ (i : ℕ). targets_broken first_form i q.0 (get_or ns k [])) z ∙ q.1)) id
    (cases_lt id (length ns))

pub target_some : (at : ℕ) (xs es : List Edge) (e : Edge) → xs ≡ es → at < length xs
    → e ≡ get_or xs at e → Some e.target.0 ≡ first_target (drop at es)
target_some at xs es e same h is =
    sym (ap (λ (x : List Edge). first_target (drop at x)) (sym same)
    ∙ ap first_target (drop_arc at xs e h is))

pub placed_other : (nodes : List (List Edge)) (fs : List (ℕ × ℕ)) (id at next : ℕ) (all : List ℕ)
    → None ≡ first_target (drop at (get_or nodes id [])) → (id ≡ next → ⊥)
    → finished nodes fs (completed nodes id at (from_to next 0)) ≡ all → IsPlaced next all
placed_other nodes fs id at next all h ne inv =
    let here : completed nodes id at (from_to next 0) ≡ from_to next 0 ++ id ∷ [] =
    ap (λ (es : List Edge). for_targets (postorder id nodes) es (from_to next 0) ++ id ∷ [])
    (drop_none at (get_or nodes id []) h) in
    let g = finished_goes nodes fs (completed nodes id at (from_to next 0)) in
    record {
      more = id ∷ g.0;
      front = sym inv ∙ g.1 ∙ ap (λ (x : List ℕ). x ++ g.0) here
          ∙ append_assoc (from_to next 0) (id ∷ []) g.0;
      other = inr ne;
    }

pub placed_all : (nodes : List (List Edge)) (fs : List (ℕ × ℕ)) (id at next : ℕ) (all : List ℕ)
    → fs ≡ [] → None ≡ first_target (drop at (get_or nodes id [])) → id ≡ next
    → finished nodes fs (completed nodes id at (from_to next 0)) ≡ all → IsPlaced (next + 1) all
placed_all nodes fs id at next all none h e inv =
    record {
      more = [];
      front = sym inv ∙ ap (λ f. finished nodes f (completed nodes id at (from_to next 0))) none
          ∙ leaves nodes id at next h e ∙ sym (append-nil (from_to (next + 1) 0));
      other = inl refl;
    }

self_first : (id : ℕ) (at : ℕ) (x : Option ℕ) → or_first (broken_if (not (eqb id id)) at) x ≡ x
self_first id at x = ap (λ (b : Bool). or_first (broken_if (not b) at) x) (eq-eqb id id refl)

pub misplaced_past : (k n id : ℕ) (more : List ℕ) → n ≤ k
    → misplaced n id (from_to k id ++ more) ≡ None
misplaced_past k zero id more h = refl
misplaced_past zero (suc n) id more h = absurd (omega (arith, h))
misplaced_past (suc k) (suc n) id more h =
    self_first id (entry id) (misplaced n (id + 1) (from_to k (id + 1) ++ more))
    ∙ misplaced_past k n (id + 1) more (omega (arith, h))

other_first : (n id : ℕ) (more : List ℕ) → (more ≡ []) ⊎ (get_or more 0 id ≡ id → ⊥)
    → misplaced (suc n) id more ≡ Some (entry id)
other_first n id [] h = refl
other_first n id (x ∷ xs) (inl e) = absurd cc
other_first n id (x ∷ xs) (inr ne) =
    ap (λ (b : Bool). or_first (broken_if (not b) (entry id)) (misplaced n (id + 1) xs))
    (ne_eqb x id ne)

pub misplaced_there : (k n id : ℕ) (more : List ℕ) → k < n
    → (more ≡ []) ⊎ (get_or more 0 (id + k) ≡ id + k → ⊥)
    → misplaced n id (from_to k id ++ more) ≡ Some (entry (id + k))
misplaced_there k zero id more h other = absurd (omega (arith, h))
misplaced_there zero (suc n) id more h other =
    let z : id + 0 ≡ id = omega (arith) in
    other_first n id more (subst (λ (m : ℕ). (more ≡ []) ⊎ (get_or more 0 m ≡ m → ⊥)) z other)
    ∙ ap (λ (m : ℕ). Some (entry m)) (sym z)
misplaced_there (suc k) (suc n) id more h other =
    let z : id + suc k ≡ id + 1 + k = omega (arith) in
    self_first id (entry id) (misplaced n (id + 1) (from_to k (id + 1) ++ more))
    ∙ misplaced_there k n (id + 1) more (omega (arith, h))
    (subst (λ (m : ℕ). (more ≡ []) ⊎ (get_or more 0 m ≡ m → ⊥)) z other)
    ∙ ap (λ (m : ℕ). Some (entry m)) (sym z)

pub placed_before : (next n : ℕ) (order : List ℕ) → IsPlaced next order → next < n
    → Some (16 + 4 * next) ≡ misplaced n 0 order
placed_before next n order p h =
    let z : next ≡ 0 + next = omega (arith) in
    sym (ap (misplaced n 0) p.front
    ∙ misplaced_there next n 0 p.more h
    (subst (λ (m : ℕ). (p.more ≡ []) ⊎ (get_or p.more 0 m ≡ m → ⊥)) z p.other)
    ∙ ap (λ (m : ℕ). Some (entry m)) (sym z))

pub placed_whole : (next n : ℕ) (order : List ℕ) → IsPlaced next order → n ≤ next
    → None ≡ misplaced n 0 order
placed_whole next n order p h = sym (ap (misplaced n 0) p.front ∙ misplaced_past next n 0 p.more h)

pub begins_root : (nodes : List (List Edge)) (count : ℕ) → 0 < count
    → completed nodes (count - 1) 0 [] ≡ postorder count nodes (count - 1) []
begins_root nodes count h =
    let s : count - 1 + 1 ≡ count = omega (arith, h) in
    begins nodes (count - 1) ∙ ap (λ (k : ℕ). postorder k nodes (count - 1) []) s
