-- A path more.
use Rattle.std.proofs.Common.{◌≡◌, ◌<◌, ◌≤◌, ◌+◌, ◌-◌, ℕ, zero, suc, Bool, true, false, eqb}
use Rattle.std.proofs.Common.{eqb-true, eq-eqb, List, [], ◌∷◌, ◌++◌, map, take, drop, set, length}
use Rattle.std.proofs.Common.{get_or, length-set, refl, sym, ap, subst, ◌∙◌, arith, append_assoc}
use Rattle.std.proofs.Common.{length-append, ◌⊎◌, inl, inr, Option, Some, None, IfSome, Fits, w8}
use Rattle.std.proofs.lemmas.List.{length_push, length-drop, length-map}
use Rattle.std.proofs.lemmas.List.{length-take-le, get_or-take, take-take}
use Rattle.sg_base.specs.declared.node.Edge.{Edge}
use Rattle.fst_code.specs.Tails.{Tail, tails}
use Rattle.fst_build.specs.declared.level.Level.{Level}
use Rattle.fst_build.specs.declared.carried.Carried.{Carried}
use Rattle.fst_build.specs.Building.{Frame, IsOpen, frame_paths, paths_under, ways_of, with_label}
use Rattle.fst_build.specs.Building.{with_cost, known, new_frames, branched_frame, labels_of}
use Rattle.fst_build.specs.Building.{AllBytes}
use Rattle.fst_build.specs.Levels.{total_held, frames_of, total_edges, open_paths, IsOpenBuilder}
use Rattle.fst_build.specs.Levels.{fresh_level, shared_length, last_edge, branched_level}
use Rattle.fst_build.specs.Levels.{added_paths, IsBuilder}
use Rattle.fst_build.specs.Sorted.{GoesOn, last_of, MayFollow}
use Rattle.fst_build.proofs.BranchLemmas.{branch_step, start_step}
use Rattle.fst_build.proofs.CountLemmas.{length-tails}
use Rattle.fst_build.proofs.LevelLemmas.{frame_of, splitting, total_held_push, frames_of_push}
use Rattle.fst_build.proofs.LevelLemmas.{held_last, empty_is}

-- the last path of a list
pub last_append : (xs ys : List Tail) (t : Tail) → last_of ys ≡ Some t → last_of (xs ++ ys) ≡ Some t
last_append [] ys t h = h
last_append (x ∷ []) [] t h = absurd cc
last_append (x ∷ []) (y ∷ ys) t h = h
last_append (x ∷ u ∷ xs) ys t h = last_append (u ∷ xs) ys t h

last_map : (f : Tail → Tail) (xs : List Tail) (t : Tail) → last_of xs ≡ Some t
    → last_of (map f xs) ≡ Some (f t)
last_map f [] t h = absurd cc
last_map f (x ∷ []) t h = ap (λ (u : Tail). Some (f u)) cc
last_map f (x ∷ u ∷ xs) t h = last_map f (u ∷ xs) t h

last_open : (known : List (List Tail)) (fs : List Frame) (inner : List Tail) (t : Tail)
    → last_of inner ≡ Some t
    → last_of (paths_under known fs inner) ≡ Some (labels_of fs ++ t.0, t.1)
last_open known [] inner t h = h
last_open known (f ∷ fs) inner t h =
    last_append (ways_of known f.edges) (map (with_label f.label) (paths_under known fs inner))
    (f.label ∷ labels_of fs ++ t.0, t.1)
    (last_map (with_label f.label) (paths_under known fs inner) (labels_of fs ++ t.0, t.1)
    (last_open known fs inner t h))

some_last : (xs : List Tail) → 0 < length xs → (t : Tail) × (last_of xs ≡ Some t)
some_last [] h = absurd (omega (arith, h))
some_last (x ∷ []) h = (x, refl)
some_last (x ∷ u ∷ xs) h = some_last (u ∷ xs) (omega arith)

labels_frames : (ls : List Level) (edges : List Edge)
    → labels_of (frames_of ls edges) ≡ map (λ (l : Level). l.label) ls
labels_frames [] edges = refl
labels_frames (l ∷ ls) edges =
    ap (λ (x : List ℕ). l.label ∷ x) (labels_frames ls (drop l.held edges))

length-frames : (ls : List Level) (edges : List Edge) → length (frames_of ls edges) ≡ length ls
length-frames [] edges = refl
length-frames (l ∷ ls) edges = ap suc (length-frames ls (drop l.held edges))

-- the last path begins with the levels' labels
pub last_path : (ns : List (List Edge)) (levels : List Level) (edges : List Edge) (c : Carried)
    → IsOpenBuilder ns levels edges c
    → (more : List ℕ) × (cost : ℕ)
    × (last_of (open_paths ns levels edges c)
    ≡ Some (map (λ (l : Level). l.label) levels ++ more, cost))
last_path ns levels edges c s =
    let n = length-tails ns c.target.0 in
    let k = s.opened.carried.count_is in
    let p = s.opened.carried.pos in
    let m = length-map (tails ns c.target.0) (with_cost c.cost) in
    let t =
    some_last (map (with_cost c.cost) (tails ns c.target.0)) (omega (arith, n, k, p, m)) in (
      t.0.0,
      t.0.1,
      last_open (known ns) (frames_of levels edges) (map (with_cost c.cost) (tails ns c.target.0))
          t.0 t.1 ∙ ap (λ (x : List ℕ). Some (x ++ t.0.0, t.0.1)) (labels_frames levels edges),
    )

-- where a path branches off
pub record Branches (levels : List Level) (path : List ℕ) (kept : ℕ) : Type 0 where
  pub within : kept < length path
  pub above : (l : Level) → l ≡ get_or levels kept l → l.label < get_or path kept 0
  pub same : map (λ (l : Level). l.label) (take kept levels) ≡ take kept path

either_cond : (b : Bool) → (b ≡ true) ⊎ (b ≡ false)
either_cond true = inl refl
either_cond false = inr refl

shared_same : (l : Level) (ls : List Level) (x : ℕ) (xs : List ℕ) → eqb l.label x ≡ true
    → shared_length (l ∷ ls) (x ∷ xs) ≡ 1 + shared_length ls xs
shared_same l ls x xs e = rw e refl

shared_not : (l : Level) (ls : List Level) (x : ℕ) (xs : List ℕ) → eqb l.label x ≡ false
    → shared_length (l ∷ ls) (x ∷ xs) ≡ 0
shared_not l ls x xs e = rw e refl

level_is : (a b : Level) → a ≡ b → a.label ≡ b.label
level_is a b e = ap (λ (l : Level). l.label) e

not_less : (l : Level) (x : ℕ) → eqb l.label x ≡ true → (l.label < x) → ⊥
not_less l x e h = let s : l.label ≡ x = eqb-true l.label x e in omega (arith, s, h)

later : (l : Level) (ls : List Level) (x : ℕ) (xs : List ℕ) (kept : ℕ)
    → suc kept ≡ shared_length (l ∷ ls) (x ∷ xs) → l.label < x
    → (eqb l.label x ≡ true) ⊎ (eqb l.label x ≡ false) → ⊥
later l ls x xs kept k lowered_arc (inl e) = not_less l x e lowered_arc
later l ls x xs kept k lowered_arc (inr e) = let z = shared_not l ls x xs e in omega (arith, k, z)

first : (l : Level) (ls : List Level) (x : ℕ) (xs : List ℕ) → 0 ≡ shared_length (l ∷ ls) (x ∷ xs)
    → l.label ≡ x → ⊥
first l ls x xs k e = let z = shared_same l ls x xs (eq-eqb l.label x e) in omega (arith, k, z)

pub branches_at : (levels : List Level) (more path : List ℕ) (kept : ℕ)
    → GoesOn (map (λ (l : Level). l.label) levels ++ more) path → kept ≡ shared_length levels path
    → kept < length levels → Branches levels path kept
branches_at [] more path kept g k h = absurd (omega (arith, h))
branches_at (l ∷ ls) more [] kept g k h = absurd g
branches_at (l ∷ ls) more (x ∷ xs) zero (inl lowered_arc) k h =
    record {
      within =
          omega (arith);
      above =
          λ m e. (let s = level_is m l e in omega (arith, s, lowered_arc));
      same = refl;
    }
branches_at (l ∷ ls) more (x ∷ xs) (suc kept) (inl lowered_arc) k h =
    absurd (later l ls x xs kept k lowered_arc (either_cond (eqb l.label x)))
branches_at (l ∷ ls) more (x ∷ xs) zero (inr e) k h = absurd (first l ls x xs k e.0)
branches_at (l ∷ ls) more (x ∷ xs) (suc kept) (inr e) k h =
    let same : shared_length (l ∷ ls) (x ∷ xs) ≡ 1 + shared_length ls xs =
    shared_same l ls x xs (eq-eqb l.label x e.0) in
    let b = branches_at ls more xs kept e.1 (omega (arith, k, same)) (omega (arith, h)) in
    record {
      within =
          (let w = b.within in omega (arith, w));
      above =
          b.above;
      same =
          ap (λ (y : ℕ). y ∷ map (λ (l : Level). l.label) (take kept ls)) e.0
          ∙ ap (λ (y : List ℕ). x ∷ y) b.same;
    }

if_some : (o : Option Tail) (t : Tail) (path : List ℕ) → o ≡ Some t
    → IfSome o (λ u. GoesOn u.0 path) → GoesOn t.0 path
if_some None t path e h = absurd cc
if_some (Some u) t path e h = let s : u ≡ t = cc in subst (λ (v : Tail). GoesOn v.0 path) s h

pub branches : (ns : List (List Edge)) (levels : List Level) (edges : List Edge) (c : Carried)
    (path : List ℕ) (kept : ℕ) → IsOpenBuilder ns levels edges c
    → MayFollow (open_paths ns levels edges c) path → kept ≡ shared_length levels path
    → kept < length levels → Branches levels path kept
branches ns levels edges c path kept s may k h =
    let l = last_path ns levels edges c s in
    branches_at levels l.0 path kept
    (if_some (last_of (open_paths ns levels edges c))
    (map (λ (l : Level). l.label) levels ++ l.0, l.1) path l.2 may) k h

-- levels of a path that goes on alone
frames_fresh : (xs : List ℕ) → frames_of (map fresh_level xs) [] ≡ new_frames xs
frames_fresh [] = refl
frames_fresh (x ∷ xs) =
    ap (λ (fs : List Frame). record { label = x; count = 0; edges = [] } ∷ fs) (frames_fresh xs)

held_fresh : (xs : List ℕ) → total_held (map fresh_level xs) ≡ 0
held_fresh [] = refl
held_fresh (x ∷ xs) = let ih = held_fresh xs in omega (arith, ih)

held_append : (ls ms : List Level) → total_held (ls ++ ms) ≡ total_held ls + total_held ms
held_append [] ms = omega (arith)
held_append (l ∷ ls) ms = let ih = held_append ls ms in omega (arith, ih)

frames_extend : (ls : List Level) (xs : List Edge) (path : List ℕ) → total_held ls ≡ length xs
    → frames_of (ls ++ map fresh_level path) xs ≡ frames_of ls xs ++ new_frames path
frames_extend [] xs path h =
    ap (frames_of (map fresh_level path)) (empty_is xs h) ∙ frames_fresh path
frames_extend (l ∷ ls) xs path h =
    let len = length-drop l.held xs in
    ap (λ (fs : List Frame). record
    { label = l.label; count = l.count; edges = take l.held xs } ∷ fs)
    (frames_extend ls (drop l.held xs) path (omega (arith, h, len)))

all_drop : (n : ℕ) (xs : List ℕ) → AllBytes xs → AllBytes (drop n xs)
all_drop zero xs all = all
all_drop (suc n) [] all = tt
all_drop (suc n) (x ∷ xs) all = all_drop n xs all.1

all_bytes_at : (xs : List ℕ) (i : ℕ) → AllBytes xs → i < length xs → get_or xs i 0 < 256
all_bytes_at [] i all h = absurd (omega (arith, h))
all_bytes_at (x ∷ xs) zero all h = all.0
all_bytes_at (x ∷ xs) (suc i) all h = all_bytes_at xs i all.1 (omega (arith, h))

path_split : (xs : List ℕ) (i : ℕ) → i < length xs
    → take i xs ++ get_or xs i 0 ∷ drop (i + 1) xs ≡ xs
path_split [] i h = absurd (omega (arith, h))
path_split (x ∷ xs) zero h =
    let one : 0 + 1 ≡ suc zero = omega (arith) in ap (λ (k : ℕ). x ∷ drop k (x ∷ xs)) one
path_split (x ∷ xs) (suc i) h =
    let k : suc i + 1 ≡ suc (i + 1) = omega (arith) in
    ap (λ (k : ℕ). x ∷ take i xs ++ get_or xs i 0 ∷ drop k (x ∷ xs)) k
    ∙ ap (λ (y : List ℕ). x ∷ y) (path_split xs i (omega (arith, h)))

set_last : (ls : List Level) (l m : Level) (i : ℕ) → i ≡ length ls
    → set (ls ++ l ∷ []) i m ≡ ls ++ m ∷ []
set_last [] l m zero e = refl
set_last [] l m (suc i) e = absurd (omega (arith, e))
set_last (k ∷ ls) l m zero e = absurd (omega (arith, e))
set_last (k ∷ ls) l m (suc i) e =
    ap (λ (x : List Level). k ∷ x) (set_last ls l m i (omega (arith, e)))

-- the end, with a path's cost
abbrev pub at_end : ℕ → Carried
at_end cost = record { target = record { 0 = 0 }; cost = cost; count = 1 }

pub branch_code : (ns : List (List Edge)) (levels levels2 : List Level) (edges edges2 : List Edge)
    (l : Level) (c : Carried) (path : List ℕ) (cost kept : ℕ) → IsOpenBuilder ns levels edges c
    → kept + 1 ≡ length levels → l ≡ get_or levels kept l → Branches levels path kept
    → AllBytes path → length path ≤ 324 → cost ≤ 2147483647
    → length (open_paths ns levels edges c) < 4194304 → edges2 ≡ edges ++ last_edge l c ∷ []
    → levels2
    ≡ set levels kept (branched_level l c (get_or path kept 0))
    ++ map fresh_level (drop (kept + 1) path)
    → IsOpenBuilder ns levels2 edges2 (at_end cost)
    × (open_paths ns levels2 edges2 (at_end cost)
    ≡ open_paths ns levels edges c ++ (path, cost) ∷ [])
branch_code ns levels levels2 edges edges2 l c path cost kept s h e b bytes long cheap few ed le =
    let start = length edges - l.held in
    let p = splitting ns levels edges l c kept start s h e refl in
    let front = take kept levels in
    let xs = take start edges in
    let ys = drop start edges in
    let fs = frames_of front xs in
    let f = frame_of l ys in
    let x = get_or path kept 0 in
    let rest = drop (kept + 1) path in
    let m = branched_level l c x in
    let g = branched_frame f c.target.0 c.cost c.count x in
    let within = b.within in
    let above = b.above l e in
    let rl : length rest ≡ length path - (kept + 1) = length-drop (kept + 1) path in
    let fl : length front ≡ kept = length-take-le kept levels (omega (arith, h)) in
    let ffl : length fs ≡ kept = length-frames front xs ∙ fl in
    let opened : IsOpen ns (fs ++ f ∷ []) c.target.0 c.cost c.count =
    subst (λ (fs : List Frame). IsOpen ns fs c.target.0 c.cost c.count) p.frames s.opened in
    let step =
    branch_step ns fs f c.target.0 c.cost c.count x cost rest opened above
    (all_bytes_at path kept bytes within) (all_drop (kept + 1) path bytes)
    (omega (arith, ffl, rl, within, long)) cheap in
    let last = last_edge l c in
    let levels_are : levels2 ≡ (front ++ m ∷ []) ++ map fresh_level rest =
    le ∙ ap (λ (v : List Level). v ++ map fresh_level rest)
    (ap (λ (v : List Level). set v kept m) p.levels_are ∙ set_last front l m kept (sym fl)) in
    let edges_are : edges2 ≡ xs ++ (ys ++ last ∷ []) =
    ed ∙ ap (λ (v : List Edge). v ++ last ∷ []) p.edges_are ∙ append_assoc xs ys (last ∷ []) in
    let fh = p.front_held in
    let lh = p.held in
    let yl = length_push ys last in
    let mh : m.held ≡ length (ys ++ last ∷ []) = omega (arith, lh, yl) in
    let held2 : total_held (front ++ m ∷ []) ≡ length (xs ++ (ys ++ last ∷ [])) =
    (let a = total_held_push front m in let d =
    length-append xs (ys ++ last ∷ []) in omega (arith, a, d, fh, mh)) in
    let frames_are : frames_of levels2 edges2 ≡ fs ++ g ∷ new_frames rest =
    ap (λ (v : List Level). frames_of v edges2) levels_are
    ∙ ap (frames_of ((front ++ m ∷ []) ++ map fresh_level rest)) edges_are
    ∙ frames_extend (front ++ m ∷ []) (xs ++ (ys ++ last ∷ [])) rest held2
    ∙ ap (λ (v : List Frame). v ++ new_frames rest)
    (frames_of_push front m xs (ys ++ last ∷ []) fh mh)
    ∙ append_assoc fs (g ∷ []) (new_frames rest) in
    let labels : labels_of fs ++ x ∷ rest ≡ path =
    ap (λ (v : List ℕ). v ++ x ∷ rest) (labels_frames front xs ∙ b.same)
    ∙ path_split path kept within in
    let same : open_paths ns levels2 edges2 (at_end cost)
    ≡ open_paths ns levels edges c ++ (path, cost) ∷ [] =
    ap (λ (v : List Frame). frame_paths ns v 0 cost) frames_are ∙ step.1
    ∙ ap (λ (v : List Frame). frame_paths ns v c.target.0 c.cost
    ++ (labels_of fs ++ x ∷ rest, cost) ∷ []) (sym p.frames)
    ∙ ap (λ (v : List ℕ). open_paths ns levels edges c ++ (v, cost) ∷ []) labels in
    let n : length (open_paths ns levels2 edges2 (at_end cost))
    ≡ length (open_paths ns levels edges c) + 1 =
    ap (λ (t : List Tail). length t) same
    ∙ length_push (open_paths ns levels edges c) (path, cost) in
    let h2 : total_held levels2 ≡ length edges2 =
    ap total_held levels_are ∙ held_append (front ++ m ∷ []) (map fresh_level rest)
    ∙ (let z =
    held_fresh rest in let q =
    ap (λ (v : List Edge). length v) edges_are in omega (arith, z, q, held2)) in
    let l2 : length levels2 ≡ kept + 1 + length rest =
    ap (λ (v : List Level). length v) levels_are
    ∙ length-append (front ++ m ∷ []) (map fresh_level rest)
    ∙ (let z =
    length-map rest fresh_level in let q = length_push front m in omega (arith, z, q, fl)) in
    let e2 : length edges2 ≡ length edges + 1 =
    ap (λ (v : List Edge). length v) ed ∙ length_push edges last in
    let nodes = s.nodes in
    let arcs = s.arcs in (
      record {
        held = h2;
        opened = subst (λ (v : List Frame). IsOpen ns v 0 cost 1) (sym frames_are) step.0;
        many = omega (arith, n, few);
        nodes = omega (arith, n, nodes, l2, h, rl, within, long);
        arcs = omega (arith, n, arcs, l2, e2, h, rl, within, long);
      },
      same,
    )

pub start_code : (ns : List (List Edge)) (levels2 : List Level) (path : List ℕ) (cost : ℕ)
    → ns ≡ [] ∷ [] → AllBytes path → length path ≤ 324 → cost ≤ 2147483647
    → levels2 ≡ map fresh_level path
    → IsOpenBuilder ns levels2 [] (at_end cost)
    × (open_paths ns levels2 [] (at_end cost) ≡ (path, cost) ∷ [])
start_code ns levels2 path cost one bytes long cheap le =
    let step = start_step path cost bytes long cheap in
    let frames_are : frames_of levels2 [] ≡ new_frames path =
    ap (λ (v : List Level). frames_of v []) le ∙ frames_fresh path in
    let same : open_paths ns levels2 [] (at_end cost) ≡ (path, cost) ∷ [] =
    ap (λ (v : List Frame). frame_paths ns v 0 cost) frames_are
    ∙ ap (λ (m : List (List Edge)). frame_paths m (new_frames path) 0 cost) one ∙ step.1 in
    let n = ap (λ (t : List Tail). length t) same in
    let l2 : length levels2 ≡ length path =
    ap (λ (v : List Level). length v) le ∙ length-map path fresh_level in
    let nl = ap (λ (m : List (List Edge)). length m) one in
    let te : total_edges ns ≡ 0 = ap total_edges one in (
      record {
        held = ap total_held le ∙ held_fresh path;
        opened = subst (λ (v : List Frame). IsOpen ns v 0 cost 1) (sym frames_are)
            (subst (λ (m : List (List Edge)). IsOpen m (new_frames path) 0 cost 1) (sym one)
            step.0);
        many = omega (arith, n);
        nodes = omega (arith, n, nl, l2, long);
        arcs = omega (arith, n, te, l2, long);
      },
      same,
    )

pub paths_some : (ns : List (List Edge)) (levels : List Level) (edges : List Edge) (c : Carried)
    → 0 < length levels → added_paths ns levels edges c ≡ open_paths ns levels edges c
paths_some ns [] edges c h = absurd (omega (arith, h))
paths_some ns (l ∷ ls) edges c h = refl

pub paths_none : (ns : List (List Edge)) (levels : List Level) (edges : List Edge) (c : Carried)
    → length levels ≡ 0 → added_paths ns levels edges c ≡ []
paths_none ns [] edges c h = refl
paths_none ns (l ∷ ls) edges c h = absurd (omega (arith, h))

pub no_levels : (levels : List Level) → length levels ≡ 0 → levels ≡ []
no_levels [] h = refl
no_levels (l ∷ ls) h = absurd (omega (arith, h))

pub builder_of : (ns : List (List Edge)) (levels : List Level) (edges : List Edge) (c : Carried)
    → 0 < length levels → IsOpenBuilder ns levels edges c → IsBuilder ns levels edges c
builder_of ns levels edges c h s = record {
  none_yet = λ z. absurd (omega (arith, z, h));
  none_edges = λ z. absurd (omega (arith, z, h));
  carries = λ k. s;
}

pub all_bytes_of : (xs : List ℕ) → ((i : ℕ) → Fits w8 (get_or xs i 0)) → AllBytes xs
all_bytes_of [] fits = tt
all_bytes_of (x ∷ xs) fits =
    (let h : Fits w8 x = fits 0 in omega (arith, h), all_bytes_of xs (λ i. fits (suc i)))

-- a step of a builder
pub record Grown (ns : List (List Edge)) (levels : List Level) (edges : List Edge) (c : Carried)
    (paths : List Tail) : Type 0 where
  pub builder : IsBuilder ns levels edges c
  pub paths_are : added_paths ns levels edges c ≡ paths

pub started : (ns : List (List Edge)) (levels levels2 : List Level) (edges : List Edge)
    (c : Carried) (path : List ℕ) (cost : ℕ) → IsBuilder ns levels edges c → length levels ≡ 0
    → 0 < length path → AllBytes path → length path ≤ 324 → cost ≤ 2147483647
    → levels2 ≡ levels ++ map fresh_level (drop 0 path)
    → Grown ns levels2 edges (at_end cost) (added_paths ns levels edges c ++ (path, cost) ∷ [])
started ns levels levels2 edges c path cost b none some bytes long cheap le =
    let e = b.none_edges none in
    let l : levels2 ≡ map fresh_level path =
    le ∙ ap (λ (v : List Level). v ++ map fresh_level path) (no_levels levels none) in
    let step = start_code ns levels2 path cost (b.none_yet none) bytes long cheap l in
    let pos : 0 < length levels2 =
    (let n = ap (λ (v : List Level). length v) l in let m =
    length-map path fresh_level in omega (arith, n, m, some)) in
    record {
      builder =
          builder_of ns levels2 edges (at_end cost) pos
          (subst (λ (es : List Edge). IsOpenBuilder ns levels2 es (at_end cost)) (sym e) step.0);
      paths_are =
          paths_some ns levels2 edges (at_end cost) pos
          ∙ ap (λ (es : List Edge). open_paths ns levels2 es (at_end cost)) e ∙ step.1
          ∙ ap (λ (v : List Tail). v ++ (path, cost) ∷ [])
          (sym (paths_none ns levels edges c none));
    }

-- what is known once the levels below the branch are frozen
pub record Ready (old : List Tail) (ns : List (List Edge)) (levels : List Level) (edges : List Edge)
    (c : Carried) (path : List ℕ) (kept : ℕ) (l : Level) : Type 0 where
  pub carries : IsOpenBuilder ns levels edges c
  pub paths_are : open_paths ns levels edges c ≡ old
  pub top : kept + 1 ≡ length levels
  pub branches : Branches levels path kept
  pub count : l.count + c.count ≤ 4194304
  pub held : l.held ≤ length edges

pub ready : (ns more : List (List Edge)) (levels levels2 : List Level) (edges edges2 : List Edge)
    (c c2 : Carried) (path : List ℕ) (kept : ℕ) (l : Level) → IsBuilder ns levels edges c
    → MayFollow (added_paths ns levels edges c) path → kept ≡ shared_length levels path
    → kept < length levels → levels2 ≡ take (kept + 1) levels → IsOpenBuilder more levels2 edges2 c2
    → open_paths more levels2 edges2 c2 ≡ open_paths ns levels edges c → l ≡ get_or levels2 kept l
    → Ready (added_paths ns levels edges c) more levels2 edges2 c2 path kept l
ready ns more levels levels2 edges edges2 c c2 path kept l b may k h le s same at =
    let pos : 0 < length levels = omega (arith, h) in
    let some = paths_some ns levels edges c pos in
    let old = b.carries pos in
    let br = branches ns levels edges c path kept old
    (subst (λ (v : List Tail). MayFollow v path) some may) k h in
    let top : kept + 1 ≡ length levels2 =
    (let a = ap (λ (v : List Level). length v) le in let d =
    length-take-le (kept + 1) levels (omega (arith, h)) in omega (arith, a, d)) in
    let front : take kept levels2 ≡ take kept levels =
    ap (take kept) le ∙ take-take kept (kept + 1) levels (omega arith) in
    let one : (m : Level) → get_or levels2 kept m ≡ get_or levels kept m =
    λ m. ap (λ (v : List Level). get_or v kept m) le
    ∙ get_or-take (kept + 1) levels kept m (omega arith) in
    let p = splitting more levels2 edges2 l c2 kept (length edges2 - l.held) s top at refl in
    let few = p.few in
    let many = s.many in
    record {
      carries = s;
      paths_are = same ∙ sym some;
      top = top;
      branches =
          record {
            within =
                br.within;
            above =
                λ m e. br.above m (e ∙ one m);
            same = ap (map (λ (l : Level). l.label)) front ∙ br.same;
          };
      count = omega (arith, few, many);
      held = held_last more levels2 edges2 l c2 kept s top at;
    }

pub gone_on : (old : List Tail) (ns : List (List Edge)) (levels levels2 : List Level)
    (edges edges2 : List Edge) (l : Level) (c : Carried) (path : List ℕ) (cost kept : ℕ)
    → Ready old ns levels edges c path kept l → l ≡ get_or levels kept l → AllBytes path
    → length path ≤ 324 → cost ≤ 2147483647 → length old < 4194304
    → edges2 ≡ edges ++ last_edge l c ∷ []
    → levels2
    ≡ set levels kept (branched_level l c (get_or path kept 0))
    ++ map fresh_level (drop (kept + 1) path)
    → Grown ns levels2 edges2 (at_end cost) (old ++ (path, cost) ∷ [])
gone_on old ns levels levels2 edges edges2 l c path cost kept r at bytes long cheap few ed le =
    let n = ap (λ (t : List Tail). length t) r.paths_are in
    let step =
    branch_code ns levels levels2 edges edges2 l c path cost kept r.carries r.top at r.branches
    bytes long cheap (omega (arith, n, few)) ed le in
    let pos : 0 < length levels2 =
    (let a = ap (λ (v : List Level). length v) le in let d =
    length-append (set levels kept (branched_level l c (get_or path kept 0)))
    (map fresh_level (drop (kept + 1) path)) in let q =
    length-set levels kept (branched_level l c (get_or path kept 0)) in let t =
    r.top in omega (arith, a, d, q, t)) in
    record {
      builder = builder_of ns levels2 edges2 (at_end cost) pos step.0;
      paths_are =
          paths_some ns levels2 edges2 (at_end cost) pos ∙ step.1
          ∙ ap (λ (v : List Tail). v ++ (path, cost) ∷ []) r.paths_are;
    }
