-- The levels as frames, and the deepest one frozen.
use Rattle.std.proofs.Common.{◌≡◌, ◌≤◌, ◌+◌, ◌-◌, ℕ, zero, suc, false, List, [], ◌∷◌, ◌++◌, take}
use Rattle.std.proofs.Common.{drop, length, get_or, refl, sym, ap, subst, ◌∙◌, arith, length-append}
use Rattle.std.proofs.Common.{◌⊎◌, inl, inr}
use Rattle.std.proofs.lemmas.List.{length_push, take-append-drop, length-drop, length-map}
use Rattle.std.proofs.lemmas.List.{drop-append-le, take-append-le, take_all}
use Rattle.sg_base.specs.declared.node.Edge.{Edge}
use Rattle.sg_base.specs.Nodes.{holds_same}
use Rattle.fst_code.specs.Tails.{Tail}
use Rattle.fst_build.specs.declared.level.Level.{Level}
use Rattle.fst_build.specs.declared.carried.Carried.{Carried}
use Rattle.fst_build.specs.Building.{Frame, IsOpen, IsHeld, frame_paths, finished_edges}
use Rattle.fst_build.specs.Building.{lowered_node, least_of, lowered_arc}
use Rattle.fst_build.specs.Levels.{total_held, frames_of, total_edges, open_paths, IsOpenBuilder}
use Rattle.fst_build.proofs.FreezeLemmas.{freeze_step}
use Rattle.fst_build.proofs.CountLemmas.{count_le}

abbrev pub frame_of : Level → List Edge → Frame
frame_of l es = record { label = l.label; count = l.count; edges = es }

pub total_held_push : (ls : List Level) (l : Level)
    → total_held (ls ++ l ∷ []) ≡ total_held ls + l.held
total_held_push [] l = omega (arith)
total_held_push (k ∷ ls) l = let ih = total_held_push ls l in omega (arith, ih)

frames_alone : (l : Level) (ys : List Edge) → l.held ≡ length ys
    → frames_of (l ∷ []) ys ≡ frame_of l ys ∷ []
frames_alone l ys h =
    ap (λ (es : List Edge). frame_of l es ∷ []) (take_all l.held ys (omega (arith, h)))

pub empty_is : (xs : List Edge) → 0 ≡ length xs → xs ≡ []
empty_is [] h = refl
empty_is (x ∷ xs) h = absurd (omega (arith, h))

pub frames_of_push : (ls : List Level) (l : Level) (xs ys : List Edge) → total_held ls ≡ length xs
    → l.held ≡ length ys
    → frames_of (ls ++ l ∷ []) (xs ++ ys) ≡ frames_of ls xs ++ frame_of l ys ∷ []
frames_of_push [] l xs ys h k =
    ap (λ (es : List Edge). frames_of (l ∷ []) (es ++ ys)) (empty_is xs h) ∙ frames_alone l ys k
frames_of_push (m ∷ ls) l xs ys h k =
    let low : m.held ≤ length xs = omega (arith, h) in
    let t : take m.held (xs ++ ys) ≡ take m.held xs = take-append-le m.held xs ys low in
    let d : drop m.held (xs ++ ys) ≡ drop m.held xs ++ ys = drop-append-le m.held xs ys low in
    let len = length-drop m.held xs in
    let ih = frames_of_push ls l (drop m.held xs) ys (omega (arith, h, len)) k in
    ap (λ (es : List Edge). frame_of m es ∷ frames_of (ls ++ l ∷ []) (drop m.held (xs ++ ys))) t
    ∙ ap (λ (es : List Edge). frame_of m (take m.held xs) ∷ frames_of (ls ++ l ∷ []) es) d
    ∙ ap (λ (fs : List Frame). frame_of m (take m.held xs) ∷ fs) ih

pub last_split : (ls : List Level) (l : Level) (top : ℕ) → top + 1 ≡ length ls → l ≡ get_or ls top l
    → ls ≡ take top ls ++ l ∷ []
last_split [] l top h e = absurd (omega (arith, h))
last_split (k ∷ []) l zero h e = ap (λ (x : Level). x ∷ []) (sym e)
last_split (k ∷ []) l (suc top) h e = absurd (omega (arith, h))
last_split (k ∷ m ∷ ls) l zero h e = absurd (omega (arith, h))
last_split (k ∷ m ∷ ls) l (suc top) h e =
    ap (λ (x : List Level). k ∷ x) (last_split (m ∷ ls) l top (omega (arith, h)) e)

-- the deepest level and its edges
pub record Split (ns : List (List Edge)) (levels front : List Level)
    (edges start finished : List Edge) (l : Level) (c : Carried) : Type 0 where
  pub levels_are : levels ≡ front ++ l ∷ []
  pub edges_are : edges ≡ start ++ finished
  pub front_held : total_held front ≡ length start
  pub held : l.held ≡ length finished
  pub frames : frames_of levels edges ≡ frames_of front start ++ frame_of l finished ∷ []
  pub few : l.count + c.count ≤ length (open_paths ns levels edges c)

held_le : (ls : List Level) (l : Level) → l.held ≤ total_held (ls ++ l ∷ [])
held_le ls l = let h = total_held_push ls l in omega (arith, h)

pub held_last : (ns : List (List Edge)) (levels : List Level) (edges : List Edge) (l : Level)
    (c : Carried) (top : ℕ) → IsOpenBuilder ns levels edges c → top + 1 ≡ length levels
    → l ≡ get_or levels top l → l.held ≤ length edges
held_last ns levels edges l c top s h e =
    let split : levels ≡ take top levels ++ l ∷ [] = last_split levels l top h e in
    let t : total_held levels ≡ total_held (take top levels ++ l ∷ []) = ap total_held split in
    let k = held_le (take top levels) l in
    let held = s.held in
    omega (arith, t, k, held)

length-take_of : (n : ℕ) (xs : List Edge) → n ≤ length xs → length (take n xs) ≡ n
length-take_of n xs h =
    let a = ap (λ (y : List Edge). length y) (take-append-drop n xs) in
    let b = length-append (take n xs) (drop n xs) in
    let c = length-drop n xs in
    omega (arith, a, b, c, h)

pub splitting : (ns : List (List Edge)) (levels : List Level) (edges : List Edge) (l : Level)
    (c : Carried) (top start : ℕ) → IsOpenBuilder ns levels edges c → top + 1 ≡ length levels
    → l ≡ get_or levels top l → start ≡ length edges - l.held
    → Split ns levels (take top levels) edges (take start edges) (drop start edges) l c
splitting ns levels edges l c top start s h e at =
    let front = take top levels in
    let low : l.held ≤ length edges = held_last ns levels edges l c top s h e in
    let split : levels ≡ front ++ l ∷ [] = last_split levels l top h e in
    let t : total_held levels ≡ total_held front + l.held =
    ap total_held split ∙ total_held_push front l in
    let whole : take start edges ++ drop start edges ≡ edges = take-append-drop start edges in
    let a : length (take start edges) ≡ start = length-take_of start edges (omega (arith, at)) in
    let b : length (drop start edges) ≡ length edges - start = length-drop start edges in
    let held = s.held in
    let fh : total_held front ≡ length (take start edges) = omega (arith, t, a, at, held, low) in
    let lh : l.held ≡ length (drop start edges) = omega (arith, b, at, low) in
    let frames : frames_of levels edges
    ≡ frames_of front (take start edges) ++ frame_of l (drop start edges) ∷ [] =
    ap (λ (x : List Level). frames_of x edges) split ∙ ap (frames_of (front ++ l ∷ [])) (sym whole)
    ∙ frames_of_push front l (take start edges) (drop start edges) fh lh in
    let opened : IsOpen ns
    (frames_of front (take start edges) ++ frame_of l (drop start edges) ∷ []) c.target.0 c.cost
    c.count =
    subst (λ (fs : List Frame). IsOpen ns fs c.target.0 c.cost c.count) frames s.opened in
    let le = count_le ns (frames_of front (take start edges)) (frame_of l (drop start edges))
    c.target.0 c.cost opened.frames in
    let n = opened.carried.count_is in
    record {
      levels_are = split;
      edges_are = sym whole;
      front_held = fh;
      held = lh;
      frames = frames;
      few = subst
          (λ (fs : List Frame). l.count + c.count ≤ length (frame_paths ns fs c.target.0 c.cost))
          (sym frames) (omega (arith, le, n));
    }

pub total_edges_push : (ns : List (List Edge)) (x : List Edge)
    → total_edges (ns ++ x ∷ []) ≡ total_edges ns + length x
total_edges_push [] x = omega (arith)
total_edges_push (n ∷ ns) x = let ih = total_edges_push ns x in omega (arith, ih)

nodes_by : (ns more : List (List Edge)) (id : ℕ) (x : List Edge)
    → (more ≡ ns) ⊎ ((more ≡ ns ++ x ∷ []) × (id ≡ length ns) × (holds_same x ns ≡ false))
    → length more ≤ length ns + 1
nodes_by ns more id x (inl e) =
    let l = ap (λ (m : List (List Edge)). length m) e in omega (arith, l)
nodes_by ns more id x (inr e) =
    let l = ap (λ (m : List (List Edge)). length m) e.0 in let p =
    length_push ns x in omega (arith, l, p)

arcs_by : (ns more : List (List Edge)) (id : ℕ) (x : List Edge)
    → (more ≡ ns) ⊎ ((more ≡ ns ++ x ∷ []) × (id ≡ length ns) × (holds_same x ns ≡ false))
    → total_edges more ≤ total_edges ns + length x
arcs_by ns more id x (inl e) = let l = ap total_edges e in omega (arith, l)
arcs_by ns more id x (inr e) =
    let l = ap total_edges e.0 in let p = total_edges_push ns x in omega (arith, l, p)

pub freeze_levels : (ns more : List (List Edge)) (levels : List Level) (edges : List Edge)
    (l : Level) (c next : Carried) (top start : ℕ) → IsOpenBuilder ns levels edges c
    → top + 1 ≡ length levels → l ≡ get_or levels top l → start ≡ length edges - l.held
    → next.cost ≡ least_of (finished_edges (frame_of l (drop start edges)) c.target.0 c.cost)
    → next.count ≡ l.count + c.count
    → IsHeld ns more next.target.0
    (lowered_node (finished_edges (frame_of l (drop start edges)) c.target.0 c.cost))
    → IsOpenBuilder more (take top levels) (take start edges) next
    × (open_paths more (take top levels) (take start edges) next ≡ open_paths ns levels edges c)
freeze_levels ns more levels edges l c next top start s h e at cost count held =
    let p = splitting ns levels edges l c top start s h e at in
    let front = take top levels in
    let fs = frames_of front (take start edges) in
    let f = frame_of l (drop start edges) in
    let es = finished_edges f c.target.0 c.cost in
    let opened : IsOpen ns (fs ++ f ∷ []) c.target.0 c.cost c.count =
    subst (λ (fs : List Frame). IsOpen ns fs c.target.0 c.cost c.count) p.frames s.opened in
    let many = s.many in
    let few = p.few in
    let step =
    freeze_step ns more fs f c.target.0 c.cost c.count next.target.0 opened
    (omega (arith, many, few)) held in
    let same : open_paths more front (take start edges) next ≡ open_paths ns levels edges c =
    ap (frame_paths more fs next.target.0) cost ∙ step.1
    ∙ ap (λ (fs : List Frame). frame_paths ns fs c.target.0 c.cost) (sym p.frames) in
    let n = ap (λ (t : List Tail). length t) same in
    let nn = nodes_by ns more next.target.0 (lowered_node es) held.either in
    let aa = arcs_by ns more next.target.0 (lowered_node es) held.either in
    let xl : length (lowered_node es) ≡ length (drop start edges) + 1 =
    length-map es (lowered_arc (least_of es))
    ∙ length_push (drop start edges)
    (record {
      label =
          l.label;
      cost = c.cost;
      before = l.count;
      target = record { 0 = c.target.0 };
    }) in
    let el = ap (λ (x : List Edge). length x) p.edges_are in
    let ea = length-append (take start edges) (drop start edges) in
    let ll = ap (λ (x : List Level). length x) p.levels_are in
    let lp = length_push front l in
    let nodes = s.nodes in
    let arcs = s.arcs in (
      record {
        held = p.front_held;
        opened = subst (λ (k : ℕ). IsOpen more fs next.target.0 k next.count) (sym cost)
            (subst (IsOpen more fs next.target.0 (least_of es)) (sym count) step.0);
        many = omega (arith, n, many);
        nodes = omega (arith, n, nn, nodes, ll, lp);
        arcs = omega (arith, n, aa, arcs, xl, el, ea, ll, lp);
      },
      same,
    )

-- the same by what the calls say
pub freeze_code : (ns more : List (List Edge)) (levels levels2 : List Level)
    (edges edges2 finished node : List Edge) (l : Level) (c next : Carried) (top start : ℕ)
    → IsOpenBuilder ns levels edges c → top + 1 ≡ length levels → l ≡ get_or levels top l
    → start ≡ length edges - l.held → finished ≡ drop start edges
    → next.cost
    ≡ least_of
    (finished
    ++ record { label = l.label; cost = c.cost; before = l.count; target = c.target } ∷ [])
    → next.count ≡ l.count + c.count
    → node ≡ lowered_node
    (finished
    ++ record { label = l.label; cost = c.cost; before = l.count; target = c.target } ∷ [])
    → IsHeld ns more next.target.0 node → levels2 ≡ take top levels → edges2 ≡ take start edges
    → IsOpenBuilder more levels2 edges2 next
    × (open_paths more levels2 edges2 next ≡ open_paths ns levels edges c)
freeze_code ns more levels levels2 edges edges2 finished node l c next top start s h e at f cost
    count n held le ed =
    let last : Edge =
    record { label = l.label; cost = c.cost; before = l.count; target = c.target } in
    rw (le, ed) (freeze_levels ns more levels edges l c next top start s h e at
    (cost ∙ ap (λ (x : List Edge). least_of (x ++ last ∷ [])) f) count
    (subst (IsHeld ns more next.target.0)
    (n ∙ ap (λ (x : List Edge). lowered_node (x ++ last ∷ [])) f) held))
