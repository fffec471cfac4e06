-- The pieces that are put are the encoding.
use Rattle.std.proofs.Common.{◌≡◌, ◌<◌, ◌≤◌, ◌+◌, ◌-◌, ℕ, List, [], ◌∷◌, ◌++◌, length, get_or, refl}
use Rattle.std.proofs.Common.{sym, ap, subst, ◌∙◌, arith, append_assoc, take}
use Rattle.std.specs.Int.{w32, to_be_bytes}
use Rattle.std.specs.List.{flat_map}
use Rattle.std.proofs.lemmas.List.{append-nil, length_push, length-take-le, take_all}
use Rattle.std.proofs.lemmas.List.Sums.{sum_by-cons}
use Rattle.std.proofs.lemmas.Grind.{flat_map-append}
use Rattle.sg_base.specs.declared.node.Edge.{Edge}
use Rattle.fst_code.specs.Tails.{Tail, tails}
use Rattle.fst_code.specs.Bytes.{first_form, arc_bytes, entry_bytes, encoding, head_bytes, nodes_of}
use Rattle.fst_code.specs.Rules.{IsValid}
use Rattle.fst_code.specs.ValidNodes.{AreValid}
use Rattle.fst_code.specs.Lists.{root_paths, list_of, IsCanonical, IsOnlyText}
use Rattle.fst_code.proofs.OneTextLemmas.{only_text}
use Rattle.fst_code.proofs.CanonicalLemmas.{valid_canonical}
use Rattle.fst_code.proofs.EncodingLemmas.{encoded_valid, sizes}
use Rattle.fst_build.specs.declared.level.Level.{Level}
use Rattle.fst_build.specs.declared.carried.Carried.{Carried}
use Rattle.fst_build.specs.Building.{Frame, IsOpen, frame_paths}
use Rattle.fst_build.specs.Levels.{total_edges, total_held, frames_of, open_paths, IsOpenBuilder}
use Rattle.fst_build.specs.Levels.{last_edge}
use Rattle.fst_build.proofs.LevelLemmas.{frame_of, total_edges_push}
use Rattle.fst_build.proofs.CountLemmas.{count_le}
use Rattle.fst_build.proofs.RootLemmas.{root_step}

pub sizes_total : (ns : List (List Edge)) → sizes ns ≡ total_edges ns
sizes_total [] = refl
sizes_total (n ∷ ns) =
    let s : sizes (n ∷ ns) ≡ length n + sizes ns =
    sum_by-cons (λ (n : List Edge). length n) n ns in let ih =
    sizes_total ns in omega (arith, s, ih)

entry_push : (from : ℕ) (ns : List (List Edge)) (x : List Edge)
    → entry_bytes from (ns ++ x ∷ [])
    ≡ entry_bytes from ns ++ to_be_bytes w32 (from + total_edges ns + length x)
entry_push from [] x =
    let z : from + length x ≡ from + 0 + length x = omega (arith) in ap (to_be_bytes w32) z
entry_push from (n ∷ ns) x =
    let z : from + length n + total_edges ns + length x
    ≡ from + (length n + total_edges ns) + length x = omega (arith) in
    ap (λ (r : List ℕ). to_be_bytes w32 (from + length n) ++ r) (entry_push (from + length n) ns x)
    ∙ sym (append_assoc (to_be_bytes w32 (from + length n)) (entry_bytes (from + length n) ns)
    (to_be_bytes w32 (from + length n + total_edges ns + length x)))
    ∙ ap (λ (k : ℕ). (to_be_bytes w32 (from + length n) ++ entry_bytes (from + length n) ns)
    ++ to_be_bytes w32 k) z

pub written_is : (ns : List (List Edge)) (root : List Edge) (nodes arcs paths : ℕ)
    (b1 b2 b3 b4 b5 : List ℕ) → nodes ≡ length ns + 1 → arcs ≡ total_edges ns + length root
    → b1 ≡ head_bytes nodes arcs paths → b2 ≡ b1 ++ entry_bytes 0 ns
    → b3 ≡ b2 ++ to_be_bytes w32 arcs → b4 ≡ b3 ++ flat_map (flat_map (arc_bytes first_form)) ns
    → b5 ≡ b4 ++ flat_map (arc_bytes first_form) root
    → b5 ≡ encoding first_form paths (ns ++ root ∷ [])
written_is ns root nodes arcs paths b1 b2 b3 b4 b5 n a e1 e2 e3 e4 e5 =
    let all = ns ++ root ∷ [] in
    let head = head_bytes nodes arcs paths in
    let E = entry_bytes 0 ns in
    let T = to_be_bytes w32 arcs in
    let F = flat_map (flat_map (arc_bytes first_form)) ns in
    let R = flat_map (arc_bytes first_form) root in
    let s : arcs ≡ sizes all = a ∙ sym (total_edges_push ns root) ∙ sym (sizes_total all) in
    let l : nodes ≡ length all = n ∙ sym (length_push ns root) in
    let z : 0 + total_edges ns + length root ≡ arcs = omega (arith, a) in
    let entries : E ++ T ≡ entry_bytes 0 all =
    sym (entry_push 0 ns root ∙ ap (λ (k : ℕ). E ++ to_be_bytes w32 k) z) in
    let flats : F ++ R ≡ flat_map (flat_map (arc_bytes first_form)) all =
    ap (λ (x : List ℕ). F ++ x) (sym (append-nil R))
    ∙ sym (flat_map-append (flat_map (arc_bytes first_form)) ns (root ∷ [])) in
    let whole : b5 ≡ (((head ++ E) ++ T) ++ F) ++ R =
    e5 ∙ ap (λ (x : List ℕ). x ++ R)
    (e4 ∙ ap (λ (x : List ℕ). x ++ F)
    (e3 ∙ ap (λ (x : List ℕ). x ++ T) (e2 ∙ ap (λ (x : List ℕ). x ++ E) e1))) in
    let moved : (((head ++ E) ++ T) ++ F) ++ R ≡ (head ++ (E ++ T)) ++ (F ++ R) =
    append_assoc ((head ++ E) ++ T) F R
    ∙ ap (λ (x : List ℕ). x ++ (F ++ R)) (append_assoc head E T) in
    let named : (head ++ (E ++ T)) ++ (F ++ R)
    ≡ (head_bytes (length all) (sizes all) paths ++ entry_bytes 0 all)
    ++ flat_map (flat_map (arc_bytes first_form)) all =
    ap (λ (x : List ℕ). (head ++ x) ++ (F ++ R)) entries
    ∙ ap (λ (x : List ℕ). (head ++ entry_bytes 0 all) ++ x) flats
    ∙ ap (λ (k : ℕ). (head_bytes k arcs paths ++ entry_bytes 0 all)
    ++ flat_map (flat_map (arc_bytes first_form)) all) l
    ∙ ap (λ (k : ℕ). (head_bytes (length all) k paths ++ entry_bytes 0 all)
    ++ flat_map (flat_map (arc_bytes first_form)) all) s in
    whole ∙ moved ∙ named

-- the last level alone
pub record Closed (ns : List (List Edge)) (edges : List Edge) (l : Level) (c : Carried)
    (list : List Tail) : Type 0 where
  pub valid : AreValid (l.count + c.count) (ns ++ (edges ++ last_edge l c ∷ []) ∷ [])
  pub maps : root_paths (ns ++ (edges ++ last_edge l c ∷ []) ∷ []) ≡ list
  pub count : l.count + c.count ≤ 4194304
  pub nodes : length ns < 4294967295
  pub arcs : total_edges ns + (length edges + 1) < 4294967296

root_is : (ns : List (List Edge)) (x : List Edge)
    → root_paths (ns ++ x ∷ []) ≡ tails (ns ++ x ∷ []) (length ns)
root_is ns x =
    let l = length_push ns x in
    let t : length (ns ++ x ∷ []) - 1 ≡ length ns = omega (arith, l) in
    ap (tails (ns ++ x ∷ [])) t

alone : (levels : List Level) (l : Level) → length levels ≡ 1 → l ≡ get_or levels 0 l
    → levels ≡ l ∷ []
alone [] l h e = absurd (omega (arith, h))
alone (k ∷ []) l h e = ap (λ (x : Level). x ∷ []) (sym e)
alone (k ∷ m ∷ ls) l h e = absurd (omega (arith, h))

-- what is left of levels that are frozen down to one
pub last_alone : (old new : List Level) → 0 < length old → new ≡ take 1 old → length new ≡ 1
last_alone old new some front =
    let n = ap (λ (v : List Level). length v) front in
    let l = length-take-le 1 old some in
    omega (arith, n, l)

pub closed_code : (ns : List (List Edge)) (levels : List Level) (edges : List Edge) (l : Level)
    (c : Carried) → IsOpenBuilder ns levels edges c → length levels ≡ 1 → l ≡ get_or levels 0 l
    → Closed ns edges l c (open_paths ns levels edges c)
closed_code ns levels edges l c s h e =
    let one : levels ≡ l ∷ [] = alone levels l h e in
    let held : l.held ≡ length edges =
    (let a = ap total_held one in let k = s.held in omega (arith, a, k)) in
    let f = frame_of l edges in
    let frames : frames_of levels edges ≡ f ∷ [] =
    ap (λ (v : List Level). frames_of v edges) one
    ∙ ap (λ (es : List Edge). frame_of l es ∷ []) (take_all l.held edges (omega (arith, held)))
    in
    let opened : IsOpen ns (f ∷ []) c.target.0 c.cost c.count =
    subst (λ (fs : List Frame). IsOpen ns fs c.target.0 c.cost c.count) frames s.opened in
    let same : open_paths ns levels edges c ≡ frame_paths ns (f ∷ []) c.target.0 c.cost =
    ap (λ (fs : List Frame). frame_paths ns fs c.target.0 c.cost) frames in
    let many = s.many in
    let n = ap (λ (t : List Tail). length t) same in
    let le = count_le ns [] f c.target.0 c.cost opened.frames in
    let k = opened.carried.count_is in
    let few : l.count + c.count ≤ 4194304 = omega (arith, le, k, n, many) in
    let step = root_step ns f c.target.0 c.cost c.count opened few in
    let nodes = s.nodes in
    let arcs = s.arcs in
    record {
      valid = step.0;
      maps = root_is ns (edges ++ last_edge l c ∷ []) ∙ step.1 ∙ sym same;
      count = few;
      nodes = omega (arith, nodes, many);
      arcs = omega (arith, arcs, many);
    }

-- its bytes
pub record IsText (paths : ℕ) (bytes : List ℕ) (list : List Tail) (nodes : List (List Edge)) : Type
    0 where
  pub valid : IsValid bytes
  pub nodes_are : nodes_of bytes ≡ nodes
  pub maps : list_of bytes ≡ list
  pub canonical : IsCanonical (nodes_of bytes)
  pub only : IsOnlyText list bytes

pub text_of : (ns : List (List Edge)) (edges root : List Edge) (l : Level) (c : Carried)
    (list : List Tail) (paths : ℕ) (bytes : List ℕ) → Closed ns edges l c list
    → paths ≡ l.count + c.count → root ≡ edges ++ last_edge l c ∷ []
    → bytes ≡ encoding first_form paths (ns ++ root ∷ [])
    → IsText paths bytes list (ns ++ root ∷ [])
text_of ns edges root l c list paths bytes k p r b =
    let all = ns ++ root ∷ [] in
    let valid : AreValid paths all =
    subst (λ (x : List Edge). AreValid paths (ns ++ x ∷ [])) (sym r)
    (subst (λ (m : ℕ). AreValid m (ns ++ (edges ++ last_edge l c ∷ []) ∷ [])) (sym p) k.valid)
    in
    let lists : root_paths all ≡ list =
    ap (λ (x : List Edge). root_paths (ns ++ x ∷ [])) r ∙ k.maps in
    let len = length_push ns root in
    let rl : length root ≡ length edges + 1 =
    ap (λ (x : List Edge). length x) r ∙ length_push edges (last_edge l c) in
    let t = sizes_total all in
    let tp = total_edges_push ns root in
    let nodes = k.nodes in
    let arcs = k.arcs in
    let v = encoded_valid paths all valid (omega (arith, len, nodes))
    (omega (arith, t, tp, rl, arcs)) in
    let read : nodes_of bytes ≡ all = ap (nodes_of) b ∙ v.1 in
    record {
      valid = subst IsValid (sym b) v.0;
      nodes_are = read;
      maps = ap root_paths read ∙ lists;
      canonical = subst IsCanonical (sym read) (valid_canonical paths all valid);
      only = λ x fits ok same. only_text paths all x valid fits ok (same ∙ sym lists) ∙ sym b;
    }
