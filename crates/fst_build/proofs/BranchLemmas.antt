-- Going on by another label, and the first path.
use Rattle.std.proofs.Common.{◌≡◌, ◌<◌, ◌≤◌, ◌+◌, ℕ, zero, suc, List, [], ◌∷◌, ◌++◌, map, length}
use Rattle.std.proofs.Common.{get_or, refl, sym, ap, subst, ◌∙◌, append_assoc, arith, length-append}
use Rattle.std.proofs.lemmas.List.{map-append}
use Rattle.sg_base.specs.declared.node.Edge.{Edge}
use Rattle.fst_code.specs.Tails.{Tail, mapped, counted, dearest, longest, table, tails, counts}
use Rattle.fst_code.specs.Rules.{for_targets, from_to, postorder}
use Rattle.fst_code.specs.Rules.{visit}
use Rattle.fst_build.specs.Building.{Frame, ways_of, with_label, with_cost, paths_under, known}
use Rattle.fst_build.specs.Building.{count_at, cost_at, length_at, visited, IsFrame, AreFrames}
use Rattle.fst_build.specs.Building.{AreFrozen, IsCarried, IsOpen, frame_paths, last_edge_of}
use Rattle.fst_build.specs.Building.{finished_edges, new_frames, branched_frame, labels_of}
use Rattle.fst_build.specs.Building.{AllBytes}
use Rattle.fst_code.proofs.TableLemmas.{table_at, mapped_local, counted_local, dearest_local}
use Rattle.fst_code.proofs.TableLemmas.{longest_local}
use Rattle.fst_code.proofs.WalkLemmas.{visit_known, has-from_to}
use Rattle.fst_build.proofs.NodeLemmas.{ways_push, behind_along, rises_push, open_push}
use Rattle.fst_build.proofs.NodeLemmas.{frames_front, frames_last}
use Rattle.fst_build.proofs.FreezeLemmas.{closing, falls_of}

frames_append : (ns : List (List Edge)) (depth : ℕ) (fs gs : List Frame) → AreFrames ns depth fs
    → AreFrames ns (depth + length fs) gs → AreFrames ns depth (fs ++ gs)
frames_append ns depth [] gs all more = subst (λ (d : ℕ). AreFrames ns d gs) (omega arith) more
frames_append ns depth (f ∷ fs) gs all more = (
  all.0,
  frames_append ns (depth + 1) fs gs all.1
      (subst (λ (d : ℕ). AreFrames ns d gs) (omega arith) more),
)

fresh_frames : (ns : List (List Edge)) (depth : ℕ) (xs : List ℕ) → AllBytes xs
    → AreFrames ns depth (new_frames xs)
fresh_frames ns depth [] all = tt
fresh_frames ns depth (x ∷ xs) all = (
  record { rises = tt; label_fits = all.0; before = tt; count_is = refl; edges_are = tt },
  fresh_frames ns (depth + 1) xs all.1,
)

walked_append : (ns : List (List Edge)) (fs gs : List Frame) (done : List ℕ)
    → visited ns (fs ++ gs) done ≡ visited ns gs (visited ns fs done)
walked_append ns [] gs done = refl
walked_append ns (f ∷ fs) gs done = walked_append ns fs gs (for_targets (visit ns) f.edges done)

walked_fresh : (ns : List (List Edge)) (xs : List ℕ) (done : List ℕ)
    → visited ns (new_frames xs) done ≡ done
walked_fresh ns [] done = refl
walked_fresh ns (x ∷ xs) done = walked_fresh ns xs done

length-new_frames : (xs : List ℕ) → length (new_frames xs) ≡ length xs
length-new_frames [] = refl
length-new_frames (x ∷ xs) = ap suc (length-new_frames xs)

open_append : (known : List (List Tail)) (fs gs : List Frame) (inner : List Tail)
    → paths_under known (fs ++ gs) inner ≡ paths_under known fs (paths_under known gs inner)
open_append known [] gs inner = refl
open_append known (f ∷ fs) gs inner =
    ap (λ (r : List Tail). ways_of known f.edges ++ map (with_label f.label) r)
    (open_append known fs gs inner)

open_fresh : (known : List (List Tail)) (xs : List ℕ) (c : ℕ)
    → paths_under known (new_frames xs) (([], c) ∷ []) ≡ (xs, c) ∷ []
open_fresh known [] c = refl
open_fresh known (x ∷ xs) c = ap (map (with_label x)) (open_fresh known xs c)

-- one path more inside is one path more
open_more : (known : List (List Tail)) (fs : List Frame) (inner : List Tail) (t : Tail)
    → paths_under known fs (inner ++ t ∷ [])
    ≡ paths_under known fs inner ++ (labels_of fs ++ t.0, t.1) ∷ []
open_more known [] inner t = refl
open_more known (f ∷ fs) inner t =
    ap (λ (r : List Tail). ways_of known f.edges ++ map (with_label f.label) r)
    (open_more known fs inner t)
    ∙ ap (λ (r : List Tail). ways_of known f.edges ++ r)
    (map-append (with_label f.label) (paths_under known fs inner)
    ((labels_of fs ++ t.0, t.1) ∷ []))
    ∙ sym (append_assoc (ways_of known f.edges)
    (map (with_label f.label) (paths_under known fs inner))
    (with_label f.label (labels_of fs ++ t.0, t.1) ∷ []))

-- the end
end_tails : (ns : List (List Edge)) → AreFrozen ns → tails ns 0 ≡ ([], 0) ∷ []
unfolding tails
end_tails ns a =
    table_at [] mapped mapped_local ns 0 a.some (falls_of ns a) ∙ ap (mapped (known ns)) a.end_is

end_count : (ns : List (List Edge)) → AreFrozen ns → count_at ns 0 ≡ 1
end_count ns a =
    table_at 0 counted counted_local ns 0 a.some (falls_of ns a) ∙ ap (counted (counts ns)) a.end_is

end_cost : (ns : List (List Edge)) → AreFrozen ns → cost_at ns 0 ≡ 0
end_cost ns a =
    table_at 0 dearest dearest_local ns 0 a.some (falls_of ns a)
    ∙ ap (dearest (table dearest [] ns)) a.end_is

end_length : (ns : List (List Edge)) → AreFrozen ns → length_at ns 0 ≡ 0
end_length ns a =
    table_at 0 longest longest_local ns 0 a.some (falls_of ns a)
    ∙ ap (longest (table longest [] ns)) a.end_is

end_inner : (ns : List (List Edge)) (c : ℕ) → AreFrozen ns
    → map (with_cost c) (tails ns 0) ≡ ([], c) ∷ []
end_inner ns c a =
    ap (map (with_cost c)) (end_tails ns a) ∙ ap (λ (k : ℕ). ([], k) ∷ []) (omega arith)

-- the carried node is the end
end_carried : (ns : List (List Edge)) (fs : List Frame) (c : ℕ) → AreFrozen ns → length fs ≤ 324
    → c ≤ 2147483647 → visit ns 0 (visited ns fs []) ≡ from_to (length ns) 0 → IsCarried ns fs 0 c 1
end_carried ns fs c a short cheap walk =
    let x = end_cost ns a in
    let y = end_length ns a in
    record {
      there =
          a.some;
      dear =
          omega (arith, x, cheap);
      long =
          omega (arith, y, short);
      count_is = sym (end_count ns a);
      pos = omega (arith);
      walk = walk;
    }

pub branch_step : (ns : List (List Edge)) (fs : List Frame) (f : Frame) (id cost count l c : ℕ)
    (rest : List ℕ) → IsOpen ns (fs ++ f ∷ []) id cost count → f.label < l → l < 256 → AllBytes rest
    → length fs + (1 + length rest) ≤ 324 → c ≤ 2147483647
    → IsOpen ns (fs ++ branched_frame f id cost count l ∷ new_frames rest) 0 c 1
    × (frame_paths ns (fs ++ branched_frame f id cost count l ∷ new_frames rest) 0 c
    ≡ frame_paths ns (fs ++ f ∷ []) id cost ++ (labels_of fs ++ l ∷ rest, c) ∷ [])
unfolding tails
branch_step ns fs f id cost count l c rest opened above fits bytes short cheap =
    let a = opened.frozen in
    let es = finished_edges f id cost in
    let k = closing ns fs f id cost count opened in
    let fr : IsFrame ns (length fs) f =
    subst (λ (d : ℕ). IsFrame ns d f) (omega arith) (frames_last ns 0 fs f opened.frames) in
    let one : IsFrame ns (0 + length fs) (branched_frame f id cost count l) =
    subst (λ (d : ℕ). IsFrame ns d (branched_frame f id cost count l)) (omega arith)
    (record {
      rises =
          rises_push f.edges (last_edge_of f id cost) l fr.rises above;
      label_fits =
          fits;
      before = k.before;
      count_is = sym k.total;
      edges_are = k.edges_are;
    }) in
    let all : AreFrames ns 0 (fs ++ branched_frame f id cost count l ∷ new_frames rest) =
    frames_append ns 0 fs (branched_frame f id cost count l ∷ new_frames rest)
    (frames_front ns 0 fs f opened.frames) (one, fresh_frames ns (0 + length fs + 1) rest bytes)
    in
    let len : length (fs ++ branched_frame f id cost count l ∷ new_frames rest)
    ≡ length fs + length (branched_frame f id cost count l ∷ new_frames rest) =
    length-append fs (branched_frame f id cost count l ∷ new_frames rest) in
    let lr = length-new_frames rest in
    let walk : visited ns (fs ++ branched_frame f id cost count l ∷ new_frames rest) []
    ≡ from_to (length ns) 0 =
    walked_append ns fs (branched_frame f id cost count l ∷ new_frames rest) []
    ∙ walked_fresh ns rest (for_targets (visit ns) es (visited ns fs [])) ∙ k.walk in (
      record {
        frozen = a;
        frames = all;
        carried =
            end_carried ns (fs ++ branched_frame f id cost count l ∷ new_frames rest) c a
            (omega (arith, len, lr, short)) cheap
            (ap (visit ns 0) walk
            ∙ visit_known ns 0 (from_to (length ns) 0)
            (has-from_to (length ns) 0 0 (omega arith) (let s = a.some in omega (arith, s))));
      },
      open_append (known ns) fs (branched_frame f id cost count l ∷ new_frames rest)
          (map (with_cost c) (tails ns 0))
          ∙ ap (λ (r : List Tail). paths_under (known ns) fs
          (ways_of (known ns) es ++ map (with_label l) r))
          (ap (paths_under (known ns) (new_frames rest)) (end_inner ns c a)
          ∙ open_fresh (known ns) rest c)
          ∙ open_more (known ns) fs (ways_of (known ns) es) (l ∷ rest, c)
          ∙ ap (λ (r : List Tail). r ++ (labels_of fs ++ l ∷ rest, c) ∷ [])
          (ap (paths_under (known ns) fs)
          (ways_push (known ns) f.edges (last_edge_of f id cost)
          ∙ ap (λ (r : List Tail). ways_of (known ns) f.edges ++ r)
          (sym (behind_along (last_edge_of f id cost) (tails ns id))))
          ∙ sym (open_push (known ns) fs f (map (with_cost cost) (tails ns id)))),
    )

end_bound : (id : ℕ) → get_or (0 ∷ []) id 0 ≤ 324
end_bound zero = omega (arith)
end_bound (suc id) = omega (arith)

end_many : (id : ℕ) → get_or (1 ∷ []) id 0 ≤ 4194304
end_many zero = omega (arith)
end_many (suc id) = omega (arith)

pub frozen_end : AreFrozen ([] ∷ [])
frozen_end = record {
  some = omega (arith);
  end_is = refl;
  nodes = λ id p h. absurd (omega (arith, p, h));
  free = λ id p h. absurd (omega (arith, p, h));
  once = λ i j h k. absurd (omega (arith, h, k));
  many = end_many;
  dear = λ id. (let b = end_bound id in omega (arith, b));
  long = end_bound;
}

end_visit : visit ([] ∷ []) 0 [] ≡ from_to 1 0
unfolding postorder
end_visit = refl

pub start_step : (path : List ℕ) (c : ℕ) → AllBytes path → length path ≤ 324 → c ≤ 2147483647
    → IsOpen ([] ∷ []) (new_frames path) 0 c 1
    × (frame_paths ([] ∷ []) (new_frames path) 0 c ≡ (path, c) ∷ [])
start_step path c bytes short cheap =
    let ns : List (List Edge) = [] ∷ [] in
    let len = length-new_frames path in (
      record {
        frozen = frozen_end;
        frames = fresh_frames ns 0 path bytes;
        carried =
            end_carried ns (new_frames path) c frozen_end (omega (arith, len, short)) cheap
            (ap (visit ns 0) (walked_fresh ns path []) ∙ end_visit);
      },
      ap (paths_under (known ns) (new_frames path)) (end_inner ns c frozen_end)
          ∙ open_fresh (known ns) path c,
    )
