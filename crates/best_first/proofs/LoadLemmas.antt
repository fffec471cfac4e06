-- Starts that are put in one after another.
use Rattle.std.proofs.Common.{◌≡◌, ◌≤◌, ◌<◌, ◌+◌, ℕ, List, [], ◌∷◌, ◌++◌, length, length-append}
use Rattle.std.proofs.Common.{append_assoc, map, refl, sym, ap, ◌∙◌, subst, arith}
use Rattle.std.proofs.lemmas.List.{append-nil}
use Rattle.sg_base.specs.declared.limits.TheConstants.{MOST_WEIGHT}
use Rattle.sg_base.specs.declared.node.Edge.{Edge}
use Rattle.sg_context.specs.Queries.{PlainQuery}
use Rattle.sg_paths.specs.Operations.{PlainNumbered}
use Rattle.fst_code.specs.Lists.{root_paths}
use Rattle.fst_code.specs.Tails.{tails}
use Rattle.fst_walk.specs.Spots.{IsSpot}
use Rattle.fst_walk.specs.Starts.{start_contexts}
use Rattle.fst_walk.specs.StartsLeft.{StartsLeft, IsStart}
use Rattle.fst_walk.specs.declared.starts.Start.{Start}
use Rattle.fst_walk.proofs.PlaceLemmas.{place_cost}
use Rattle.fst_walk.proofs.StartsLemmas.{starts_fewer}
use Rattle.path_desk.specs.Desks.{PlainDesk, put_entry}
use Rattle.path_desk.specs.Entries.{Queued, queued}
use Rattle.path_desk.specs.declared.entry.Entry.{Entry}
use Rattle.best_first.specs.Parts.{IsMapping}
use Rattle.best_first.specs.Roots.{IsRoot, AreRoots, entry_of_start, Loading}
use Rattle.best_first.specs.Segments.{started}
use Rattle.best_first.specs.Steps.{put_all}
use Rattle.best_first.proofs.SegmentLemmas.{roots_length}

is_root : (old new : StartsLeft) (st : Start) (i : IsStart old new st)
    → IsRoot old.query old.nodes old.given i.context (entry_of_start st)
is_root old new st i = record {
  start = i.number;
  boost = i.boost;
  is_node = i.spot.is_node;
  meets =
      i.spot.meets;
  score = refl;
}

roots-append : (q : PlainQuery) (t : List (List Edge)) (n m : ℕ) (cs : List (List ℕ))
    (es : List Entry) (c : List ℕ) (e : Entry) → AreRoots q t n cs es
    → m ≡ n + length cs → IsRoot q t m c e → AreRoots q t n (cs ++ c ∷ []) (es ++ e ∷ [])
roots-append q t n m [] [] c e a k r =
    (subst (λ z. IsRoot q t z c e) (let h : m ≡ n = omega (arith, k) in h) r, tt)
roots-append q t n m [] (x ∷ es) c e a k r = elim a [ ]
roots-append q t n m (d ∷ cs) [] c e a k r = elim a [ ]
roots-append q t n m (d ∷ cs) (x ∷ es) c e a k r =
    (a.0, roots-append q t (n + 1) m cs es c e a.1 (omega (arith, k)) r)

-- none was put in
pub loading-new : (q : PlainQuery) (t : List (List Edge)) (left : StartsLeft) → left.query ≡ q
    → left.nodes ≡ t → left.given ≡ 0 → Loading q t left.contexts left []
loading-new q t left e f g = record
    { done = []; is = refl; roots_are = tt; given = g; of_query = e; of_nodes = f }

-- a start more
pub loading-next : (q : PlainQuery) (t : List (List Edge)) (cs : List (List ℕ))
    (old new : StartsLeft) (roots : List Entry) (st : Start)
    → Loading q t cs old roots → IsStart old new st → new.query ≡ old.query → new.nodes ≡ old.nodes
    → Loading q t cs new (roots ++ entry_of_start st ∷ [])
loading-next q t cs old new roots st l i e f =
    let r0 = is_root old new st i in
    let r1 =
    subst (λ z. IsRoot z old.nodes old.given i.context (entry_of_start st)) l.of_query r0 in
    let r2 = subst (λ z. IsRoot q z old.given i.context (entry_of_start st)) l.of_nodes r1 in
    let g = l.given in
    let n = i.given in
    let len = length-append l.done (i.context ∷ []) in
    record {
      done = l.done ++ i.context ∷ [];
      is = l.is ∙ ap (λ z. l.done ++ z) i.left
          ∙ sym (append_assoc l.done (i.context ∷ []) new.contexts);
      roots_are = roots-append q t 0 old.given l.done roots i.context (entry_of_start st)
          l.roots_are (omega (arith, g)) r2;
      given = omega (arith, g, n, len);
      of_query = e ∙ l.of_query;
      of_nodes = f ∙ l.of_nodes;
    }

-- when none is left
pub loading-end : (q : PlainQuery) (t : List (List Edge)) (cs : List (List ℕ)) (left : StartsLeft)
    (roots : List Entry)
    → Loading q t cs left roots → left.contexts ≡ [] → AreRoots q t 0 cs roots
loading-end q t cs left roots l e =
    subst (λ z. AreRoots q t 0 z roots)
    (sym (append-nil l.done) ∙ ap (λ z. l.done ++ z) (sym e) ∙ sym l.is) l.roots_are

pub put_all-more : (d : PlainDesk) (f : Entry → Queued) (es : List Entry) (e : Entry)
    → put_all d (map f (es ++ e ∷ [])) ≡ put_entry (put_all d (map f es)) (f e)
put_all-more d f [] e = refl
put_all-more d f (x ∷ es) e = put_all-more (put_entry d (f x)) f es e

pub count_within : (q : PlainQuery) (t : List (List Edge)) (ds : List PlainNumbered)
    (left : StartsLeft) (roots : List Entry) → IsMapping t ds
    → Loading q t (start_contexts (root_paths t) q) left roots → length roots ≤ 4194304
count_within q t ds left roots m l =
    let a = roots_length q t 0 l.done roots l.roots_are in
    let b = ap length l.is in
    let c = length-append l.done left.contexts in
    let d = starts_fewer (root_paths t) q in
    let e = m.transducer.paths in
    omega (arith, a, b, c, d, e)

pub start_cost : (q : PlainQuery) (t : List (List Edge)) (ds : List PlainNumbered)
    (cs : List (List ℕ)) (old new : StartsLeft) (roots : List Entry) (st : Start) → IsMapping t ds
    → Loading q t cs old roots → IsStart old new st → st.spot.cost ≤ MOST_WEIGHT
start_cost q t ds cs old new roots st m l i =
    let spot =
    subst (λ z. IsSpot z (i.context ++ 29 ∷ old.query.prefix) st.spot) l.of_nodes i.spot in
    place_cost (root_paths t) (tails t) _ _ _ _ 2147483647 spot.meets
    (m.transducer.some st.spot.node.0 spot.is_node) m.transducer.cheap

-- one more start
pub loaded-next : (q : PlainQuery) (t : List (List Edge)) (cs : List (List ℕ)) (d0 d d' : PlainDesk)
    (key : List ℕ) (old new : StartsLeft) (roots : List Entry) (st : Start) (e : Entry) (n : ℕ)
    → Loading q t cs old roots → d ≡ put_all d0 (started q.prefix roots) → n ≡ length roots
    → IsStart old new st → new.query ≡ old.query
    → new.nodes ≡ old.nodes → e ≡ entry_of_start st → key ≡ q.prefix
    → d' ≡ put_entry d (queued e key)
    → (more : List Entry) × Loading q t cs new more × (d' ≡ put_all d0 (started q.prefix more))
    × (n + 1 ≡ length more)
loaded-next q t cs d0 d d' key old new roots st e n l h k i a b f g p =
    let len = length-append roots (entry_of_start st ∷ []) in (
      roots ++ entry_of_start st ∷ [],
      loading-next q t cs old new roots st l i a b,
      p ∙ ap (λ z. put_entry d (queued z key)) f
          ∙ ap (λ z. put_entry d (queued (entry_of_start st) z)) g
          ∙ ap (λ z. put_entry z (queued (entry_of_start st) q.prefix)) h
          ∙ sym (put_all-more d0 (λ e. queued e q.prefix) roots (entry_of_start st)),
      omega (arith, k, len),
    )

pub fewer-left : (old new : StartsLeft) (st : Start) → IsStart old new st
    → length new.contexts < length old.contexts
fewer-left old new st i = let e = ap length i.left in omega (arith, e)
