-- The first of the starts, and how many there are.
use Rattle.fst_code.specs.Tails.{Tail}
use Rattle.fst_walk.specs.Asked.{is_left_at, starts_at, Position, Closed}
use Rattle.fst_walk.specs.Starts.{context_of, put_context, contexts_in, is_asked, matching_contexts}
use Rattle.fst_walk.specs.Starts.{start_contexts}
use Rattle.fst_walk.specs.Walks.{is_within, Ready, position_of}
use Rattle.fst_walk.specs.declared.walk.Stage.TheVariants.{Fresh}
use Rattle.fst_walk.specs.declared.walk.Walk.{Walk}
use Rattle.sg_base.specs.ByteStrings.{is_less}
use Rattle.sg_base.specs.Lists.{In}
use Rattle.sg_base.specs.declared.node.Edge.{Edge}
use Rattle.sg_context.specs.Queries.{PlainQuery}
use Rattle.std.proofs.Common.{◌≡◌, ◌≤◌, ℕ, suc, Bool, true, false, cond, inl, filter, List, [], ◌∷◌}
use Rattle.std.proofs.Common.{length, refl, sym, ap, ◌∙◌, subst, arith, None}
use Rattle.std.specs.Prelude.{bytes_eq}
use Rattle.fst_walk.proofs.ListLemmas.{In-filter}
use Rattle.fst_walk.proofs.ContextLemmas.{start_parts}
use Rattle.fst_walk.proofs.ClosedLemmas.{closed_first}
use Rattle.fst_walk.proofs.AskingLemmas.{stands_at}

pub filter_all : (xs : List (List ℕ)) → filter (is_left_at None) xs ≡ xs
filter_all [] = refl
filter_all (x ∷ xs) = ap (λ z. x ∷ z) (filter_all xs)

fewer_at : {X : Type 0} (b : Bool) (x : X) (xs : List X) (n : ℕ) → length xs ≤ n
    → length (cond b (x ∷ xs) xs) ≤ suc n
fewer_at true x xs n h = omega (arith, h)
fewer_at false x xs n h = omega (arith, h)

pub filter_fewer : {X : Type 0} (p : X → Bool) (xs : List X) → length (filter p xs) ≤ length xs
filter_fewer p [] = omega arith
filter_fewer p (x ∷ xs) = fewer_at (p x) x (filter p xs) (length xs) (filter_fewer p xs)

put_at : (b d : Bool) (c x : List ℕ) (xs : List (List ℕ))
    → length (put_context c xs) ≤ suc (length xs)
    → length (cond b (x ∷ xs) (cond d (c ∷ (x ∷ xs)) (x ∷ put_context c xs))) ≤ suc
    (suc (length xs))
put_at true d c x xs h = omega arith
put_at false true c x xs h = omega arith
put_at false false c x xs h = omega (arith, h)

put_fewer : (c : List ℕ) (xs : List (List ℕ)) → length (put_context c xs) ≤ suc (length xs)
put_fewer c [] = omega arith
put_fewer c (x ∷ xs) = put_at (bytes_eq c x) (is_less c x) c x xs (put_fewer c xs)

contexts_fewer : (ts : List Tail) → length (contexts_in ts) ≤ length ts
contexts_fewer [] = omega arith
contexts_fewer (t ∷ ts) =
    let a = put_fewer (context_of t.0) (contexts_in ts) in let b =
    contexts_fewer ts in omega (arith, a, b)

start_fewer : (ts : List Tail) (q : PlainQuery)
    → length (start_contexts ts q) ≤ length (matching_contexts ts q)
start_fewer ts q = filter_fewer _ (matching_contexts ts q)

pub starts_fewer : (ts : List Tail) (q : PlainQuery) → length (start_contexts ts q) ≤ length ts
starts_fewer ts q =
    let a = filter_fewer (is_asked q.contexts) (contexts_in ts) in
    let b = contexts_fewer ts in
    let c = start_fewer ts q in
    omega (arith, a, b, c)

pub first_boost : (ts : List Tail) (q : PlainQuery) (at : Position) (c : List ℕ)
    (rest : List (List ℕ))
    → starts_at ts q at ≡ c ∷ rest → is_asked q.contexts c ≡ true
first_boost ts q at c rest e =
    let i : In c (starts_at ts q at) = subst (In c) (sym e) (inl refl) in
    let m = In-filter (is_left_at at) c (start_contexts ts q) i in
    (start_parts ts q c m.0).1

pub ready_new : (t : List (List Edge)) (q : PlainQuery) (w : Walk) → w.stage ≡ Fresh → w.len ≤ 63
    → Ready t q w
ready_new t q w fresh fits =
    let here : position_of w ≡ None = stands_at w Fresh fresh in
    record {
      fits = fits;
      group = λ a. absurd
          (let x : true ≡ false = sym a ∙ ap is_within fresh in cc);
      closed = λ _. subst (Closed q.contexts) (sym here) (closed_first q.contexts);
    }
