-- The contexts of paths, and which of them are starts.
use Rattle.fst_code.specs.Tails.{Tail}
use Rattle.fst_walk.specs.Fronts.{is_front}
use Rattle.fst_walk.specs.Positions.{no_end}
use Rattle.fst_walk.specs.Starts.{context_of, HasContext, AllHaveContexts, put_context, contexts_in}
use Rattle.fst_walk.specs.Starts.{is_asked, matching_contexts, start_contexts}
use Rattle.sg_base.specs.ByteStrings.{begins}
use Rattle.sg_base.specs.Lists.{In}
use Rattle.sg_context.specs.Queries.{PlainQuery}
use Rattle.std.proofs.Common.{◌≡◌, ◌≤◌, ℕ, Bool, true, false, not, ◌&&◌, cond, ◌⊎◌, inl, inr}
use Rattle.std.proofs.Common.{List, [], ◌∷◌, ◌++◌, length, refl, sym, ap, ◌∙◌, subst, arith, eqb}
use Rattle.std.proofs.Common.{eq-eqb, eqb-true, append_assoc}
use Rattle.std.proofs.lemmas.Bool.{and_parts, or_cases}
use Rattle.std.specs.List.{AllByRecursion}
use Rattle.fst_walk.proofs.BoolLemmas.{clash}
use Rattle.fst_walk.proofs.BeginLemmas.{begins_length, begins_split, itself_and}
use Rattle.fst_walk.proofs.ListLemmas.{In-filter, filter_keeps}
use Rattle.fst_walk.proofs.AscendingLemmas.{Ascends, Ascends-filter, Ascends-put, In-put, put_has}
use Rattle.fst_walk.proofs.AscendingLemmas.{put_keeps}

end_at : (b : ℕ) (bs : List ℕ) (t : Bool) → eqb b 29 ≡ t → no_end (context_of bs) ≡ true
    → no_end (cond t [] (b ∷ context_of bs)) ≡ true
end_at b bs true e ih = refl
end_at b bs false e ih = rw e ih

pub context_no_end : (bs : List ℕ) → no_end (context_of bs) ≡ true
context_no_end [] = refl
context_no_end (b ∷ bs) = end_at b bs (eqb b 29) refl (context_no_end bs)

not_end_of : (b : ℕ) (bs : List ℕ) (t : Bool) → eqb b 29 ≡ t → (not t && no_end bs) ≡ true
    → (eqb b 29 ≡ false) × (no_end bs ≡ true)
not_end_of b bs true e h = absurd (clash h)
not_end_of b bs false e h = (e, h)

pub no_end_parts : (b : ℕ) (bs : List ℕ) → no_end (b ∷ bs) ≡ true
    → (eqb b 29 ≡ false) × (no_end bs ≡ true)
no_end_parts b bs h = not_end_of b bs (eqb b 29) refl h

pub context_at : (c rest : List ℕ) → no_end c ≡ true → context_of (c ++ 29 ∷ rest) ≡ c
context_at [] rest h = refl
context_at (b ∷ c) rest h =
    let p = no_end_parts b c h in rw p.0 (ap (λ z. b ∷ z) (context_at c rest p.1))

-- a path that begins so
pub record Under (ts : List Tail) (s : List ℕ) : Type 0 where
  pub path : Tail
  pub member : In path ts
  pub begun : begins s path.0 ≡ true

under_by : (u : Tail) (ts : List Tail) (s : List ℕ) → (begins s u.0 ≡ true) ⊎ (is_front ts s ≡ true)
    → (is_front ts s ≡ true → Under ts s) → Under (u ∷ ts) s
under_by u ts s (inl b) ih = record { path = u; member = inl refl; begun = b }
under_by u ts s (inr h) ih = let r =
    ih h in record { path = r.path; member = inr r.member; begun = r.begun }

pub front_member : (ts : List Tail) (s : List ℕ) → is_front ts s ≡ true → Under ts s
front_member [] s h = absurd (clash h)
front_member (u ∷ ts) s h = under_by u ts s (or_cases _ _ h) (front_member ts s)

pub all_in : {X : Type 0} (P : X → Type 0) (xs : List X) (x : X) → AllByRecursion P xs → In x xs
    → P x
all_in P [] x a h = absurd h
all_in P (y ∷ ys) x a (inl e) = subst P (sym e) a.0
all_in P (y ∷ ys) x a (inr h) = all_in P ys x a.1 h

pub context_in : (ts : List Tail) (t : Tail) → In t ts → In (context_of t.0) (contexts_in ts)
context_in [] t h = absurd h
context_in (u ∷ ts) t (inl e) =
    subst (λ (w : Tail). In (context_of w.0) (put_context (context_of u.0) (contexts_in ts)))
    (sym e)
    (put_has (context_of u.0) (contexts_in ts))
context_in (u ∷ ts) t (inr h) = put_keeps (context_of u.0) (contexts_in ts) _ (context_in ts t h)

pub record HasPath (ts : List Tail) (c : List ℕ) : Type 0 where
  pub path : Tail
  pub member : In path ts
  pub is : c ≡ context_of path.0

path_by : (u : Tail) (ts : List Tail) (c : List ℕ) → (c ≡ context_of u.0) ⊎ In c (contexts_in ts)
    → (In c (contexts_in ts) → HasPath ts c) → HasPath (u ∷ ts) c
path_by u ts c (inl e) ih = record { path = u; member = inl refl; is = e }
path_by u ts c (inr h) ih = let r =
    ih h in record { path = r.path; member = inr r.member; is = r.is }

pub context_path : (ts : List Tail) (c : List ℕ) → In c (contexts_in ts) → HasPath ts c
context_path [] c h = absurd h
context_path (u ∷ ts) c h = path_by u ts c (In-put (context_of u.0) (contexts_in ts) c h)
    (context_path ts c)

pub Ascends-contexts : (ts : List Tail) → Ascends (contexts_in ts)
Ascends-contexts [] = tt
Ascends-contexts (t ∷ ts) = Ascends-put (context_of t.0) (contexts_in ts) (Ascends-contexts ts)

pub Ascends-starts : (ts : List Tail) (q : PlainQuery) → Ascends (start_contexts ts q)
Ascends-starts ts q = Ascends-filter _ (matching_contexts ts q)
    (Ascends-filter _ (contexts_in ts) (Ascends-contexts ts))

pub member_no_end : (ts : List Tail) (c : List ℕ) → In c (contexts_in ts) → no_end c ≡ true
member_no_end ts c h = let o = context_path ts c h in rw o.is (context_no_end o.path.0)

pub member_fits : (ts : List Tail) (c : List ℕ) → AllHaveContexts ts → In c (contexts_in ts)
    → length c ≤ 63
member_fits ts c all h =
    let o = context_path ts c h in
    let p = all_in (λ (t : Tail). HasContext t.0) ts o.path all o.member in
    omega (arith, p.fits, ap length o.is)

-- what is a front with the end and more is a member
pub front_context : (ts : List Tail) (c q : List ℕ) → no_end c ≡ true
    → is_front ts (c ++ 29 ∷ q) ≡ true
    → In c (contexts_in ts)
front_context ts c q n h =
    let u = front_member ts (c ++ 29 ∷ q) h in
    let s = begins_split (c ++ 29 ∷ q) u.path.0 u.begun in
    let e : context_of u.path.0 ≡ c =
    ap context_of (s ∙ append_assoc c (29 ∷ q) _) ∙ context_at c _ n in
    subst (λ z. In z (contexts_in ts)) e (context_in ts u.path u.member)

-- a front without an end is one of a context
begun_by : (x y : ℕ) (s b rest : List ℕ) (t : Bool) → eqb y 29 ≡ t → eqb x y ≡ true
    → eqb x 29 ≡ false
    → y ∷ b ≡ cond t [] (y ∷ context_of b) ++ 29 ∷ rest
    → (b ≡ context_of b ++ 29 ∷ rest → begins s (context_of b) ≡ true)
    → begins (x ∷ s) (cond t [] (y ∷ context_of b)) ≡ true
begun_by x y s b rest true e f n is ih =
    absurd (clash (sym n ∙ eq-eqb x 29 (eqb-true x y f ∙ eqb-true y 29 e)))
begun_by x y s b rest false e f n is ih =
    let tail : b ≡ context_of b ++ 29 ∷ rest = cc in itself_and (eqb x y) _ f (ih tail)

pub context_begins : (s b rest : List ℕ) → no_end s ≡ true → begins s b ≡ true
    → b ≡ context_of b ++ 29 ∷ rest
    → begins s (context_of b) ≡ true
context_begins [] b rest n h is = refl
context_begins (x ∷ s) [] rest n h is = absurd (clash h)
context_begins (x ∷ s) (y ∷ b) rest n h is =
    let p = no_end_parts x s n in
    let a = and_parts _ _ h in
    begun_by x y s b rest (eqb y 29) refl a.0 p.0 is (λ k. context_begins s b rest p.1 a.1 k)

pub record Below (ts : List Tail) (s : List ℕ) : Type 0 where
  pub context : List ℕ
  pub member : In context (contexts_in ts)
  pub begun : begins s context ≡ true

pub front_below : (ts : List Tail) (s : List ℕ) → AllHaveContexts ts → no_end s ≡ true
    → is_front ts s ≡ true
    → Below ts s
front_below ts s all n h =
    let u = front_member ts s h in
    let p = all_in (λ (t : Tail). HasContext t.0) ts u.path all u.member in
    record {
      context = context_of u.path.0;
      member = context_in ts u.path u.member;
      begun = context_begins s u.path.0 p.rest n u.begun p.is;
    }

pub front_fits : (ts : List Tail) (s : List ℕ) → AllHaveContexts ts → no_end s ≡ true
    → is_front ts s ≡ true
    → length s ≤ 63
front_fits ts s all n h =
    let b = front_below ts s all n h in
    let f = member_fits ts b.context all b.member in
    let l = begins_length s b.context b.begun in
    omega (arith, f, l)

-- starts
pub start_parts : (ts : List Tail) (q : PlainQuery) (c : List ℕ) → In c (start_contexts ts q)
    → In c (contexts_in ts) × (is_asked q.contexts c ≡ true)
    × (is_front ts (c ++ 29 ∷ q.prefix) ≡ true)
start_parts ts q c h =
    let a = In-filter (λ d. is_front ts (d ++ 29 ∷ q.prefix)) c (matching_contexts ts q) h in
    let b = In-filter (is_asked q.contexts) c (contexts_in ts) a.0 in
    (b.0, b.1, a.1)

pub start_from : (ts : List Tail) (q : PlainQuery) (c : List ℕ) → no_end c ≡ true
    → is_asked q.contexts c ≡ true → is_front ts (c ++ 29 ∷ q.prefix) ≡ true
    → In c (start_contexts ts q)
start_from ts q c n a f =
    filter_keeps (λ d. is_front ts (d ++ 29 ∷ q.prefix)) c (matching_contexts ts q)
    (filter_keeps (is_asked q.contexts) c (contexts_in ts) (front_context ts c q.prefix n f) a) f

pub matching_from : (ts : List Tail) (q : PlainQuery) (c : List ℕ) → In c (contexts_in ts)
    → is_asked q.contexts c ≡ true → In c (matching_contexts ts q)
matching_from ts q c h a = filter_keeps (is_asked q.contexts) c (contexts_in ts) h a
