-- Named views by their places: found, added, taken out, given back.
use Rattle.std.proofs.Common.{◌≡◌, ◌≤◌, ◌<◌, ◌+◌, ℕ, zero, suc, Bool, true, false, cond}
use Rattle.std.proofs.Common.{nat_eq, List, [], ◌∷◌, ◌++◌, length, map, Some, None}
use Rattle.std.proofs.Common.{refl, sym, ap, ◌∙◌, subst, arith, slice_index_or}
use Rattle.std.specs.Prelude.{bytes_eq, Contains, remove}
use Rattle.std.specs.List.{AllByRecursion, position_from}
use Rattle.std.specs.Cmp.Lexicographic.{bytes_decides}
use Rattle.std.proofs.lemmas.Bool.Decides.{nat_tests}
use Rattle.std.proofs.lemmas.Option.{same_Some}
use Rattle.index_core.specs.Histories.{Record, View, open_views}
use Rattle.index_core.specs.OpenViews.{without}
use Rattle.index_shared.specs.OwnViews.{view_in}
use Rattle.index_single.specs.declared.caller.TheConstants.{CALLER}
use Rattle.sg_shell.specs.Workers.{Open, named, without_name}
use Rattle.sg_shell.specs.Working.{NamedBuilt, open_of, worker_of, views_of, IsApart}
use Rattle.sg_shell.specs.Working.{AreApart, Holds}

abbrev pub has_name : List ℕ → NamedBuilt → Bool
has_name name o = bytes_eq o.name name

-- a place that is found isn't before the first
found_from : (name : List ℕ) (n k : ℕ) (os : List NamedBuilt)
    → position_from (has_name name) n os ≡ Some k → n ≤ k
found_from name n k [] is = cc
found_from name n k (o ∷ os) is =
    by_test (has_name name o) is (λ e. found_from name (n + 1) k os e)
  where
    by_test : (b : Bool) → cond b (Some n) (position_from (has_name name) (n + 1) os) ≡ Some k
        → (position_from (has_name name) (n + 1) os ≡ Some k → n + 1 ≤ k) → n ≤ k
    by_test true e again = let same = same_Some n k e in omega arith
    by_test false e again = let more = again e in omega arith

pub named_none : (name : List ℕ) (n : ℕ) (os : List NamedBuilt)
    → position_from (has_name name) n os ≡ None → named name (map open_of os) ≡ None
named_none name n [] is = refl
named_none name n (o ∷ os) is =
    by_test (has_name name o) refl is (λ e. named_none name (n + 1) os e)
  where
    by_test : (b : Bool) → has_name name o ≡ b
        → cond b (Some n) (position_from (has_name name) (n + 1) os) ≡ None
        → (position_from (has_name name) (n + 1) os ≡ None → named name (map open_of os) ≡ None)
        → named name (map open_of (o ∷ os)) ≡ None
    by_test true here e again = cc
    by_test false here e again = rw here (again e)

-- what is found is there, and under that name
pub record IsFoundAt (name : List ℕ) (os : List NamedBuilt) (i : ℕ) : Type 0 where
  pub within : i < length os
  pub is : (d : NamedBuilt)
      → named name (map open_of os) ≡ Some (open_of (slice_index_or os i d))

pub named_some : (name : List ℕ) (n i : ℕ) (os : List NamedBuilt)
    → position_from (has_name name) n os ≡ Some (n + i) → IsFoundAt name os i
named_some name n i [] is = cc
named_some name n zero (o ∷ os) is = by_test (has_name name o) refl is
  where
    by_test : (b : Bool) → has_name name o ≡ b
        → cond b (Some n) (position_from (has_name name) (n + 1) os) ≡ Some (n + 0)
        → IsFoundAt name (o ∷ os) 0
    by_test true here e = record { within = omega arith; is = λ d. rw here refl }
    by_test false here e =
        let more = found_from name (n + 1) (n + 0) os e in absurd (omega (arith, more))
named_some name n (suc i) (o ∷ os) is =
    by_test (has_name name o) refl is (λ e. named_some name (n + 1) i os e)
  where
    by_test : (b : Bool) → has_name name o ≡ b
        → cond b (Some n) (position_from (has_name name) (n + 1) os) ≡ Some (n + suc i)
        → (position_from (has_name name) (n + 1) os ≡ Some (n + 1 + i) → IsFoundAt name os i)
        → IsFoundAt name (o ∷ os) (suc i)
    by_test true here e again =
        let same = same_Some n (n + suc i) e in absurd (omega (arith, same))
    by_test false here e again =
        let at : n + suc i ≡ n + 1 + i = omega arith in
        let later = again (e ∙ ap Some at) in record {
          within = (let w = later.within in omega (arith, w));
          is = λ d. rw here (later.is d);
        }

pub all_at : (P : NamedBuilt → Type 0) (os : List NamedBuilt) (i : ℕ) (d : NamedBuilt)
    → i < length os → AllByRecursion P os → P (slice_index_or os i d)
all_at P [] i d less all = absurd (omega (arith, less))
all_at P (o ∷ os) zero d less all = all.0
all_at P (o ∷ os) (suc i) d less all = all_at P os i d (omega (arith, less)) all.1

pub all_more : (P : NamedBuilt → Type 0) (os : List NamedBuilt) (o : NamedBuilt)
    → AllByRecursion P os → P o → AllByRecursion P (os ++ o ∷ [])
all_more P [] o all last = (last, tt)
all_more P (p ∷ ps) o all last = (all.0, all_more P ps o all.1 last)

pub all_removed : (P : NamedBuilt → Type 0) (os : List NamedBuilt) (i : ℕ)
    → AllByRecursion P os → AllByRecursion P (remove os i)
all_removed P [] zero all = tt
all_removed P [] (suc i) all = tt
all_removed P (o ∷ os) zero all = all.1
all_removed P (o ∷ os) (suc i) all = (all.0, all_removed P os i all.1)

-- a name that no other has takes none of the others away
no_other : (o : Open) (os : List NamedBuilt) → AllByRecursion (IsApart o) (map open_of os)
    → without_name o.name (map open_of os) ≡ map open_of os
no_other o [] all = refl
no_other o (p ∷ ps) all =
    rw all.0.0 (ap (λ (qs : List Open). open_of p ∷ qs) (no_other o ps all.1))

-- by its name or by its place, one is taken out
pub removed : (name : List ℕ) (n i : ℕ) (os : List NamedBuilt) → AreApart (map open_of os)
    → position_from (has_name name) n os ≡ Some (n + i)
    → map open_of (remove os i) ≡ without_name name (map open_of os)
removed name n i [] apart is = cc
removed name n zero (o ∷ os) apart is = by_test (has_name name o) refl is
  where
    by_test : (b : Bool) → has_name name o ≡ b
        → cond b (Some n) (position_from (has_name name) (n + 1) os) ≡ Some (n + 0)
        → map open_of (remove (o ∷ os) 0) ≡ without_name name (map open_of (o ∷ os))
    by_test true here e =
        let same : o.name ≡ name = (bytes_decides o.name name).0 here in
        rw here (sym (no_other (open_of o) os apart.0)
        ∙ ap (λ (x : List ℕ). without_name x (map open_of os)) same)
    by_test false here e =
        let more = found_from name (n + 1) (n + 0) os e in absurd (omega (arith, more))
removed name n (suc i) (o ∷ os) apart is =
    by_test (has_name name o) refl is (λ e. removed name (n + 1) i os apart.1 e)
  where
    by_test : (b : Bool) → has_name name o ≡ b
        → cond b (Some n) (position_from (has_name name) (n + 1) os) ≡ Some (n + suc i)
        → (position_from (has_name name) (n + 1) os ≡ Some (n + 1 + i)
        → map open_of (remove os i) ≡ without_name name (map open_of os))
        → map open_of (remove (o ∷ os) (suc i)) ≡ without_name name (map open_of (o ∷ os))
    by_test true here e again =
        let same = same_Some n (n + suc i) e in absurd (omega (arith, same))
    by_test false here e again =
        let at : n + suc i ≡ n + 1 + i = omega arith in
        rw here (ap (λ (qs : List Open). open_of o ∷ qs) (again (e ∙ ap Some at)))

-- ---- open views

contains_at : (os : List NamedBuilt) (i : ℕ) (d : NamedBuilt) (v : View) → i < length os
    → slice_index_or (views_of (map open_of os)) i v ≡ view_in CALLER (slice_index_or os i d).view
contains_at [] i d v less = absurd (omega (arith, less))
contains_at (o ∷ os) zero d v less = refl
contains_at (o ∷ os) (suc i) d v less = contains_at os i d v (omega (arith, less))

length_views : (os : List NamedBuilt) → length (views_of (map open_of os)) ≡ length os
length_views [] = refl
length_views (o ∷ os) = ap suc (length_views os)

-- a named view is open
pub is_open : (r : Record) (os : List NamedBuilt) (i : ℕ) (d : NamedBuilt)
    → Holds (worker_of r os) → i < length os
    → Contains (open_views r.history) (view_in CALLER (slice_index_or os i d).view)
is_open r os i d holds less =
    subst (λ (vs : List View). Contains vs (view_in CALLER (slice_index_or os i d).view))
    (sym holds.views.are_open) (
      i,
      (let l = length_views os in omega (arith, l, less)),
      contains_at os i d (view_in CALLER (slice_index_or os i d).view) less,
    )

-- ---- the last one

pub last_at : (os : List NamedBuilt) (o d : NamedBuilt)
    → slice_index_or (os ++ o ∷ []) (length os) d ≡ o
last_at [] o d = refl
last_at (p ∷ ps) o d = last_at ps o d

apart_front : (P : Open → Type 0) (os : List NamedBuilt) (o : NamedBuilt)
    → AllByRecursion P (map open_of (os ++ o ∷ [])) → AllByRecursion P (map open_of os)
apart_front P [] o all = tt
apart_front P (p ∷ ps) o all = (all.0, apart_front P ps o all.1)

apart_last : (P : Open → Type 0) (os : List NamedBuilt) (o : NamedBuilt)
    → AllByRecursion P (map open_of (os ++ o ∷ [])) → P (open_of o)
apart_last P [] o all = all.0
apart_last P (p ∷ ps) o all = apart_last P ps o all.1

pub apart_without_last : (os : List NamedBuilt) (o : NamedBuilt)
    → AreApart (map open_of (os ++ o ∷ [])) → AreApart (map open_of os)
apart_without_last [] o apart = tt
apart_without_last (p ∷ ps) o apart =
    (apart_front (IsApart (open_of p)) ps o apart.0, apart_without_last ps o apart.1)

pub without_last : (os : List NamedBuilt) (o : NamedBuilt)
    → AreApart (map open_of (os ++ o ∷ []))
    → without o.view.number (views_of (map open_of (os ++ o ∷ []))) ≡ views_of (map open_of os)
without_last [] o apart =
    let same : nat_eq o.view.number o.view.number ≡ true = grind (arith, nat_tests) in rw same refl
without_last (p ∷ ps) o apart =
    let far = (apart_last (IsApart (open_of p)) ps o apart.0).1 in
    let other : nat_eq p.view.number o.view.number ≡ false = grind (arith, nat_tests, far) in
    rw other (ap (λ (vs : List View). view_in CALLER p.view ∷ vs) (without_last ps o apart.1))
