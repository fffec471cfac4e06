-- The place of a list under its number.
use Rattle.std.proofs.Common.{◌≡◌, ◌≤◌, ◌<◌, ◌+◌, ℕ, zero, suc, Bool, true, false, cond, nat_eq}
use Rattle.std.proofs.Common.{Some, None, List, [], ◌∷◌, ◌++◌, length, take, drop, refl}
use Rattle.std.proofs.Common.{ap, ◌∙◌, arith, get_or}
use Rattle.std.specs.List.{position_from}
use Rattle.index_core.specs.OwnLists.{PlainOwnList, list_of, without_list}

abbrev pub is_under : ℕ → PlainOwnList → Bool
is_under n l = nat_eq l.number n

place_over : (n m k : ℕ) (ls : List PlainOwnList) → position_from (is_under n) m ls ≡ Some k
    → m ≤ k
place_over n m k [] is = absurd (let no : None ≡ Some k = is in cc)
place_over n m k (l ∷ ls) is = by_test (is_under n l) is (λ e. place_over n (m + 1) k ls e)
  where
    by_test : (b : Bool) → cond b (Some m) (position_from (is_under n) (m + 1) ls) ≡ Some k
        → (position_from (is_under n) (m + 1) ls ≡ Some k → m + 1 ≤ k) → m ≤ k
    by_test true e again = let same : m ≡ k = cc in omega (arith, same)
    by_test false e again = let more = again e in omega (arith, more)

pub place_within : (n m k : ℕ) (ls : List PlainOwnList)
    → position_from (is_under n) m ls ≡ Some k → k < m + length ls
place_within n m k [] is = absurd (let no : None ≡ Some k = is in cc)
place_within n m k (l ∷ ls) is = by_test (is_under n l) is (λ e. place_within n (m + 1) k ls e)
  where
    by_test : (b : Bool) → cond b (Some m) (position_from (is_under n) (m + 1) ls) ≡ Some k
        → (position_from (is_under n) (m + 1) ls ≡ Some k → k < m + 1 + length ls)
        → k < m + length (l ∷ ls)
    by_test true e again = let same : m ≡ k = cc in omega (arith, same)
    by_test false e again = let more = again e in omega (arith, more)

-- what stands there, and what is left
placed : (n m j : ℕ) (ls : List PlainOwnList) (x : PlainOwnList)
    → position_from (is_under n) m ls ≡ Some (m + j) → x ≡ get_or ls j x
    → (x.generations ≡ list_of n ls) × (take j ls ++ drop (j + 1) ls ≡ without_list n ls)
placed n m j [] x at is = absurd (let no : None ≡ Some (m + j) = at in cc)
placed n m j (l ∷ ls) x at is =
    by_test (is_under n l) j at is (λ i at' is'. placed n (m + 1) i ls x at' is')
  where
    by_test : (b : Bool) (i : ℕ)
        → cond b (Some m) (position_from (is_under n) (m + 1) ls) ≡ Some (m + i)
        → x ≡ get_or (l ∷ ls) i x
        → ((i' : ℕ) → position_from (is_under n) (m + 1) ls ≡ Some (m + 1 + i')
        → x ≡ get_or ls i' x
        → (x.generations ≡ list_of n ls) × (take i' ls ++ drop (i' + 1) ls ≡ without_list n ls))
        → (x.generations ≡ cond b l.generations (list_of n ls))
        × (take i (l ∷ ls) ++ drop (i + 1) (l ∷ ls) ≡ cond b ls (l ∷ without_list n ls))
    by_test true zero e is' again = (ap (λ (y : PlainOwnList). y.generations) is', refl)
    by_test true (suc i) e is' again =
        absurd (let same : m ≡ m + suc i = cc in omega (arith, same))
    by_test false zero e is' again =
        absurd (let more = place_over n (m + 1) (m + zero) ls e in omega (arith, more))
    by_test false (suc i) e is' again =
        let next : m + suc i ≡ m + 1 + i = omega arith in
        let there = again i (e ∙ ap Some next) is' in
        let one : suc i + 1 ≡ suc (i + 1) = omega arith in (
          there.0,
          ap (λ (k : ℕ). take (suc i) (l ∷ ls) ++ drop k (l ∷ ls)) one
              ∙ ap (λ (ys : List PlainOwnList). l ∷ ys) there.1,
        )

pub taken : (n j : ℕ) (ls : List PlainOwnList) (x : PlainOwnList)
    → position_from (is_under n) 0 ls ≡ Some j → x ≡ get_or ls j x
    → (x.generations ≡ list_of n ls) × (take j ls ++ drop (j + 1) ls ≡ without_list n ls)
taken n j ls x at is =
    placed n 0 j ls x (at ∙ ap Some (let same : j ≡ 0 + j = omega arith in same)) is

-- where none stands under it
pub none_under : (n m : ℕ) (ls : List PlainOwnList) → position_from (is_under n) m ls ≡ None
    → (list_of n ls ≡ []) × (without_list n ls ≡ ls)
none_under n m [] is = (refl, refl)
none_under n m (l ∷ ls) is = by_test (is_under n l) is (λ e. none_under n (m + 1) ls e)
  where
    by_test : (b : Bool) → cond b (Some m) (position_from (is_under n) (m + 1) ls) ≡ None
        → (position_from (is_under n) (m + 1) ls ≡ None
        → (list_of n ls ≡ []) × (without_list n ls ≡ ls))
        → (cond b l.generations (list_of n ls) ≡ [])
        × (cond b ls (l ∷ without_list n ls) ≡ l ∷ ls)
    by_test true e again = absurd (let no : Some m ≡ None = e in cc)
    by_test false e again =
        let there = again e in (there.0, ap (λ (ys : List PlainOwnList). l ∷ ys) there.1)
