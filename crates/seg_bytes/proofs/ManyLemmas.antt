-- A loop that reads so many, one after another.
use Rattle.std.proofs.Common.{◌≡◌, ◌≤◌, ◌<◌, ◌+◌, ◌-◌, ℕ, zero, suc, List, [], ◌∷◌, ◌++◌}
use Rattle.std.proofs.Common.{sym, ap, ◌∙◌, refl, subst, arith, append_assoc, append-nil}
use Rattle.seg_bytes.specs.declared.error.ReadError.{ReadError}
use Rattle.seg_bytes.specs.Answers.{Refuses}
use Rattle.seg_bytes.specs.Fields.{Reading, Reader, reads, broken, then_read, many_at}
use Rattle.seg_bytes.proofs.ReadingLemmas.{then_is, then_refused}

-- what is out, continued by the items that are left, is the whole
abbrev pub Continues : {A : Type 0} → Reader A → List ℕ → ℕ → ℕ → List A → ℕ → ℕ → Type 0
Continues read bytes at count items end done =
    many_at read count bytes at
    ≡ then_read (many_at read (count - done) bytes end) (λ xs last. reads (items ++ xs) last)

-- nothing is out
same : {A : Type 0} (given : Reading (List A)) → given ≡ then_read given (λ xs last. reads xs last)
same (reads xs last) = refl
same (broken at) = refl

pub none_read : {A : Type 0} (read : Reader A) (bytes : List ℕ) (at count : ℕ)
    → Continues read bytes at count [] at 0
none_read read bytes at count =
    let all : count ≡ count - 0 = omega arith in
    same (many_at read count bytes at)
    ∙ ap (λ n. then_read (many_at read n bytes at) (λ xs last. reads xs last)) all

-- an item goes over to what is out
put_over : {A : Type 0} (given : Reading (List A)) (items : List A) (x : A)
    → then_read (then_read given (λ xs last. reads (x ∷ xs) last))
    (λ xs last. reads (items ++ xs) last)
    ≡ then_read given (λ xs last. reads ((items ++ x ∷ []) ++ xs) last)
put_over (reads xs last) items x = ap (λ ys. reads ys last) (sym (append_assoc items (x ∷ []) xs))
put_over (broken at) items x = refl

-- one more is out
pub one_more : {A : Type 0} (read : Reader A) (bytes : List ℕ) (at count : ℕ) (items : List A)
    (end done : ℕ) (x : A) (next : ℕ) → done < count → read bytes end ≡ reads x next
    → Continues read bytes at count items end done
    → Continues read bytes at count (items ++ x ∷ []) next (done + 1)
unfolding many_at
one_more read bytes at count items end done x next h is so_far =
    let left : count - done ≡ suc (count - (done + 1)) = omega (arith, h) in
    so_far
    ∙ ap (λ n. then_read (many_at read n bytes end) (λ xs last. reads (items ++ xs) last)) left
    ∙ ap (λ g. then_read g (λ xs last. reads (items ++ xs) last))
    (then_is (read bytes end) x next _ is)
    ∙ put_over (many_at read (count - (done + 1)) bytes next) items x

-- one is refused, and so all are
pub one_refused : {A : Type 0} (read : Reader A) (bytes : List ℕ) (at count : ℕ) (items : List A)
    (end done : ℕ) (e : ReadError) → done < count → Refuses (read bytes end) e
    → Continues read bytes at count items end done → Refuses (many_at read count bytes at) e
unfolding many_at
one_refused read bytes at count items end done e h refused so_far =
    let left : count - done ≡ suc (count - (done + 1)) = omega (arith, h) in
    subst (λ g. Refuses g e)
    (sym (so_far
    ∙ ap (λ n. then_read (many_at read n bytes end) (λ xs last. reads (items ++ xs) last)) left))
    (then_refused (many_at read (suc (count - (done + 1))) bytes end)
    (λ xs last. reads (items ++ xs) last) e (then_refused (read bytes end) _ e refused))

-- all are out
pub all_read : {A : Type 0} (read : Reader A) (bytes : List ℕ) (at count : ℕ) (items : List A)
    (end done : ℕ) → count ≤ done → Continues read bytes at count items end done
    → many_at read count bytes at ≡ reads items end
unfolding many_at
all_read read bytes at count items end done h so_far =
    let left : count - done ≡ zero = omega (arith, h) in
    so_far
    ∙ ap (λ n. then_read (many_at read n bytes end) (λ xs last. reads (items ++ xs) last)) left
    ∙ ap (λ xs. reads xs end) (append-nil items)
