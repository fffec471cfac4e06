-- One node more in its chain.
use Rattle.std.proofs.Common.{◌≡◌, ◌<◌, ◌≤◌, ◌+◌, ◌-◌, ℕ, List, length, get_or, set, length-set}
use Rattle.std.proofs.Common.{sym, ap, ◌∙◌, arith, ◌⊎◌, inl, inr}
use Rattle.std.proofs.lemmas.List.{get_or-set_other, get_or-set_same}
use Rattle.std.proofs.lemmas.Bool.{cases_eq, cases_lt}
use Rattle.sg_base.specs.Chains.{Chained}

-- a head after the write
pub record Head (heads : List ℕ) (b n b2 : ℕ) : Type 0 where
  pub here : b2 ≡ b → get_or (set heads b (n + 1)) b2 0 ≡ n + 1
  pub other : (b2 ≡ b → ⊥) → get_or (set heads b (n + 1)) b2 0 ≡ get_or heads b2 0

head_at : (heads : List ℕ) (b n b2 : ℕ) → b < length heads → Head heads b n b2
head_at heads b n b2 h = record {
  here = λ e. ap (λ k. get_or (set heads b (n + 1)) k 0) e ∙ get_or-set_same heads b (n + 1) 0 h;
  other = λ ne. get_or-set_other heads b b2 (n + 1) 0 ne;
}

-- the last number or an earlier one
last_or : (n i : ℕ) → i < n + 1 → (i ≡ n → ⊥) → (i < n) ⊎ (n ≤ i) → i < n
last_or n i h ne (inl k) = k
last_or n i h ne (inr k) = absurd (ne (omega (arith, h, k)))

earlier : (n i : ℕ) → i < n + 1 → (i ≡ n → ⊥) → i < n
earlier n i h ne = last_or n i h ne (cases_lt i n)

bound_by : (heads : List ℕ) (b n b2 : ℕ) → b < length heads → ((k : ℕ) → get_or heads k 0 ≤ n)
    → (b2 ≡ b) ⊎ (b2 ≡ b → ⊥) → get_or (set heads b (n + 1)) b2 0 ≤ n + 1
bound_by heads b n b2 h old (inl e) = let x = (head_at heads b n b2 h).here e in omega (arith, x)
bound_by heads b n b2 h old (inr ne) = let x = (head_at heads b n b2 h).other ne in let y =
    old b2 in omega (arith, x, y)

head_by : (heads : List ℕ) (cell bucket_at more : ℕ → ℕ) (b n b2 j : ℕ)
    → Chained heads cell bucket_at n → b < length heads → more n ≡ b
    → ((i : ℕ) → i < n → more i ≡ bucket_at i) → b2 < length heads
    → get_or (set heads b (n + 1)) b2 0 ≤ j → j < n + 1 → more j ≡ b2 → (b2 ≡ b) ⊎ (b2 ≡ b → ⊥)
    → (j ≡ n) ⊎ (j ≡ n → ⊥) → ⊥
head_by heads cell bucket_at more b n b2 j old h nb same hb low hj mb (inl e) last = let x =
    (head_at heads b n b2 h).here e in omega (arith, x, low, hj)
head_by heads cell bucket_at more b n b2 j old h nb same hb low hj mb (inr ne) (inl e) =
    ne (sym mb ∙ ap more e ∙ nb)
head_by heads cell bucket_at more b n b2 j old h nb same hb low hj mb (inr ne) (inr nj) =
    let x = (head_at heads b n b2 h).other ne in
    let k : j < n = earlier n j hj nj in
    old.head b2 j hb (omega (arith, x, low)) k (sym (same j k) ∙ mb)

head_in_by : (heads : List ℕ) (cell bucket_at more : ℕ → ℕ) (b n b2 : ℕ)
    → Chained heads cell bucket_at n → b < length heads → more n ≡ b
    → ((i : ℕ) → i < n → more i ≡ bucket_at i) → b2 < length heads
    → 0 < get_or (set heads b (n + 1)) b2 0 → (b2 ≡ b) ⊎ (b2 ≡ b → ⊥)
    → more (get_or (set heads b (n + 1)) b2 0 - 1) ≡ b2
head_in_by heads cell bucket_at more b n b2 old h nb same hb pos (inl e) =
    let x = (head_at heads b n b2 h).here e in
    let y : get_or (set heads b (n + 1)) b2 0 - 1 ≡ n = omega (arith, x) in
    ap more y ∙ nb ∙ sym e
head_in_by heads cell bucket_at more b n b2 old h nb same hb pos (inr ne) =
    let x = (head_at heads b n b2 h).other ne in
    let y : get_or (set heads b (n + 1)) b2 0 - 1 ≡ get_or heads b2 0 - 1 = ap (λ k. k - 1) x in
    let low = old.bound b2 in
    let p : 0 < get_or heads b2 0 = omega (arith, x, pos) in
    let k : get_or heads b2 0 - 1 < n = omega (arith, low, p) in
    ap more y ∙ same (get_or heads b2 0 - 1) k ∙ old.head_in b2 hb p

falls_by : (heads : List ℕ) (cell next bucket_at : ℕ → ℕ) (b n i : ℕ)
    → Chained heads cell bucket_at n → next n ≡ get_or heads b 0
    → ((i : ℕ) → i < n → next i ≡ cell i) → i < n + 1 → (i ≡ n) ⊎ (i ≡ n → ⊥) → next i ≤ i
falls_by heads cell next bucket_at b n i old c kept h (inl e) =
    let low = old.bound b in let x : next i ≡ get_or heads b 0 =
    ap next e ∙ c in omega (arith, x, low, e)
falls_by heads cell next bucket_at b n i old c kept h (inr ne) =
    let k : i < n = earlier n i h ne in let f = old.falls i k in let x =
    kept i k in omega (arith, f, x)

gap_by : (heads : List ℕ) (cell next bucket_at more : ℕ → ℕ) (b n i j : ℕ)
    → Chained heads cell bucket_at n → b < length heads → more n ≡ b
    → ((i : ℕ) → i < n → more i ≡ bucket_at i) → next n ≡ get_or heads b 0
    → ((i : ℕ) → i < n → next i ≡ cell i) → i < n + 1 → next i ≤ j → j < i → more j ≡ more i
    → (i ≡ n) ⊎ (i ≡ n → ⊥) → ⊥
gap_by heads cell next bucket_at more b n i j old h nb same c kept hi low hj mb (inl e) =
    let x : next i ≡ get_or heads b 0 = ap next e ∙ c in
    let k : j < n = omega (arith, hj, e) in
    old.head b j h (omega (arith, x, low)) k (sym (same j k) ∙ mb ∙ ap more e ∙ nb)
gap_by heads cell next bucket_at more b n i j old h nb same c kept hi low hj mb (inr ne) =
    let k : i < n = earlier n i hi ne in
    let x = kept i k in
    let kj : j < n = omega (arith, hj, k) in
    old.gap i j k (omega (arith, x, low)) hj (sym (same j kj) ∙ mb ∙ same i k)

cell_in_by : (heads : List ℕ) (cell next bucket_at more : ℕ → ℕ) (b n i : ℕ)
    → Chained heads cell bucket_at n → b < length heads → more n ≡ b
    → ((i : ℕ) → i < n → more i ≡ bucket_at i) → next n ≡ get_or heads b 0
    → ((i : ℕ) → i < n → next i ≡ cell i) → i < n + 1 → 0 < next i → (i ≡ n) ⊎ (i ≡ n → ⊥)
    → more (next i - 1) ≡ more i
cell_in_by heads cell next bucket_at more b n i old h nb same c kept hi pos (inl e) =
    let x : next i ≡ get_or heads b 0 = ap next e ∙ c in
    let low = old.bound b in
    let p : 0 < get_or heads b 0 = omega (arith, x, pos) in
    let k : get_or heads b 0 - 1 < n = omega (arith, low, p) in
    ap (λ (y : ℕ). more (y - 1)) x ∙ same (get_or heads b 0 - 1) k ∙ old.head_in b h p ∙ sym nb
    ∙ sym (ap more e)
cell_in_by heads cell next bucket_at more b n i old h nb same c kept hi pos (inr ne) =
    let k : i < n = earlier n i hi ne in
    let x = kept i k in
    let f = old.falls i k in
    let p : 0 < cell i = omega (arith, x, pos) in
    let l : cell i - 1 < n = omega (arith, f, k, p) in
    ap (λ (y : ℕ). more (y - 1)) x ∙ same (cell i - 1) l ∙ old.cell_in i k p ∙ sym (same i k)

-- the new node goes to the head of its bucket's chain
pub chained_push : (heads : List ℕ) (cell next bucket_at more : ℕ → ℕ) (b n : ℕ)
    → Chained heads cell bucket_at n → b < length heads → more n ≡ b
    → ((i : ℕ) → i < n → more i ≡ bucket_at i) → next n ≡ get_or heads b 0
    → ((i : ℕ) → i < n → next i ≡ cell i) → Chained (set heads b (n + 1)) next more (n + 1)
chained_push heads cell next bucket_at more b n old h nb same c kept =
    let len : length (set heads b (n + 1)) ≡ length heads = length-set heads b (n + 1) in
    record {
      bound = λ b2. bound_by heads b n b2 h old.bound (cases_eq b2 b);
      head = λ b2 j hb low hj mb. head_by heads cell bucket_at more b n b2 j old h nb same
          (omega (arith, hb, len)) low hj mb (cases_eq b2 b) (cases_eq j n);
      head_in = λ b2 hb pos. head_in_by heads cell bucket_at more b n b2 old h nb same
          (omega (arith, hb, len)) pos (cases_eq b2 b);
      falls = λ i hi. falls_by heads cell next bucket_at b n i old c kept hi (cases_eq i n);
      gap = λ i j hi low hj mb. gap_by heads cell next bucket_at more b n i j old h nb same c kept
          hi low hj mb (cases_eq i n);
      cell_in = λ i hi pos. cell_in_by heads cell next bucket_at more b n i old h nb same c kept hi
          pos (cases_eq i n);
    }

-- chains of no node
pub chained_none : (heads : List ℕ) (cell bucket_at : ℕ → ℕ) → ((b : ℕ) → get_or heads b 0 ≡ 0)
    → Chained heads cell bucket_at 0
chained_none heads cell bucket_at empty = record {
  bound = λ b. omega (arith, empty b);
  head = λ b j hb low hj mb. omega (arith, hj);
  head_in = λ b hb pos. absurd (let e = empty b in omega (arith, pos, e));
  falls = λ i hi. absurd (omega (arith, hi));
  gap = λ i j hi low hj mb. omega (arith, hi);
  cell_in = λ i hi pos. absurd (omega (arith, hi));
}
