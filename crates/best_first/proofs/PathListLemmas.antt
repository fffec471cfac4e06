-- The list of all paths of documents is what a search needs of it.
use Rattle.std.proofs.Common.{◌≡◌, ◌≤◌, ◌<◌, ◌⊎◌, inl, inr, ℕ, Bool, true, false, ◌&&◌, ◌||◌}
use Rattle.std.proofs.Common.{nat_eq, nat_lt, Option, Some, None, List, [], ◌∷◌, ◌++◌, length, map}
use Rattle.std.proofs.Common.{refl, sym, ap, ◌∙◌, subst, arith}
use Rattle.std.specs.Cmp.Lexicographic.{bytes_decides}
use Rattle.std.specs.Prelude.{count_by, bytes_eq}
use Rattle.std.proofs.lemmas.Bool.{cases_order, and_parts, and_from}
use Rattle.std.proofs.lemmas.Bool.Decides.{nat_tests}
use Rattle.std.proofs.lemmas.List.{append-nil}
use Rattle.std.proofs.lemmas.List.Elements.{recursion_from_All}
use Rattle.std.proofs.lemmas.List.Sums.{count_by-le-length, length-filter}
use Rattle.sg_base.specs.ByteStrings.{is_less}
use Rattle.sg_base.specs.Lists.{In}
use Rattle.sg_base.specs.Ranking.{in_order}
use Rattle.sg_base.proofs.ByteStringLemmas.{slice-less}
use Rattle.sg_base.proofs.InOrderLemmas.{in-in_order}
use Rattle.sg_base.proofs.ListLemmas.{each_in}
use Rattle.sg_paths.specs.AllPaths.{Entry, FullPath, path_entries, entry_cmp, is_alike}
use Rattle.sg_paths.specs.AllPaths.{number_after, numbered, all_paths, path_bytes}
use Rattle.sg_paths.specs.Operations.{PlainNumbered}
use Rattle.sg_paths.specs.PathLaws.{IsAhead, IsLegal, RisesFrom, Rises, comes_before}
use Rattle.sg_paths.proofs.NumberLemmas.{numbers_count}
use Rattle.sg_paths.proofs.RiseLemmas.{legal_clean, paths_rise, length-all_paths}
use Rattle.sg_answers.proofs.TakingLemmas.{filter_weaker}
use Rattle.fst_walk.proofs.AscendingLemmas.{less_trans, not_less_both}
use Rattle.best_first.specs.Parts.{AreDocuments}
use Rattle.best_first.proofs.Grounds.{IsPathList}

-- each path is one of the entries
entry_in : (last : Option (Entry × ℕ)) (es : List Entry) (p : FullPath) → In p (numbered last es)
    → In p.entry es
entry_in last [] p i = elim i [ ]
entry_in last (e ∷ es) p (inl i) = inl (ap (λ (z : FullPath). z.entry) i)
entry_in last (e ∷ es) p (inr i) = inr (entry_in (Some (e, number_after last e)) es p i)

pub path_entry : (ds : List PlainNumbered) (p : FullPath) → In p (all_paths ds)
    → In p.entry (path_entries 0 ds)
path_entry ds p i =
    in-in_order entry_cmp p.entry (path_entries 0 ds)
    (entry_in None (in_order entry_cmp (path_entries 0 ds)) p i)

-- what rises has each text once
less_of : (x y : List ℕ) → IsAhead x y → is_less x y ≡ true
less_of x y h =
    subst (λ z. is_less z y ≡ true) (append-nil x) (sym (slice-less (x ++ []) y) ∙ h [])

later_bytes : (x : List ℕ) (ps : List FullPath) → RisesFrom x (map path_bytes ps)
    → (r : FullPath) → In r ps → is_less x (path_bytes r) ≡ true
later_bytes x [] h r i = elim i [ ]
later_bytes x (p ∷ ps) h r (inl i) =
    subst (λ (z : FullPath). is_less x (path_bytes z) ≡ true) (sym i)
    (less_of x (path_bytes p) h.0)
later_bytes x (p ∷ ps) h r (inr i) =
    less_trans x (path_bytes p) (path_bytes r) (less_of x (path_bytes p) h.0)
    (later_bytes (path_bytes p) ps h.1 r i)

tail_rises : (x : List ℕ) (ps : List FullPath) → RisesFrom x (map path_bytes ps)
    → Rises (map path_bytes ps)
tail_rises x [] h = tt
tail_rises x (p ∷ ps) h = h.1

not_same : (x y : List ℕ) → is_less x y ≡ true → x ≡ y → ⊥
not_same x y h e =
    let k = subst (λ z. is_less x z ≡ true) (sym e) h in not_less_both x x k k

once_in : (ps : List FullPath) → Rises (map path_bytes ps) → (p r : FullPath) → In p ps → In r ps
    → path_bytes p ≡ path_bytes r → p ≡ r
once_in [] h p r i j e = elim i [ ]
once_in (x ∷ ps) h p r (inl i) (inl j) e = i ∙ sym j
once_in (x ∷ ps) h p r (inl i) (inr j) e =
    absurd (not_same (path_bytes x) (path_bytes r) (later_bytes (path_bytes x) ps h r j)
    (ap path_bytes (sym i) ∙ e))
once_in (x ∷ ps) h p r (inr i) (inl j) e =
    absurd (not_same (path_bytes x) (path_bytes p) (later_bytes (path_bytes x) ps h p i)
    (ap path_bytes (sym j) ∙ sym e))
once_in (x ∷ ps) h p r (inr i) (inr j) e = once_in ps (tail_rises (path_bytes x) ps h) p r i j e

-- numbers: what comes before a path that doesn't come before another comes before the other too
number_is : (ds : List PlainNumbered) (p : FullPath) → In p (all_paths ds)
    → p.n ≡ count_by (λ e. comes_before e p.entry) (path_entries 0 ds)
number_is ds p i =
    let P : FullPath → Type 0 =
    λ q. q.n ≡ count_by (λ e. comes_before e q.entry) (path_entries 0 ds) in
    each_in P p (all_paths ds) (recursion_from_All P (all_paths ds) (numbers_count ds)) i

pub small_number : (ds : List PlainNumbered) → length (path_entries 0 ds) ≤ 4194304
    → (p : FullPath) → In p (all_paths ds) → p.n < 4294967296
small_number ds few p i =
    let e = number_is ds p i in
    let h = count_by-le-length (λ e. comes_before e p.entry) (path_entries 0 ds) in
    omega (arith, e, h, few)

-- a greater weight, or the same and a lesser document
abbrev pub Leads : Entry → Entry → Type 0
Leads e f = (f.weight < e.weight) ⊎ ((e.weight ≡ f.weight) × (e.doc < f.doc))

leads_of : (a b c : Bool) (e f : Entry) → nat_lt f.weight e.weight ≡ a
    → nat_eq e.weight f.weight ≡ b → nat_lt e.doc f.doc ≡ c → (a || (b && c)) ≡ true → Leads e f
leads_of true b c e f p q r h = inl (grind (arith, nat_tests))
leads_of false true true e f p q r h = inr (grind (arith, nat_tests), grind (arith, nat_tests))
leads_of false true false e f p q r h = cc
leads_of false false c e f p q r h = cc

tests_of : (e f : Entry) → Leads e f
    → (nat_lt f.weight e.weight || (nat_eq e.weight f.weight && nat_lt e.doc f.doc)) ≡ true
tests_of e f (inl h) =
    let l : nat_lt f.weight e.weight ≡ true = grind (arith, nat_tests) in
    rw l refl
tests_of e f (inr h) =
    let w = h.0 in
    let d = h.1 in
    let n : nat_lt f.weight e.weight ≡ false = grind (arith, nat_tests) in
    let s : nat_eq e.weight f.weight ≡ true = grind (arith, nat_tests) in
    let l : nat_lt e.doc f.doc ≡ true = grind (arith, nat_tests) in
    rw (n, s, l) refl

leads_by : (e p r : Entry) → (Leads p r → ⊥) → (p.weight ≡ r.weight) ⊎ ((p.weight < r.weight)
    ⊎ (r.weight < p.weight)) → Leads e r → Leads e p
leads_by e p r behind (inr (inr l)) h = absurd (behind (inl l))
leads_by e p r behind (inr (inl l)) (inl h) = inl (omega (arith, l, h))
leads_by e p r behind (inr (inl l)) (inr h) = let w = h.0 in inl (omega (arith, l, w))
leads_by e p r behind (inl l) (inl h) = inl (omega (arith, l, h))
leads_by e p r behind (inl l) (inr h) =
    let w = h.0 in
    let d = h.1 in
    inr (omega (arith, l, w), docs (cases_order p.doc r.doc))
  where
    docs : (p.doc ≡ r.doc) ⊎ ((p.doc < r.doc) ⊎ (r.doc < p.doc)) → e.doc < p.doc
    docs (inl s) = let d = h.1 in omega (arith, s, d)
    docs (inr (inl s)) = absurd (behind (inr (l, s)))
    docs (inr (inr s)) = let d = h.1 in omega (arith, s, d)

comes_of : (p r e : Entry) → p.context ≡ r.context → p.key ≡ r.key → (Leads p r → ⊥)
    → comes_before e r ≡ true → comes_before e p ≡ true
comes_of p r e c k behind h =
    let x = and_parts (is_alike e r) _ h in
    let y = and_parts (bytes_eq e.context r.context) (bytes_eq e.key r.key) x.0 in
    let alike : is_alike e p ≡ true =
    and_from (bytes_eq e.context p.context) (bytes_eq e.key p.key)
    ((bytes_decides e.context p.context).1 ((bytes_decides e.context r.context).0 y.0 ∙ sym c))
    ((bytes_decides e.key p.key).1 ((bytes_decides e.key r.key).0 y.1 ∙ sym k)) in
    let leads : Leads e r =
    leads_of (nat_lt r.weight e.weight) (nat_eq e.weight r.weight) (nat_lt e.doc r.doc) e r refl
    refl refl x.1 in
    and_from (is_alike e p) _ alike
    (tests_of e p (leads_by e p r behind (cases_order p.weight r.weight) leads))

no_more : (ds : List PlainNumbered) (p r : FullPath) → In p (all_paths ds) → In r (all_paths ds)
    → p.entry.context ≡ r.entry.context → p.entry.key ≡ r.entry.key
    → (Leads p.entry r.entry → ⊥) → r.n ≤ p.n
no_more ds p r i j c k behind =
    let es : List Entry = path_entries 0 ds in
    let a = number_is ds p i in
    let b = number_is ds r j in
    let h = filter_weaker (λ e. comes_before e r.entry) (λ e. comes_before e p.entry) es
    (λ e. comes_of p.entry r.entry e c k behind) in
    let m = length-filter (λ e. comes_before e r.entry) es in
    let n = length-filter (λ e. comes_before e p.entry) es in
    omega (arith, a, b, h, m, n)

leads_or : (e f : Entry) → Leads e f ⊎ (Leads e f → ⊥)
leads_or e f = by (cases_order e.weight f.weight) (cases_order e.doc f.doc)
  where
    by : (e.weight ≡ f.weight) ⊎ ((e.weight < f.weight) ⊎ (f.weight < e.weight))
        → (e.doc ≡ f.doc) ⊎ ((e.doc < f.doc) ⊎ (f.doc < e.doc))
        → Leads e f ⊎ (Leads e f → ⊥)
    by (inr (inr l)) d = inl (inl l)
    by (inl s) (inr (inl d)) = inl (inr (s, d))
    by (inl s) (inl d) = inr (λ h. elim h as (λ _. ⊥) [
      | inl l ↦ omega (arith, s, l)
      | inr l ↦ let m = l.1 in omega (arith, d, m)
    ])
    by (inl s) (inr (inr d)) = inr (λ h. elim h as (λ _. ⊥) [
      | inl l ↦ omega (arith, s, l)
      | inr l ↦ let m = l.1 in omega (arith, d, m)
    ])
    by (inr (inl l)) d = inr (λ h. elim h as (λ _. ⊥) [
      | inl m ↦ omega (arith, l, m)
      | inr m ↦ let n = m.0 in omega (arith, l, n)
    ])

numbers_lead : (ds : List PlainNumbered) (p r : FullPath) → In p (all_paths ds)
    → In r (all_paths ds) → p.entry.context ≡ r.entry.context → p.entry.key ≡ r.entry.key
    → p.n < r.n → Leads p.entry r.entry
numbers_lead ds p r i j c k l =
    elim (leads_or p.entry r.entry) as (λ _. Leads p.entry r.entry) [
      | inl h ↦ h
      | inr behind ↦ let h = no_more ds p r i j c k behind in absurd (omega (arith, h, l))
    ]

pub few_entries : (ds : List PlainNumbered) → AreDocuments ds
    → length (path_entries 0 ds) ≤ 4194304
few_entries ds a =
    let l = length-all_paths ds in
    let f = a.few in
    omega (arith, l, f)

pub is_path_list : (ds : List PlainNumbered) → AreDocuments ds → IsPathList (all_paths ds)
is_path_list ds a =
    let legal : (p : FullPath) → In p (all_paths ds) → IsLegal p.entry =
    λ p i. each_in (λ (q : FullPath). IsLegal q.entry) p (all_paths ds) a.legal i in
    record {
      clean = λ p i. legal_clean p.entry (legal p i);
      light = λ p i. (legal p i).weight;
      small = small_number ds (few_entries ds a);
      once = once_in (all_paths ds) (paths_rise ds a.legal (few_entries ds a));
      numbers = numbers_lead ds;
    }
