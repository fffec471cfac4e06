-- The different contexts of a suggestion, one by one.
use Rattle.std.proofs.Common.{◌≡◌, ◌<◌, ◌+◌, ◌++◌, ◌∷◌, [], ℕ, List, length, take, drop}
use Rattle.std.proofs.Common.{get_or, map, refl, sym, ap, ◌∙◌, Bool, true, false, not, ◌||◌}
use Rattle.std.proofs.Common.{◌&&◌, cond, append_assoc, subst}
use Rattle.std.specs.Prelude.{bytes_eq, filter}
use Rattle.std.specs.List.{list_any}
use Rattle.std.specs.Cmp.Lexicographic.{bytes_decides}
use Rattle.std.proofs.lemmas.List.{take_more, drop_more}
use Rattle.sg_paths.specs.Documents.{PlainDocument}
use Rattle.sg_paths.specs.Paths.{PlainPath, distinct_texts, paths, is_kept_over as kept_plain}
use Rattle.sg_paths.specs.Paths.{entries_from as plain_entries}
use Rattle.sg_paths.specs.AllPaths.{Entry, entry_of}
use Rattle.sg_paths.specs.Collected.{kept, is_kept_over as kept_entry}

-- those that aren't among the earlier
abbrev pub new_texts : List (List ℕ) → List (List ℕ) → List (List ℕ)
new_texts earlier texts = filter (λ x. not (list_any (λ c. bytes_eq c x) earlier)) texts

or_assoc : (a b c : Bool) → (a || (b || c)) ≡ ((a || b) || c)
or_assoc true b c = refl
or_assoc false b c = refl

any-append : (x : List ℕ) (xs ys : List (List ℕ))
    → list_any (λ c. bytes_eq c x) (xs ++ ys)
    ≡ (list_any (λ c. bytes_eq c x) xs || list_any (λ c. bytes_eq c x) ys)
any-append x [] ys = refl
any-append x (y ∷ xs) ys =
    ap (λ b. bytes_eq y x || b) (any-append x xs ys) ∙ or_assoc (bytes_eq y x) _ _

clash : false ≡ true → ⊥
clash e = cc

turn : (x y : List ℕ) (b c : Bool) → bytes_eq x y ≡ b → bytes_eq y x ≡ c → b ≡ c
turn x y true true e f = refl
turn x y true false e f =
    absurd (clash (sym f ∙ (bytes_decides y x).1 (sym ((bytes_decides x y).0 e))))
turn x y false true e f =
    absurd (clash (sym e ∙ (bytes_decides x y).1 (sym ((bytes_decides y x).0 f))))
turn x y false false e f = refl

pub same_way : (x y : List ℕ) → bytes_eq x y ≡ bytes_eq y x
same_way x y = turn x y (bytes_eq x y) (bytes_eq y x) refl refl

-- one of the two tests fails
join_at : (p q : List ℕ → Bool) (x : List ℕ) (xs : List (List ℕ)) (b d : Bool)
    → filter p (filter q xs) ≡ filter (λ y. p y && q y) xs → p x ≡ b
    → filter p (cond d (x ∷ filter q xs) (filter q xs))
    ≡ cond (b && d) (x ∷ filter (λ y. p y && q y) xs) (filter (λ y. p y && q y) xs)
join_at p q x xs true true ih e = rw e (ap (λ z. x ∷ z) ih)
join_at p q x xs false true ih e = rw e ih
join_at p q x xs true false ih e = ih
join_at p q x xs false false ih e = ih

pub filter-filter : (p q : List ℕ → Bool) (xs : List (List ℕ))
    → filter p (filter q xs) ≡ filter (λ y. p y && q y) xs
filter-filter p q [] = refl
filter-filter p q (x ∷ xs) = join_at p q x xs (p x) (q x) (filter-filter p q xs) refl

pub filter_same : (p q : List ℕ → Bool) (xs : List (List ℕ)) → ((x : List ℕ) → p x ≡ q x)
    → filter p xs ≡ filter q xs
filter_same p q [] h = refl
filter_same p q (x ∷ xs) h = rw (h x, filter_same p q xs h) refl

both_not : (a b : Bool) → (not a && not b) ≡ not (a || b)
both_not true b = refl
both_not false b = refl

or_false : (a : Bool) → (a || false) ≡ a
or_false true = refl
or_false false = refl

-- behind one more
pub new_rest : (earlier : List (List ℕ)) (t : List ℕ) (xs : List (List ℕ))
    → filter (λ x. not (list_any (λ c. bytes_eq c x) earlier)) (filter (λ o. not (bytes_eq o t)) xs)
    ≡ new_texts (earlier ++ t ∷ []) xs
new_rest earlier t xs =
    filter-filter (λ x. not (list_any (λ c. bytes_eq c x) earlier)) (λ o. not (bytes_eq o t)) xs
    ∙ filter_same _ _ xs (λ x. both_not (list_any (λ c. bytes_eq c x) earlier) (bytes_eq x t)
    ∙ ap not (ap (λ b. list_any (λ c. bytes_eq c x) earlier || b)
    (same_way x t ∙ sym (or_false (bytes_eq t x)))
    ∙ sym (any-append x earlier (t ∷ []))))

step_at : (earlier : List (List ℕ)) (t : List ℕ) (rest : List (List ℕ)) (b : Bool)
    → list_any (λ c. bytes_eq c t) earlier ≡ b
    → new_texts earlier (distinct_texts (t ∷ rest))
    ≡ cond b (new_texts (earlier ++ t ∷ []) (distinct_texts rest))
    (t ∷ new_texts (earlier ++ t ∷ []) (distinct_texts rest))
step_at earlier t rest true e = rw e (new_rest earlier t (distinct_texts rest))
step_at earlier t rest false e = rw e (ap (λ z. t ∷ z) (new_rest earlier t (distinct_texts rest)))

pub next_text : (ctxs : List (List ℕ)) (i : ℕ) (b : Bool) → i < length ctxs
    → list_any (λ c. bytes_eq c (get_or ctxs i [])) (take i ctxs) ≡ b
    → new_texts (take i ctxs) (distinct_texts (drop i ctxs))
    ≡ cond b (new_texts (take (i + 1) ctxs) (distinct_texts (drop (i + 1) ctxs)))
    (get_or ctxs i [] ∷ new_texts (take (i + 1) ctxs) (distinct_texts (drop (i + 1) ctxs)))
next_text ctxs i b h e =
    ap (λ z. new_texts (take i ctxs) (distinct_texts z)) (drop_more ctxs i [] h)
    ∙ step_at (take i ctxs) (get_or ctxs i []) (drop (i + 1) ctxs) b e
    ∙ ap (λ z. cond b (new_texts z (distinct_texts (drop (i + 1) ctxs)))
    (get_or ctxs i [] ∷ new_texts z (distinct_texts (drop (i + 1) ctxs))))
    (sym (take_more ctxs i [] h))

pub new_none : (xs : List (List ℕ)) → new_texts [] xs ≡ xs
new_none [] = refl
new_none (x ∷ xs) = ap (λ z. x ∷ z) (new_none xs)

-- one more item in, or none
pub pushed : {X Y : Type 0} (f : X → Y) (out whole : List Y) (x : X) (xs ys : List X)
    → out ++ map f xs ≡ whole → xs ≡ x ∷ ys
    → (out ++ f x ∷ []) ++ map f ys ≡ whole
pushed f out whole x xs ys e s =
    append_assoc out (f x ∷ []) (map f ys) ∙ ap (λ z. out ++ map f z) (sym s) ∙ e

pub skipped : {X Y : Type 0} (f : X → Y) (out whole : List Y) (xs ys : List X)
    → out ++ map f xs ≡ whole → xs ≡ ys → out ++ map f ys ≡ whole
skipped f out whole xs ys e s = ap (λ z. out ++ map f z) (sym s) ∙ e

append_nil : {Y : Type 0} (xs : List Y) → xs ++ [] ≡ xs
append_nil [] = refl
append_nil (x ∷ xs) = ap (λ z. x ∷ z) (append_nil xs)

more_by : {Y : Type 0} (f : List ℕ → Y) (out whole : List Y) (ctxs : List (List ℕ)) (i : ℕ)
    → i < length ctxs
    → out ++ map f (new_texts (take i ctxs) (distinct_texts (drop i ctxs))) ≡ whole
    → (b : Bool) → list_any (λ c. bytes_eq c (get_or ctxs i [])) (take i ctxs) ≡ b
    → (out ++ map f (cond b [] (get_or ctxs i [] ∷ [])))
    ++ map f (new_texts (take (i + 1) ctxs) (distinct_texts (drop (i + 1) ctxs))) ≡ whole
more_by f out whole ctxs i h e true k =
    ap (λ z. z ++ map f (new_texts (take (i + 1) ctxs) (distinct_texts (drop (i + 1) ctxs))))
    (append_nil out)
    ∙ skipped f out whole _ _ e (next_text ctxs i true h k)
more_by f out whole ctxs i h e false k =
    pushed f out whole (get_or ctxs i []) _ _ e (next_text ctxs i false h k)

-- one context more
pub more_texts : {Y : Type 0} (f : List ℕ → Y) (out new whole : List Y) (ctxs : List (List ℕ))
    (i : ℕ) → i < length ctxs
    → out ++ map f (new_texts (take i ctxs) (distinct_texts (drop i ctxs))) ≡ whole
    → new ≡ out
    ++ map f (cond (list_any (λ c. bytes_eq c (get_or ctxs i [])) (take i ctxs)) []
    (get_or ctxs i [] ∷ []))
    → new ++ map f (new_texts (take (i + 1) ctxs) (distinct_texts (drop (i + 1) ctxs))) ≡ whole
more_texts f out new whole ctxs i h e n =
    ap (λ z. z ++ map f (new_texts (take (i + 1) ctxs) (distinct_texts (drop (i + 1) ctxs)))) n
    ∙ more_by f out whole ctxs i h e (list_any (λ c. bytes_eq c (get_or ctxs i [])) (take i ctxs))
    refl

-- the same, of the item that the loop reads
pub more_texts_at : {Y : Type 0} (f : List ℕ → Y) (out new whole : List Y) (ctxs : List (List ℕ))
    (i : ℕ) (x : List ℕ) → i < length ctxs
    → x ≡ get_or ctxs i []
    → out ++ map f (new_texts (take i ctxs) (distinct_texts (drop i ctxs))) ≡ whole
    → new ≡ out ++ map f (cond (list_any (λ c. bytes_eq c x) (take i ctxs)) [] (x ∷ []))
    → new ++ map f (new_texts (take (i + 1) ctxs) (distinct_texts (drop (i + 1) ctxs))) ≡ whole
more_texts_at f out new whole ctxs i x h is e n =
    more_texts f out new whole ctxs i h e
    (subst (λ z. new ≡ out ++ map f (cond (list_any (λ c. bytes_eq c z) (take i ctxs)) [] (z ∷ [])))
    is n)

-- what is kept of a document's entries
kept_test : (doc : ℕ) (p q : PlainPath)
    → kept_entry (entry_of doc p) (entry_of doc q) ≡ kept_plain p q
kept_test doc p q = refl

any_map : (doc : ℕ) (q : PlainPath) (ps : List PlainPath)
    → list_any (λ p. kept_entry p (entry_of doc q)) (map (entry_of doc) ps)
    ≡ list_any (λ p. kept_plain p q) ps
any_map doc q [] = refl
any_map doc q (p ∷ ps) = ap (λ b. kept_plain p q || b) (any_map doc q ps)

filter_at : (doc : ℕ) (p : PlainPath) (b : Bool) (xs : List PlainPath) (ys : List Entry)
    → ys ≡ map (entry_of doc) xs
    → cond b (entry_of doc p ∷ ys) ys ≡ map (entry_of doc) (cond b (p ∷ xs) xs)
filter_at doc p true xs ys e = ap (λ z. entry_of doc p ∷ z) e
filter_at doc p false xs ys e = e

filter_map : (doc : ℕ) (all ps : List PlainPath)
    → filter (λ q. not (list_any (λ p. kept_entry p q) (map (entry_of doc) all)))
    (map (entry_of doc) ps)
    ≡ map (entry_of doc) (filter (λ q. not (list_any (λ p. kept_plain p q) all)) ps)
filter_map doc all [] = refl
filter_map doc all (p ∷ ps) =
    ap (λ b. cond (not b)
    (entry_of doc p ∷ filter
    (λ q. not (list_any (λ r. kept_entry r q) (map (entry_of doc) all)))
    (map (entry_of doc) ps))
    (filter (λ q. not (list_any (λ r. kept_entry r q) (map (entry_of doc) all)))
    (map (entry_of doc) ps))) (any_map doc p all)
    ∙ filter_at doc p (not (list_any (λ r. kept_plain r p) all)) _ _ (filter_map doc all ps)

pub kept-entries : (doc : ℕ) (d : PlainDocument)
    → kept (map (entry_of doc) (plain_entries 0 d.suggestions)) ≡ map (entry_of doc) (paths d)
kept-entries doc d = filter_map doc (plain_entries 0 d.suggestions) (plain_entries 0 d.suggestions)
