-- The documents with one id stand side by side in the index, in the order of their places.
use Rattle.std.proofs.Common.{◌≡◌, ◌<◌, ◌+◌, ℕ, Bool, true, false}
use Rattle.std.proofs.Common.{cond, List, [], ◌∷◌, map}
use Rattle.std.proofs.Common.{filter}
use Rattle.std.proofs.Common.{refl, ap, ◌∙◌, arith}
use Rattle.std.specs.Prelude.{bytes_eq}
use Rattle.std.specs.Cmp.Lexicographic.{slice_cmp, bytes_decides}
use Rattle.std.specs.Ordering.{nat_cmp, is_lt, ordering_then}
use Rattle.std.specs.declared.cmp.Ordering.TheVariants.{Greater}
use Rattle.std.proofs.lemmas.Cmp.{nat_list_cmp_total, tied_itself}
use Rattle.std.proofs.lemmas.Bool.{ne_eqb, le-ltb}
use Rattle.sg_base.proofs.Sorting.{NoneBelow, Rises}
use Rattle.sg_paths.specs.Operations.{PlainNumbered}
use Rattle.seg_table.specs.Ids.{IdPlace, id_cmp, id_cmp_total, placed_from, places_from}
use Rattle.seg_table.proofs.OrderLemmas.{id_cmp_exact}

nat_more : (x y : ℕ) → y < x → nat_cmp x y ≡ Greater
nat_more x y h = rw (le-ltb x y (omega (arith, h)), ne_eqb x y (λ e. omega (arith, e, h))) refl

not_below : (q : List ℕ) (x y : IdPlace) → x.id ≡ q → y.id ≡ q → x.place < y.place
    → is_lt (id_cmp y x) ≡ false
not_below q x y a b l =
    ap (λ z. is_lt (ordering_then (slice_cmp nat_cmp z x.id) (nat_cmp y.place x.place))) b
    ∙ ap (λ z. is_lt (ordering_then (slice_cmp nat_cmp q z) (nat_cmp y.place x.place))) a
    ∙ ap (λ o. is_lt (ordering_then o (nat_cmp y.place x.place))) (tied_itself nat_list_cmp_total q)
    ∙ ap is_lt (nat_more y.place x.place l)

none_placed_at : (q : List ℕ) (x y : IdPlace) (ys : List IdPlace) (b : Bool) → bytes_eq y.id q ≡ b
    → x.id ≡ q → x.place < y.place
    → NoneBelow id_cmp id_cmp_total id_cmp_exact x ys
    → NoneBelow id_cmp id_cmp_total id_cmp_exact x (cond b (y ∷ ys) ys)
none_placed_at q x y ys true is a l h = (not_below q x y a ((bytes_decides y.id q).0 is) l, h)
none_placed_at q x y ys false is a l h = h

none_placed : (q : List ℕ) (x : IdPlace) (m : ℕ) (ds : List PlainNumbered) → x.id ≡ q → x.place < m
    → NoneBelow id_cmp id_cmp_total id_cmp_exact x
    (filter (λ p. bytes_eq p.id q) (placed_from m ds))
none_placed q x m [] a l = tt
none_placed q x m (d ∷ ds) a l =
    none_placed_at q x (record { id = d.document.id; place = m })
    (filter (λ p. bytes_eq p.id q) (placed_from (m + 1) ds))
    (bytes_eq d.document.id q) refl a l (none_placed q x (m + 1) ds a (omega (arith, l)))

rises_placed_at : (q : List ℕ) (x : IdPlace) (n : ℕ) (ds : List PlainNumbered) (b : Bool)
    → bytes_eq x.id q ≡ b → x.place < n
    → Rises id_cmp id_cmp_total id_cmp_exact (filter (λ p. bytes_eq p.id q) (placed_from n ds))
    → Rises id_cmp id_cmp_total id_cmp_exact
    (cond b (x ∷ filter (λ p. bytes_eq p.id q) (placed_from n ds))
    (filter (λ p. bytes_eq p.id q) (placed_from n ds)))
rises_placed_at q x n ds true is l r = (none_placed q x n ds ((bytes_decides x.id q).0 is) l, r)
rises_placed_at q x n ds false is l r = r

pub rises_placed : (q : List ℕ) (n : ℕ) (ds : List PlainNumbered)
    → Rises id_cmp id_cmp_total id_cmp_exact (filter (λ p. bytes_eq p.id q) (placed_from n ds))
rises_placed q n [] = tt
rises_placed q n (d ∷ ds) =
    rises_placed_at q (record { id = d.document.id; place = n }) (n + 1) ds
    (bytes_eq d.document.id q) refl (omega arith)
    (rises_placed q (n + 1) ds)

map_placed_at : (n : ℕ) (i : List ℕ) (xs : List IdPlace) (ys : List ℕ) (b : Bool)
    → map (λ p. p.place) xs ≡ ys
    → map (λ (p : IdPlace). p.place) (cond b (record { id = i; place = n } ∷ xs) xs)
    ≡ cond b (n ∷ ys) ys
map_placed_at n i xs ys true h = ap (λ z. n ∷ z) h
map_placed_at n i xs ys false h = h

pub map_placed : (q : List ℕ) (n : ℕ) (ds : List PlainNumbered)
    → map (λ p. p.place) (filter (λ p. bytes_eq p.id q) (placed_from n ds))
    ≡ places_from n (λ d. bytes_eq d.document.id q) ds
map_placed q n [] = refl
map_placed q n (d ∷ ds) =
    map_placed_at n d.document.id (filter (λ p. bytes_eq p.id q) (placed_from (n + 1) ds)) _
    (bytes_eq d.document.id q) (map_placed q (n + 1) ds)
