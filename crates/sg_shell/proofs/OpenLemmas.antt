-- The named views of a worker are the open ones: numbers, names, and what a begin and an end do.
use Rattle.std.proofs.Common.{◌≡◌, ◌≤◌, ◌<◌, ◌+◌, ℕ, Bool, true, false, cond, not, nat_eq, List, []}
use Rattle.std.proofs.Common.{◌∷◌, ◌++◌, length, Some, None, refl, sym, ap, ◌∙◌, subst, arith}
use Rattle.std.specs.Prelude.{filter, bytes_eq}
use Rattle.std.specs.List.{AllByRecursion, filter_map}
use Rattle.std.specs.Cmp.Lexicographic.{nat_list_eq_equiv, bytes_decides}
use Rattle.std.proofs.lemmas.Bool.Decides.{nat_tests}
use Rattle.std.proofs.lemmas.List.{length-append}
use Rattle.std.proofs.lemmas.List.Elements.{filter_map-append}
use Rattle.index_core.specs.Histories.{view_end, Record, View, is_among}
use Rattle.index_core.specs.Histories.{begun_view, ended_view, begun_views}
use Rattle.index_core.specs.Records.{with_event, next_view}
use Rattle.index_core.specs.OpenViews.{without}
use Rattle.index_core.specs.Calls.{beginning}
use Rattle.index_core.proofs.HistoryLemmas.{skips}
use Rattle.index_core.proofs.ViewLemmas.{open_views-begin, open_views-end}
use Rattle.sg_shell.specs.Workers.{Open, named, without_name}
use Rattle.sg_shell.specs.Working.{Quiet, Views, views_of, IsApart, AreApart}

pub quiet_views : (r s : Record) (kept : List View) → Quiet r s → Views r.history kept
    → Views s.history kept
quiet_views r s kept quiet views =
    let count : length (begun_views r.history) ≡ length (begun_views s.history) =
    sym (ap (λ (vs : List View). length vs) quiet.begun) in
    record {
      are_open = rw (quiet.begun, quiet.ended) views.are_open;
      ended = subst (AllByRecursion (λ n. n ≤ length (begun_views s.history))) (sym quiet.ended)
          (subst (λ (k : ℕ). AllByRecursion (λ n. n ≤ k) (filter_map ended_view r.history)) count
          views.ended);
      below = subst (λ (k : ℕ). AllByRecursion (λ v. v.view ≤ k) kept) count views.below;
    }

more_numbers : (m n : ℕ) (ns : List ℕ) → m ≤ n → AllByRecursion (λ k. k ≤ m) ns
    → AllByRecursion (λ k. k ≤ n) ns
more_numbers m n [] h all = tt
more_numbers m n (k ∷ ks) h all = (omega (arith, h, all.0), more_numbers m n ks h all.1)

more_views : (m n : ℕ) (vs : List View) → m ≤ n → AllByRecursion (λ v. v.view ≤ m) vs
    → AllByRecursion (λ v. v.view ≤ n) vs
more_views m n [] h all = tt
more_views m n (v ∷ vs) h all = (omega (arith, h, all.0), more_views m n vs h all.1)

one_number : (n k : ℕ) (ns : List ℕ) → AllByRecursion (λ m. m ≤ n) ns → k ≤ n
    → AllByRecursion (λ m. m ≤ n) (ns ++ k ∷ [])
one_number n k [] all h = (h, tt)
one_number n k (m ∷ ms) all h = (all.0, one_number n k ms all.1 h)

one_view : (n : ℕ) (w : View) (vs : List View) → AllByRecursion (λ v. v.view ≤ n) vs → w.view ≤ n
    → AllByRecursion (λ v. v.view ≤ n) (vs ++ w ∷ [])
one_view n w [] all h = (h, tt)
one_view n w (v ∷ vs) all h = (all.0, one_view n w vs all.1 h)

fewer_views : (n k : ℕ) (vs : List View) → AllByRecursion (λ v. v.view ≤ n) vs
    → AllByRecursion (λ v. v.view ≤ n) (without k vs)
fewer_views n k [] all = tt
fewer_views n k (v ∷ vs) all = by_test (nat_eq v.view k) (fewer_views n k vs all.1)
  where
    by_test : (b : Bool) → AllByRecursion (λ w. w.view ≤ n) (without k vs)
        → AllByRecursion (λ w. w.view ≤ n) (cond (not b) (v ∷ without k vs) (without k vs))
    by_test true later = later
    by_test false later = (all.0, later)

not_ended : (n k : ℕ) (ns : List ℕ) → AllByRecursion (λ m. m ≤ n) ns → n < k
    → is_among k ns ≡ false
not_ended n k [] all h = refl
not_ended n k (m ∷ ms) all h =
    let less : m ≤ n = all.0 in
    let other : nat_eq k m ≡ false = grind (arith, nat_tests, less, h) in
    rw other (not_ended n k ms all.1 h)

pub begin_views : (r : Record) (kept : List View) (v : View) → v.view ≡ next_view r
    → Views r.history kept → Views (with_event r (beginning v)).history (kept ++ v ∷ [])
begin_views r kept v is views =
    let h = r.history in
    let n : ℕ = length (begun_views h) in
    let begun : begun_views (h ++ beginning v ∷ []) ≡ begun_views h ++ v ∷ [] =
    filter_map-append begun_view h (beginning v ∷ []) in
    let count : length (begun_views (h ++ beginning v ∷ [])) ≡ n + 1 =
    (let e = ap (λ (vs : List View). length vs) begun in
    let k = length-append (begun_views h) (v ∷ []) in omega (arith, e, k)) in
    record {
      are_open =
          open_views-begin h v (not_ended n v.view (filter_map ended_view h) views.ended
          (omega (arith, is)))
          ∙ ap (λ (vs : List View). vs ++ v ∷ []) views.are_open;
      ended = subst (AllByRecursion (λ m. m ≤ length (begun_views (h ++ beginning v ∷ []))))
          (sym (skips ended_view h (beginning v) refl))
          (more_numbers n (length (begun_views (h ++ beginning v ∷ []))) (filter_map ended_view h)
          (omega (arith, count)) views.ended);
      below = one_view (length (begun_views (h ++ beginning v ∷ []))) v kept
          (more_views n (length (begun_views (h ++ beginning v ∷ []))) kept (omega (arith, count))
          views.below) (omega (arith, count, is));
    }

pub end_views : (r : Record) (kept : List View) (caller k : ℕ) (gone : List ℕ)
    → k ≤ length (begun_views r.history) → Views r.history kept
    → Views (with_event r (view_end caller k gone)).history (without k kept)
end_views r kept caller k gone known views =
    let h = r.history in
    let e = view_end caller k gone in
    let begun : begun_views (h ++ e ∷ []) ≡ begun_views h = skips begun_view h e refl in
    let count : length (begun_views h) ≡ length (begun_views (h ++ e ∷ [])) =
    sym (ap (λ (vs : List View). length vs) begun) in
    record {
      are_open = open_views-end h caller k gone ∙ ap (without k) views.are_open;
      ended = subst (AllByRecursion (λ m. m ≤ length (begun_views (h ++ e ∷ []))))
          (sym (filter_map-append ended_view h (e ∷ [])))
          (subst (λ (n : ℕ). AllByRecursion (λ m. m ≤ n) (filter_map ended_view h ++ k ∷ [])) count
          (one_number (length (begun_views h)) k (filter_map ended_view h) views.ended known));
      below = subst (λ (n : ℕ). AllByRecursion (λ v. v.view ≤ n) (without k kept)) count
          (fewer_views (length (begun_views h)) k kept views.below);
    }

-- ---- named views

pub found_one : (P : Open → Type 0) (name : List ℕ) (kept : List Open) (o : Open)
    → named name kept ≡ Some o → AllByRecursion P kept → P o
found_one P name [] o is all = absurd (let no : None ≡ Some o = is in cc)
found_one P name (p ∷ ps) o is all =
    by_test (bytes_eq p.name name) is (λ e. found_one P name ps o e all.1)
  where
    by_test : (b : Bool) → cond b (Some p) (named name ps) ≡ Some o
        → (named name ps ≡ Some o → P o) → P o
    by_test true e again = let same : p ≡ o = cc in subst P same all.0
    by_test false e again = again e

pub found_view : (P : View → Type 0) (name : List ℕ) (kept : List Open) (o : Open)
    → named name kept ≡ Some o → AllByRecursion P (views_of kept) → P o.view
found_view P name [] o is all = absurd (let no : None ≡ Some o = is in cc)
found_view P name (p ∷ ps) o is all =
    by_test (bytes_eq p.name name) is (λ e. found_view P name ps o e all.1)
  where
    by_test : (b : Bool) → cond b (Some p) (named name ps) ≡ Some o
        → (named name ps ≡ Some o → P o.view) → P o.view
    by_test true e again = let same : p ≡ o = cc in subst (λ (q : Open). P q.view) same all.0
    by_test false e again = again e

no_other_name : (o : Open) (os : List Open) → AllByRecursion (IsApart o) os
    → without_name o.name os ≡ os
no_other_name o [] all = refl
no_other_name o (p ∷ ps) all =
    rw all.0.0 (ap (λ (qs : List Open). p ∷ qs) (no_other_name o ps all.1))

no_other_number : (o : Open) (os : List Open) → AllByRecursion (IsApart o) os
    → without o.view.view (views_of os) ≡ views_of os
no_other_number o [] all = refl
no_other_number o (p ∷ ps) all =
    rw all.0.1 (ap (λ (vs : List View). p.view ∷ vs) (no_other_number o ps all.1))

-- by its name or by its number, one view is taken away
pub close_one : (name : List ℕ) (kept : List Open) (o : Open) → named name kept ≡ Some o
    → AreApart kept → views_of (without_name name kept) ≡ without o.view.view (views_of kept)
close_one name [] o is apart = refl
close_one name (p ∷ ps) o is apart =
    by_test (bytes_eq p.name name) refl is (λ e. close_one name ps o e apart.1)
  where
    by_test : (b : Bool) → bytes_eq p.name name ≡ b → cond b (Some p) (named name ps) ≡ Some o
        → (named name ps ≡ Some o
        → views_of (without_name name ps) ≡ without o.view.view (views_of ps))
        → views_of (cond (not (bytes_eq p.name name)) (p ∷ without_name name ps)
        (without_name name ps))
        ≡ cond (not (nat_eq p.view.view o.view.view)) (p.view ∷ without o.view.view (views_of ps))
        (without o.view.view (views_of ps))
    by_test true here e again =
        let same : p ≡ o = cc in
        let named_so : p.name ≡ name = (bytes_decides p.name name).0 here in
        let number : nat_eq p.view.view o.view.view ≡ true =
        (let one : p.view.view ≡ o.view.view = ap (λ (q : Open). q.view.view) same in
        grind (arith, nat_tests, one)) in
        rw (here, number)
        (ap views_of (ap (λ (x : List ℕ). without_name x ps) (sym named_so)
        ∙ no_other_name p ps apart.0)
        ∙ sym (no_other_number p ps apart.0)
        ∙ ap (λ (q : Open). without q.view.view (views_of ps)) same)
    by_test false here e again =
        let other : nat_eq o.view.view p.view.view ≡ false =
        (found_one (IsApart p) name ps o e apart.0).1 in
        let other' : nat_eq p.view.view o.view.view ≡ false = grind (arith, nat_tests, other) in
        rw (here, other') (ap (λ (vs : List View). p.view ∷ vs) (again e))

pub kept_all : (P : Open → Type 0) (t : Open → Bool) (os : List Open) → AllByRecursion P os
    → AllByRecursion P (filter t os)
kept_all P t [] all = tt
kept_all P t (o ∷ os) all = by_test (t o) (kept_all P t os all.1)
  where
    by_test : (b : Bool) → AllByRecursion P (filter t os)
        → AllByRecursion P (cond b (o ∷ filter t os) (filter t os))
    by_test true later = (all.0, later)
    by_test false later = later

pub apart_without : (name : List ℕ) (kept : List Open) → AreApart kept
    → AreApart (without_name name kept)
apart_without name [] apart = tt
apart_without name (o ∷ os) apart =
    by_test (bytes_eq o.name name) (apart_without name os apart.1)
    (kept_all (IsApart o) (λ p. not (bytes_eq p.name name)) os apart.0)
  where
    by_test : (b : Bool) → AreApart (without_name name os)
        → AllByRecursion (IsApart o) (without_name name os)
        → AreApart (cond (not b) (o ∷ without_name name os) (without_name name os))
    by_test true later here = later
    by_test false later here = (here, later)

pub last_too : (P : Open → Type 0) (os : List Open) (o : Open) → AllByRecursion P os → P o
    → AllByRecursion P (os ++ o ∷ [])
last_too P [] o all last = (last, tt)
last_too P (p ∷ ps) o all last = (all.0, last_too P ps o all.1 last)

-- a new name and a new number
pub apart_more : (n : ℕ) (o : Open) (kept : List Open) → named o.name kept ≡ None
    → AllByRecursion (λ v. v.view ≤ n) (views_of kept) → n < o.view.view → AreApart kept
    → AreApart (kept ++ o ∷ [])
apart_more n o [] new below more apart = (tt, tt)
apart_more n o (p ∷ ps) new below more apart =
    by_test (bytes_eq p.name o.name) refl new (λ e. apart_more n o ps e below.1 more apart.1)
  where
    by_test : (b : Bool) → bytes_eq p.name o.name ≡ b
        → cond b (Some p) (named o.name ps) ≡ None
        → (named o.name ps ≡ None → AreApart (ps ++ o ∷ []))
        → AllByRecursion (IsApart p) (ps ++ o ∷ []) × AreApart (ps ++ o ∷ [])
    by_test true here e again = let no : Some p ≡ None = e in cc
    by_test false here e again =
        let less : p.view.view ≤ n = below.0 in
        let number : nat_eq o.view.view p.view.view ≡ false =
        grind (arith, nat_tests, less, more) in (
          last_too (IsApart p) ps o apart.0 (nat_list_eq_equiv.symm o.name p.name ∙ here, number),
          again e,
        )

pub newest : (vs : List View) (v : View) (n : ℕ) → AllByRecursion (λ w. w.view ≤ n) (vs ++ v ∷ [])
    → v.view ≤ n
newest [] v n all = all.0
newest (w ∷ ws) v n all = newest ws v n all.1
