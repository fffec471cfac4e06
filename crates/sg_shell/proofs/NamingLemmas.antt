-- Named views, by the worker and by the lines.
use Rattle.std.proofs.Common.{◌≡◌, ℕ, Bool, true, false, cond, not, List, [], ◌∷◌, map, Option}
use Rattle.std.proofs.Common.{Some, refl, sym, ap, ◌∙◌}
use Rattle.std.specs.Prelude.{filter, option_map, bytes_eq}
use Rattle.sg_shell.specs.Workers.{Open, named, without_name}
use Rattle.sg_shell.specs.Sessions.{NamedView, view_named}
use Rattle.sg_shell.specs.RunLaws.{told}

named_told : (name : List ℕ) (kept : List Open)
    → option_map told (named name kept) ≡ view_named name (map told kept)
named_told name [] = refl
named_told name (o ∷ os) = by_test (bytes_eq o.name name) (named_told name os)
  where
    by_test : (b : Bool) → option_map told (named name os) ≡ view_named name (map told os)
        → option_map told (cond b (Some o) (named name os))
        ≡ cond b (Some (told o)) (view_named name (map told os))
    by_test true e = refl
    by_test false e = e

pub without_told : (name : List ℕ) (kept : List Open)
    → map told (without_name name kept)
    ≡ filter (λ v. not (bytes_eq v.name name)) (map told kept)
without_told name [] = refl
without_told name (o ∷ os) = by_test (bytes_eq o.name name) (without_told name os)
  where
    by_test : (b : Bool)
        → map told (without_name name os) ≡ filter (λ v. not (bytes_eq v.name name)) (map told os)
        → map told (cond (not b) (o ∷ without_name name os) (without_name name os))
        ≡ cond (not b) (told o ∷ filter (λ v. not (bytes_eq v.name name)) (map told os))
        (filter (λ v. not (bytes_eq v.name name)) (map told os))
    by_test true e = e
    by_test false e = ap (λ (vs : List NamedView). told o ∷ vs) e

-- the view of a name, by the lines
pub told_named : (name : List ℕ) (kept : List Open) (o : Option Open) → named name kept ≡ o
    → view_named name (map told kept) ≡ option_map told o
told_named name kept o is = sym (named_told name kept) ∙ ap (option_map told) is
