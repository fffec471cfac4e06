-- The items of a JSON list.
use Rattle.std.proofs.Common.{◌≡◌, ◌<◌, ℕ, Bool, true, false, ◌||◌, List, [], ◌∷◌, length, map}
use Rattle.std.proofs.Common.{get_or}
use Rattle.std.proofs.Common.{refl, ap, sym, ◌∙◌, arith}
use Rattle.std.specs.List.{list_all, list_any}
use Rattle.std.proofs.lemmas.List.Folds.{list_all-map, list_all_at, list_any_at}
use Rattle.serde_json.specs.Data.{Data}
use Rattle.serde_json.specs.View.{items_of, view}
use Rattle.serde_json.specs.declared.value.Value.{Value}
use Rattle.wire_json.specs.Members.{list_of}

pub items_listed : (ds : List Data) → list_of (items_of ds) ≡ ds
items_listed [] = refl
items_listed (d ∷ ds) = ap (λ (rest : List Data). d ∷ rest) (items_listed ds)

pub list_any-map : {X Y : Type 0} (p : X → Bool) (h : Y → X) (ys : List Y)
    → list_any p (map h ys) ≡ list_any (λ y. p (h y)) ys
list_any-map p h [] = refl
list_any-map p h (y ∷ ys) = ap (λ (b : Bool). p (h y) || b) (list_any-map p h ys)

-- a test of all items, or of some item, of a list of values
pub list_all_of_views : (p : Data → Bool) (vs : List Value)
    → list_all (λ v. p (view v)) vs ≡ list_all p (map view vs)
list_all_of_views p vs = sym (list_all-map p view vs)

pub list_any_of_views : (p : Data → Bool) (vs : List Value)
    → list_any (λ v. p (view v)) vs ≡ list_any p (map view vs)
list_any_of_views p vs = sym (list_any-map p view vs)

all_by : (p : Data → Bool) (vs : List Value) (i : ℕ) (v : Value) (b : Bool) → p (view v) ≡ b
    → i < length vs → v ≡ get_or vs i v → list_all p (map view vs) ≡ true → b ≡ true
all_by p vs i v true is within at all = refl
all_by p vs i v false is within at all =
    let none = list_all_at (λ w. p (view w)) vs i v within (ap (λ w. p (view w)) (sym at) ∙ is) in
    absurd (grind (arith, none, list_all_of_views p vs, all))

-- what all values have, each has
pub all_at : (p : Data → Bool) (vs : List Value) (i : ℕ) (v : Value) → i < length vs
    → v ≡ get_or vs i v → list_all p (map view vs) ≡ true → p (view v) ≡ true
all_at p vs i v within at all = all_by p vs i v (p (view v)) refl within at all

none_by : (p : Data → Bool) (vs : List Value) (i : ℕ) (v : Value) (b : Bool) → p (view v) ≡ b
    → i < length vs → v ≡ get_or vs i v → list_any p (map view vs) ≡ false → b ≡ false
none_by p vs i v false is within at none = refl
none_by p vs i v true is within at none =
    let some = list_any_at (λ w. p (view w)) vs i v within (ap (λ w. p (view w)) (sym at) ∙ is) in
    absurd (grind (arith, some, list_any_of_views p vs, none))

-- what no value has, each hasn't
pub none_at : (p : Data → Bool) (vs : List Value) (i : ℕ) (v : Value) → i < length vs
    → v ≡ get_or vs i v → list_any p (map view vs) ≡ false → p (view v) ≡ false
none_at p vs i v within at none = none_by p vs i v (p (view v)) refl within at none
