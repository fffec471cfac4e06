-- The entries and the weight of a suggestion.
use Rattle.std.proofs.Common.{◌≡◌, ◌<◌, ◌+◌, ◌^◌, ℕ, Bool, true, false, List, [], ◌∷◌}
use Rattle.std.proofs.Common.{◌++◌, length, take, get_or, map, Option, Some, None, option_map}
use Rattle.std.proofs.Common.{option_to_list, option_and_then, refl, sym, ap, ◌∙◌, append_assoc}
use Rattle.std.proofs.Common.{arith}
use Rattle.std.proofs.Common.{eqb, leb}
use Rattle.std.specs.List.{filter_map, list_all}
use Rattle.std.specs.Char.{digit_value}
use Rattle.std.specs.Str.Parse.{AllDigits, IsNumeral, digits_value, without_leading_plus}
use Rattle.std.proofs.lemmas.List.{map_more, map-append}
use Rattle.std.proofs.lemmas.List.Elements.{filter_map-append}
use Rattle.serde_json.specs.Data.{Data}
use Rattle.serde_json.specs.Find.{as_str}
use Rattle.serde_json.specs.View.{view}
use Rattle.serde_json.specs.declared.value.Value.{Value}
use Rattle.sg_base.specs.declared.limits.TheConstants.{MOST_WEIGHT}
use Rattle.wire_json.specs.Suggested.{entry_of, is_digit, are_digits, number_of_digits}
use Rattle.wire_json.specs.Suggested.{weight_upto}

entries_by : (g : Data) (o : Option (List ℕ)) → (d : Data) → as_str d ≡ o
    → map (entry_of g) (filter_map as_str (d ∷ [])) ≡ option_to_list (option_map (entry_of g) o)
entries_by g None d is = rw is refl
entries_by g (Some t) d is = rw is refl

-- the entries of one text more
pub entries_more : (g : Data) (vs : List Value) (i : ℕ) (v : Value) → i < length vs
    → v ≡ get_or vs i v
    → map (entry_of g) (filter_map as_str (map view (take (i + 1) vs)))
    ≡ map (entry_of g) (filter_map as_str (map view (take i vs)))
    ++ option_to_list (option_map (entry_of g) (as_str (view v)))
entries_more g vs i v within is =
    let before = map view (take i vs) in
    let more : map view (take (i + 1) vs) ≡ before ++ view v ∷ [] =
    map_more view vs i v within ∙ ap (λ w. before ++ view w ∷ []) (sym is) in
    ap (λ ds. map (entry_of g) (filter_map as_str ds)) more
    ∙ ap (map (entry_of g)) (filter_map-append as_str before (view v ∷ []))
    ∙ map-append (entry_of g) (filter_map as_str before) (filter_map as_str (view v ∷ []))
    ∙ ap (λ es. map (entry_of g) (filter_map as_str before) ++ es)
    (entries_by g (as_str (view v)) (view v) refl)

texts_by : (d : Data) (t : List ℕ) → as_str d ≡ Some t → filter_map as_str (d ∷ []) ≡ t ∷ []
texts_by d t is = rw is refl

-- the texts of one value more that is a text
pub texts_more : (vs : List Value) (i : ℕ) (v : Value) (t : List ℕ) → i < length vs
    → v ≡ get_or vs i v → as_str (view v) ≡ Some t
    → filter_map as_str (map view (take (i + 1) vs))
    ≡ filter_map as_str (map view (take i vs)) ++ t ∷ []
texts_more vs i v t within is text =
    let before = map view (take i vs) in
    let more : map view (take (i + 1) vs) ≡ before ++ view v ∷ [] =
    map_more view vs i v within ∙ ap (λ w. before ++ view w ∷ []) (sym is) in
    ap (filter_map as_str) more ∙ filter_map-append as_str before (view v ∷ [])
    ∙ ap (λ ts. filter_map as_str before ++ ts) (texts_by (view v) t text)

digit_below : (b : ℕ) → is_digit b ≡ true → digit_value b < 10
digit_below b is = grind arith

all_digits : (s : List ℕ) → list_all is_digit s ≡ true → AllDigits 10 s
all_digits [] all = tt
all_digits (b ∷ s) all = (digit_below b (grind arith), all_digits s (grind arith))

no_plus : (s : List ℕ) → list_all is_digit s ≡ true → without_leading_plus s ≡ s
no_plus [] all = refl
no_plus (b ∷ s) all =
    let other : eqb b 43 ≡ false = grind arith in
    rw other refl

weight_by : (s : List ℕ) (b : Bool) → leb (digits_value 10 s) MOST_WEIGHT ≡ b
    → ¬ (digits_value 10 s < 2 ^ 32) → None ≡ weight_upto (digits_value 10 s)
weight_by s true is over = absurd (over (grind arith))
weight_by s false is over = rw is refl

-- digits that aren't read as a number of 32 bits are no weight
pub digits_over : (s : List ℕ) → are_digits s ≡ true
    → ¬ (IsNumeral 10 (without_leading_plus s)
    × (digits_value 10 (without_leading_plus s) < 2 ^ 32))
    → None ≡ option_and_then weight_upto (number_of_digits s)
digits_over s digits unread =
    let all : list_all is_digit s ≡ true = grind arith in
    let some : 0 < length s = grind arith in
    let same = no_plus s all in
    let over : ¬ (digits_value 10 s < 2 ^ 32) =
    (λ fits. unread (rw same ((some, all_digits s all), fits))) in
    rw digits (weight_by s (leb (digits_value 10 s) MOST_WEIGHT) refl over)

-- a list behind another, longer by a step
pub appended_more : {X : Type 0} (base before after step old new : List X) → new ≡ old ++ step
    → old ≡ base ++ before → after ≡ before ++ step → new ≡ base ++ after
appended_more base before after step old new n o a =
    n ∙ ap (λ l. l ++ step) o ∙ append_assoc base before step ∙ ap (λ l. base ++ l) (sym a)
