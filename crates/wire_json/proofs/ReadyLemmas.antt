-- A line without an error is ready: each of its entries makes a suggestion.
use Rattle.std.proofs.Common.{◌≡◌, ◌<◌, ◌≤◌, ℕ, Bool, true, false, List, [], ◌∷◌, length, map}
use Rattle.std.proofs.Common.{not, refl, ap, arith, IfOk, Ok, Err, suc}
use Rattle.std.specs.List.{list_any, list_all, All}
use Rattle.std.proofs.lemmas.Bool.{or_parts}
use Rattle.std.proofs.lemmas.List.Folds.{list_any-append}
use Rattle.serde_json.specs.Data.{Data}
use Rattle.sg_analysis.specs.Analysis.{Analysis, analysis_of}
use Rattle.sg_analysis.specs.declared.analyzer.KeyError.TheVariants as none
use Rattle.sg_analysis.specs.declared.analyzer.Analyzer.{Analyzer}
use Rattle.sg_paths.specs.declared.limits.TheConstants.{MOST_TEXT_BYTES}
use Rattle.wire_json.specs.Suggested.{Entry, entry_of, entries_in, entries_of, texts_of}
use Rattle.wire_json.specs.Suggested.{has_wrong_weight, has_reserved_context, has_wrong_contexts}
use Rattle.wire_json.specs.LineErrors.{Keyed, keyed_by, input_key, is_refused_as_empty}
use Rattle.wire_json.specs.LineErrors.{is_refused_as_reserved, is_refused_as_too_long}
use Rattle.wire_json.specs.Asked.{is_query_context, query_contexts_are_wrong}
use Rattle.wire_json.specs.Commands.{suggestion_of}
use Rattle.wire_json.specs.ReadyForms.{AreKeys, AreSuggestions, IsReady, AreReady, suggestions_by}
use Rattle.wire_json.specs.declared.keys.KeyFault.TheVariants as faults

no_text : (p : Data → Bool) (d : Data) → p d ≡ false → (ts : List (List ℕ))
    → list_any (λ (e : Entry). p e.given) (map (entry_of d) ts) ≡ false
no_text p d none [] = refl
no_text p d none (t ∷ ts) = rw (none, no_text p d none ts) refl

-- what no suggestion has, no entry's has
no_entry : (p : Data → Bool) (ds : List Data) → list_any p ds ≡ false
    → list_any (λ (e : Entry). p e.given) (entries_of ds) ≡ false
no_entry p [] none = refl
no_entry p (d ∷ ds) none =
    rw (
      list_any-append (λ (e : Entry). p e.given) (entries_in d) (entries_of ds),
      no_text p d ((or_parts (p d) _ none).0) (texts_of d),
      no_entry p ds ((or_parts (p d) _ none).1),
    ) refl

keyed_text : (text : List ℕ) (analysis : Analysis) (k : List ℕ) → keyed_by text analysis ≡ Ok k
    → length text ≤ MOST_TEXT_BYTES
keyed_text text (Ok j) k is = grind arith
keyed_text text (Err (none.Reserved byte at)) k is = grind arith
keyed_text text (Err none.Empty) k is = grind arith
keyed_text text (Err other) k is = grind arith

-- a key without a fault is one
has_key : (r : Keyed) → is_refused_as_empty r ≡ false → is_refused_as_reserved r ≡ false
    → is_refused_as_too_long r ≡ false
    → (k : List ℕ) × (r ≡ Ok k)
has_key (Ok k) e s l = (k, refl)
has_key (Err faults.Empty) e s l = absurd (grind arith)
has_key (Err faults.Reserved) e s l = absurd (grind arith)
has_key (Err faults.TooLong) e s l = absurd (grind arith)

abbrev keys_by : Analyzer → List Entry → List Keyed
keys_by analyzer = map (λ (e : Entry). input_key analyzer e.text)

filled_by : (r : Keyed) (k : List ℕ) → r ≡ Ok k → IfOk r (λ j. 0 < length j) → 0 < length k
filled_by (Ok j) k is filled = grind (arith, is)
filled_by (Err fault) k is filled = absurd (grind arith)

entries_ready : (analyzer : Analyzer) (es : List Entry)
    → AreKeys (keys_by analyzer es) → All (λ r. IfOk r (λ k. 0 < length k)) (keys_by analyzer es)
    → list_any (λ (e : Entry). has_wrong_weight e.given) es ≡ false
    → list_any (λ (e : Entry). has_reserved_context e.given) es ≡ false
    → list_any (λ (e : Entry). has_wrong_contexts e.given) es ≡ false
    → AreReady es (keys_by analyzer es)
entries_ready analyzer [] keys filled weights forbidden contexts = tt
entries_ready analyzer (e ∷ es) keys filled weights forbidden contexts =
    let r = input_key analyzer e.text in
    let found = has_key r ((or_parts (is_refused_as_empty r) _ keys.empty).0)
    ((or_parts (is_refused_as_reserved r) _ keys.reserved).0)
    ((or_parts (is_refused_as_too_long r) _ keys.too_long).0) in
    let first : IsReady e r = record {
      key = found.0;
      is = found.1;
      filled = filled_by r found.0 found.1 (filled 0 r (grind arith));
      text = keyed_text e.text (analysis_of analyzer e.text true) found.0 found.1;
      weight = (or_parts (has_wrong_weight e.given) _ weights).0;
      reserved = (or_parts (has_reserved_context e.given) _ forbidden).0;
      contexts = (or_parts (has_wrong_contexts e.given) _ contexts).0;
    } in
    let later : AreKeys (keys_by analyzer es) = record {
      empty = (or_parts (is_refused_as_empty r) _ keys.empty).1;
      reserved = (or_parts (is_refused_as_reserved r) _ keys.reserved).1;
      too_long = (or_parts (is_refused_as_too_long r) _ keys.too_long).1;
    } in (
      first,
      entries_ready analyzer es later (λ k d l. filled (suc k) d (grind (arith, l)))
          ((or_parts (has_wrong_weight e.given) _ weights).1)
          ((or_parts (has_reserved_context e.given) _ forbidden).1)
          ((or_parts (has_wrong_contexts e.given) _ contexts).1),
    )

-- the entries of suggestions without an error are ready with their keys
pub ready-entries_of : (analyzer : Analyzer) (ds : List Data) (es : List Entry)
    (keys : List Keyed) → es ≡ entries_of ds
    → keys ≡ map (λ (e : Entry). input_key analyzer e.text) es
    → AreKeys keys → All (λ r. IfOk r (λ k. 0 < length k)) keys → AreSuggestions ds
    → AreReady es keys
ready-entries_of analyzer ds es keys is of are filled sound =
    rw (of, is) (entries_ready analyzer (entries_of ds)
    (rw (← is, ← of) are) (rw (← is, ← of) filled)
    (no_entry has_wrong_weight ds sound.weights)
    (no_entry has_reserved_context ds sound.reserved)
    (no_entry has_wrong_contexts ds sound.contexts))

-- with the keys of their texts they make the suggestions of the entries
pub suggestions_by-keys : (analyzer : Analyzer) (es : List Entry)
    → suggestions_by es (map (λ (e : Entry). input_key analyzer e.text) es)
    ≡ map (suggestion_of analyzer) es
suggestions_by-keys analyzer [] = refl
suggestions_by-keys analyzer (e ∷ es) =
    ap (λ ss. suggestion_of analyzer e ∷ ss) (suggestions_by-keys analyzer es)

not_false : (b : Bool) → not b ≡ false → b ≡ true
not_false true h = refl
not_false false h = absurd (grind (arith, h))

-- query contexts that aren't wrong are each one
pub all_query_contexts : (ds : List Data) → query_contexts_are_wrong ds ≡ false
    → list_all is_query_context ds ≡ true
all_query_contexts ds right = not_false (list_all is_query_context ds) ((or_parts _ _ right).1)
