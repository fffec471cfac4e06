-- What the code knows of a line without an error when it builds the command. No public clause cites
-- it. Source: this project's own.
use Rattle.std.specs.Prelude.{◌≡◌, ◌<◌, ◌≤◌, ℕ, false, List, [], ◌∷◌, length}
use Rattle.std.specs.Prelude.{⊤}
use Rattle.std.specs.List.{list_any}
use Rattle.std.specs.declared.result.Result.TheVariants.{Ok}
use Rattle.serde_json.specs.Data.{Data}
use Rattle.sg_paths.specs.Documents.{PlainSuggestion}
use Rattle.sg_paths.specs.declared.limits.TheConstants.{MOST_TEXT_BYTES}
use Rattle.wire_json.specs.Suggested.{Entry, has_wrong_weight, has_reserved_context}
use Rattle.wire_json.specs.Suggested.{has_wrong_contexts}
use Rattle.wire_json.specs.Asked.{asks_for_reserved_context, query_contexts_are_wrong}
use Rattle.wire_json.specs.Asked.{has_wrong_boost}
use Rattle.wire_json.specs.LineErrors.{Keyed, is_refused_as_empty, is_refused_as_reserved}
use Rattle.wire_json.specs.LineErrors.{is_refused_as_too_long}
use Rattle.wire_json.specs.Commands.{suggestion_by}

-- the keys of texts have no fault
pub record AreKeys (keys : List Keyed) : Type 0 where
  pub empty : list_any is_refused_as_empty keys ≡ false
  pub reserved : list_any is_refused_as_reserved keys ≡ false
  pub too_long : list_any is_refused_as_too_long keys ≡ false

-- the suggestions of a line have no error but for their keys
pub record AreSuggestions (ds : List Data) : Type 0 where
  pub weights : list_any has_wrong_weight ds ≡ false
  pub reserved : list_any has_reserved_context ds ≡ false
  pub contexts : list_any has_wrong_contexts ds ≡ false

-- the query contexts of a line have no error
pub record AreAsked (ds : List Data) : Type 0 where
  pub reserved : list_any asks_for_reserved_context ds ≡ false
  pub contexts : query_contexts_are_wrong ds ≡ false
  pub boosts : list_any has_wrong_boost ds ≡ false

-- an entry with its key makes a suggestion
pub record IsReady (e : Entry) (k : Keyed) : Type 0 where
  pub key : List ℕ
  pub is : k ≡ Ok key
  pub filled : 0 < length key
  pub text : length e.text ≤ MOST_TEXT_BYTES
  pub weight : has_wrong_weight e.given ≡ false
  pub reserved : has_reserved_context e.given ≡ false
  pub contexts : has_wrong_contexts e.given ≡ false

-- entries with their keys, as many of the ones as of the others
abbrev pub AreReady : List Entry → List Keyed → Type 0
AreReady [] [] = ⊤
AreReady [] (k ∷ ks) = ⊥
AreReady (e ∷ es) [] = ⊥
AreReady (e ∷ es) (k ∷ ks) = IsReady e k × AreReady es ks

-- their suggestions
abbrev pub suggestions_by : List Entry → List Keyed → List PlainSuggestion
suggestions_by [] ks = []
suggestions_by (e ∷ es) [] = []
suggestions_by (e ∷ es) (k ∷ ks) = suggestion_by e k ∷ suggestions_by es ks
