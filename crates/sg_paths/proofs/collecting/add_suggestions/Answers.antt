-- One suggestion more.
use Rattle.std.proofs.Common.{◌≡◌, ◌<◌, ◌+◌, ◌++◌, ◌∷◌, [], ℕ, List, length, drop}
use Rattle.std.proofs.Common.{get_or, map, refl, sym, ap, ◌∙◌, arith, append_assoc}
use Rattle.std.proofs.lemmas.List.{drop_more, map-append}
use Rattle.sg_paths.specs.Documents.{PlainSuggestion}
use Rattle.sg_paths.specs.Paths.{PlainPath, contexts_of, entries_from as plain_entries}
use Rattle.sg_paths.specs.AllPaths.{Entry, entry_of}
use Rattle.sg_paths.specs.Collected.{in_context}
use Rattle.sg_paths.proofs.collecting.add_suggestions.Goals as goal

map_map : (doc : ℕ) (s : PlainSuggestion) (place : ℕ) (texts : List (List ℕ))
    → map (entry_of doc)
    (map (λ text.
    (let p : PlainPath =
    record { context = text; key = s.key; weight = s.weight; place = place } in p)) texts)
    ≡ map (in_context doc s place) texts
map_map doc s place [] = refl
map_map doc s place (t ∷ ts) = ap (λ z. in_context doc s place t ∷ z) (map_map doc s place ts)

one_more : (doc : ℕ) (ss : List PlainSuggestion) (i : ℕ) (s : PlainSuggestion)
    (out new whole : List Entry) → i < length ss → s ≡ get_or ss i s
    → out ++ map (entry_of doc) (plain_entries i (drop i ss)) ≡ whole
    → new ≡ out ++ map (in_context doc s i) (contexts_of s.contexts)
    → new ++ map (entry_of doc) (plain_entries (i + 1) (drop (i + 1) ss)) ≡ whole
one_more doc ss i s out new whole h is e n =
    let d : drop i ss ≡ s ∷ drop (i + 1) ss =
    drop_more ss i s h ∙ ap (λ z. z ∷ drop (i + 1) ss) (sym is) in
    let rest = plain_entries (i + 1) (drop (i + 1) ss) in
    let split : map (entry_of doc) (plain_entries i (drop i ss))
    ≡ map (in_context doc s i) (contexts_of s.contexts) ++ map (entry_of doc) rest =
    ap (λ z. map (entry_of doc) (plain_entries i z)) d ∙ map-append (entry_of doc) _ rest
    ∙ ap (λ z. z ++ map (entry_of doc) rest) (map_map doc s i (contexts_of s.contexts)) in
    ap (λ z. z ++ map (entry_of doc) rest) n ∙ append_assoc out _ _ ∙ ap (λ z. out ++ z) (sym split)
    ∙ e

pub loop-place-preserved : goal.loop-place-preserved
loop-place-preserved c =
    one_more c.args.doc c.args.suggestions.now c.loop-place.place c.index-suggestions-place.result
    c.loop-place.into.items
    c.add_suggestion.new.into.items _ (omega arith) c.index-suggestions-place.is
    c.loop-place.invariant c.in_ok-add_suggestion.ensures
