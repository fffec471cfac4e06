-- What stands behind the fields of bytes that begin with those of documents or suggestions.
use Rattle.std.proofs.Common.{◌≡◌, ◌≤◌, ◌<◌, ◌+◌, ℕ, suc, List, ◌∷◌, ◌++◌, length, drop}
use Rattle.std.proofs.Common.{get_or, refl, sym, ap, ◌∙◌, subst, arith, append_assoc}
use Rattle.std.proofs.lemmas.List.{drop_more, drop_all}
use Rattle.std.proofs.lemmas.Nat.{from_be_bytes-to_be_bytes_8}
use Rattle.std.specs.Int.{w16, w32, w64, from_be_bytes, to_be_bytes}
use Rattle.std.specs.List.{AllByRecursion, flat_map}
use Rattle.std.specs.Str.{is_utf8}
use Rattle.sg_paths.specs.Documents.{PlainSuggestion}
use Rattle.sg_paths.specs.Operations.{PlainNumbered}
use Rattle.seg_bytes.specs.DocumentBytes.{short_bytes, suggestion_bytes, document_bytes}
use Rattle.seg_bytes.specs.Packed.{BeginsWith, BeginWith, behind_key, behind_id}
use Rattle.seg_bytes.proofs.BackDocuments.{below}

-- an item of a list of which something holds
pub item_at : {X : Type 0} (P : X → Type 0) (xs : List X) (i : ℕ) (x : X) → i < length xs
    → AllByRecursion P (drop i xs) → P (get_or xs i x) × AllByRecursion P (drop (i + 1) xs)
item_at P xs i x h a = subst (AllByRecursion P) (drop_more xs i x h) a

-- bytes behind their length, in front of those of others like them
pub first_of : {X : Type 0} (f : X → List ℕ) (xs : List X) (i : ℕ) (x : X) (rest bytes : List ℕ)
    → i < length xs → bytes ≡ flat_map f (drop i xs) ++ rest
    → bytes ≡ f (get_or xs i x) ++ (flat_map f (drop (i + 1) xs) ++ rest)
first_of f xs i x rest bytes h is =
    is ∙ ap (λ ys. flat_map f ys ++ rest) (drop_more xs i x h)
    ∙ append_assoc (f (get_or xs i x)) (flat_map f (drop (i + 1) xs)) rest

-- none of them is left
pub none_of : {X : Type 0} (f : X → List ℕ) (xs : List X) (i : ℕ) (rest bytes : List ℕ)
    → length xs ≤ i → bytes ≡ flat_map f (drop i xs) ++ rest → bytes ≡ rest
none_of f xs i rest bytes h is = is ∙ ap (λ ys. flat_map f ys ++ rest) (drop_all i xs h)

-- the suggestion that is next
pub next_of : (ss : List PlainSuggestion) (i : ℕ) (s : PlainSuggestion) (rest bytes : List ℕ)
    → i < length ss → BeginWith (drop i ss) rest bytes
    → BeginWith (get_or ss i s ∷ drop (i + 1) ss) rest bytes
next_of ss i s rest bytes h b =
    subst (λ (z : List PlainSuggestion). BeginWith z rest bytes) (drop_more ss i s h) b

module _ (d : PlainNumbered) (rest bytes : List ℕ) (h : BeginsWith d rest bytes) where
  -- a document's number
  pub seq_is : from_be_bytes w64 bytes ≡ d.seq
  unfolding document_bytes
  seq_is = ap (from_be_bytes w64) h.whole ∙ from_be_bytes-to_be_bytes_8 d.seq h.writable.seq

  pub has_seq : 8 ≤ length bytes
  unfolding document_bytes
  has_seq =
      let all : length bytes ≡ suc (suc (suc (suc (suc (suc (suc (suc (length
      ((short_bytes d.document.id ++ (length d.document.suggestions
      ∷ flat_map suggestion_bytes d.document.suggestions)) ++ rest)))))))))
      = ap length h.whole in
      omega (arith, all)

  -- its id
  pub id_stands : drop 8 bytes ≡ short_bytes d.document.id ++ behind_id d rest
  unfolding document_bytes
  id_stands =
      ap (drop 8) h.whole
      ∙ ap (λ z. length d.document.id ∷ z) (append_assoc d.document.id
      (length d.document.suggestions ∷ flat_map suggestion_bytes d.document.suggestions) rest)

  -- its suggestions
  pub suggestions_stand : BeginWith d.document.suggestions rest (drop 1 (behind_id d rest))
  suggestions_stand = record { writable = h.writable.suggestions; whole = refl }

module _ (s : PlainSuggestion) (ss : List PlainSuggestion) (rest bytes : List ℕ)
    (h : BeginWith (s ∷ ss) rest bytes) where
  -- what stands behind the suggestion
  abbrev after : List ℕ
  after = flat_map suggestion_bytes ss ++ rest

  -- a suggestion's text
  pub text_fits : length s.text < 65536
  text_fits =
      let most = below (is_utf8 s.text) (length s.text) 1024 h.writable.0.text in
      omega (arith, most)

  pub text_stands : bytes
      ≡ to_be_bytes w16 (length s.text) ++ (s.text ++ (short_bytes s.key ++ behind_key s after))
  unfolding suggestion_bytes
  text_stands =
      let contexts = length s.contexts ∷ flat_map short_bytes s.contexts in
      let behind = short_bytes s.key ++ (to_be_bytes w32 s.weight ++ contexts) in
      h.whole
      ∙ ap (λ z. to_be_bytes w16 (length s.text) ++ z)
      (append_assoc (s.text ++ behind) (flat_map suggestion_bytes ss) rest
      ∙ append_assoc s.text behind after
      ∙ ap (λ z. s.text ++ (length s.key ∷ z))
      (append_assoc s.key (to_be_bytes w32 s.weight ++ contexts) after))

module _ (s : PlainSuggestion) (after bytes : List ℕ) (is : bytes ≡ behind_key s after) where
  -- how many contexts it has
  pub has_contexts : 5 ≤ length bytes
  has_contexts =
      let all : length bytes ≡ suc (suc (suc (suc (suc
      (length (flat_map short_bytes s.contexts ++ after)))))) = ap length is in
      omega (arith, all)

  pub contexts_count : length s.contexts ≡ get_or bytes 4 0
  contexts_count = sym (ap (λ z. get_or z 4 0) is)

  -- they stand behind that
  pub contexts_stand : drop 5 bytes ≡ flat_map short_bytes s.contexts ++ after
  contexts_stand = ap (drop 5) is
