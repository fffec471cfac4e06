-- A segment's documents and the transducer of their paths are what a search stands on.
use Rattle.std.proofs.Common.{◌≡◌, ◌≤◌, ◌<◌, ◌+◌, ◌⊎◌, inl, inr, ℕ, zero, suc, Bool, true, false}
use Rattle.std.proofs.Common.{◌||◌, List, [], ◌∷◌, ◌++◌, length, get_or, map, Some, refl, sym, ap}
use Rattle.std.proofs.Common.{◌∙◌, subst, arith}
use Rattle.std.specs.Prelude.{is_some}
use Rattle.std.proofs.lemmas.Bool.{and_parts}
use Rattle.sg_base.specs.ByteStrings.{begins, is_less, lacks}
use Rattle.sg_base.specs.Lists.{In, Pairs}
use Rattle.sg_base.specs.declared.node.Edge.{Edge}
use Rattle.sg_base.proofs.ListLemmas.{in-append, in-map}
use Rattle.sg_context.specs.Boosts.{boost_of}
use Rattle.sg_context.specs.Queries.{PlainQuery}
use Rattle.sg_paths.specs.AllPaths.{Entry, entry_of, path_entries, all_paths, path_bytes}
use Rattle.sg_paths.specs.Operations.{PlainNumbered}
use Rattle.sg_paths.specs.Paths.{paths}
use Rattle.fst_code.specs.Lists.{root_paths}
use Rattle.fst_code.specs.Tails.{Tail}
use Rattle.fst_walk.specs.Fronts.{is_front}
use Rattle.fst_walk.specs.Starts.{start_contexts}
use Rattle.fst_walk.proofs.AscendingLemmas.{Ascends, less_itself}
use Rattle.fst_walk.proofs.BeginLemmas.{begins-cancel}
use Rattle.fst_walk.proofs.BoolLemmas.{clash}
use Rattle.fst_walk.proofs.ContextLemmas.{start_from, start_parts, member_no_end, Ascends-starts}
use Rattle.best_first.specs.Parts.{AreDocuments, IsMapping}
use Rattle.best_first.specs.PathMatches.{tail_of, bytes_of, setting_of, seq_at, no_document}
use Rattle.best_first.proofs.Grounds.{IsGround}
use Rattle.best_first.proofs.MemberLemmas.{map-in}
use Rattle.best_first.proofs.PathListLemmas.{path_entry, is_path_list}
use Rattle.best_first.proofs.TextLemmas.{regroup, key_begins}

doc_within : (k : ℕ) (ds : List PlainNumbered) (e : Entry) → In e (path_entries k ds)
    → e.doc < k + length ds
doc_within k [] e i = elim i [ ]
doc_within k (d ∷ ds) e i =
    elim (in-append e (map (entry_of k) (paths d.document)) (path_entries (k + 1) ds) i) as
    (λ _. e.doc < k + suc (length ds)) [
      | inl j ↦
          let r = in-map (entry_of k) e (paths d.document) j in
          let q : e.doc ≡ k = ap (λ (z : Entry). z.doc) r.2 in
          omega (arith, q)
      | inr j ↦ let h = doc_within (k + 1) ds e j in omega (arith, h)
    ]

pub in_documents : (ds : List PlainNumbered) (e : Entry) → In e (path_entries 0 ds)
    → e.doc < length ds
in_documents ds e i = let h = doc_within 0 ds e i in omega (arith, h)

seqs_rise : (ds : List PlainNumbered) → Pairs (λ (a b : PlainNumbered). a.seq < b.seq) ds
    → (i j : ℕ) → i < j → j < length ds → seq_at ds i < seq_at ds j
seqs_rise [] u i j l m = absurd (omega (arith, m))
seqs_rise (d ∷ ds) u i zero l m = absurd (omega (arith, l))
seqs_rise (d ∷ ds) u zero (suc j) l m =
    u.0 (get_or ds j no_document) (at ds j (omega (arith, m)))
  where
    at : (xs : List PlainNumbered) (n : ℕ) → n < length xs → In (get_or xs n no_document) xs
    at [] n h = absurd (omega (arith, h))
    at (x ∷ xs) zero h = inl refl
    at (x ∷ xs) (suc n) h = inr (at xs n (omega (arith, h)))
seqs_rise (d ∷ ds) u (suc i) (suc j) l m =
    seqs_rise ds u.1 i j (omega (arith, l)) (omega (arith, m))

different_of : (xs : List (List ℕ)) → Ascends xs → Pairs (λ a b. a ≡ b → ⊥) xs
different_of [] a = tt
different_of (x ∷ xs) a = (
  λ y i e. clash (sym (less_itself x) ∙ subst (λ z. is_less x z ≡ true) (sym e) (a.0 y i)),
  different_of xs a.1,
)

-- some path begins so, where one that is there does
is_or : (b c : Bool) → (b ≡ true) ⊎ (c ≡ true) → (b || c) ≡ true
is_or true c h = refl
is_or false c (inl h) = cc
is_or false c (inr h) = h

front_from : (ts : List Tail) (t : Tail) (s : List ℕ) → In t ts → begins s t.0 ≡ true
    → is_front ts s ≡ true
front_from [] t s i h = elim i [ ]
front_from (u ∷ ts) t s (inl e) h =
    is_or (begins s u.0) (is_front ts s) (inl (ap (λ (z : Tail). begins s z.0) (sym e) ∙ h))
front_from (u ∷ ts) t s (inr i) h =
    is_or (begins s u.0) (is_front ts s) (inr (front_from ts t s i h))

pub is_ground : (query : PlainQuery) (ds : List PlainNumbered) (nodes : List (List Edge))
    (marks : List Bool) → AreDocuments ds → IsMapping nodes ds → lacks 0 query.prefix ≡ true
    → ((c : List ℕ) (b : ℕ) → boost_of query.contexts c ≡ Some b → 1 ≤ b)
    → IsGround (setting_of query ds (start_contexts (root_paths nodes) query) marks) nodes
    (all_paths ds)
is_ground query ds nodes marks a m prefix boosts =
    let ps = is_path_list ds a in
    let ts : List Tail = root_paths nodes in
    record {
      sound = m.transducer;
      lists = m.maps;
      paths = ps;
      started = λ p i h.
          let c : List ℕ = p.entry.context in
          let parts =
          and_parts (begins query.prefix p.entry.key) (is_some (boost_of query.contexts c)) h in
          let own : In (tail_of p) ts =
          subst (In (tail_of p)) (sym m.maps) (map-in tail_of p (all_paths ds) i) in
          let begun : begins (c ++ 29 ∷ query.prefix) (path_bytes p) ≡ true =
          ap (begins (c ++ 29 ∷ query.prefix)) (regroup p)
          ∙ begins-cancel c (29 ∷ query.prefix) (29 ∷ bytes_of p)
          ∙ key_begins query.prefix p.entry.key _ parts.0 in
          start_from ts query c (ps.clean p i).0 parts.1
          (front_from ts (tail_of p) (c ++ 29 ∷ query.prefix) own begun);
      different = different_of (start_contexts ts query) (Ascends-starts ts query);
      ends = λ c i. member_no_end ts c (start_parts ts query c i).0;
      boosts = boosts;
      prefix = prefix;
      seqs = λ p r i j l. seqs_rise ds a.rising p.entry.doc r.entry.doc l
          (in_documents ds r.entry (path_entry ds r j));
    }
