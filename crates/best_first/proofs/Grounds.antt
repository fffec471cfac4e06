-- What the lemmas of a segment stand on: its list of paths, and a transducer that maps it.
use Rattle.std.proofs.Common.{◌≡◌, ◌≤◌, ◌<◌, ◌⊎◌, ℕ, true, Some, List}
use Rattle.sg_base.specs.ByteStrings.{lacks}
use Rattle.sg_base.specs.Lists.{In, Pairs}
use Rattle.sg_base.specs.declared.limits.TheConstants.{MOST_WEIGHT}
use Rattle.sg_base.specs.declared.node.Edge.{Edge}
use Rattle.sg_base.specs.declared.reserved.TheConstants.{CONTEXT_END, KEY_END}
use Rattle.sg_context.specs.Boosts.{boost_of}
use Rattle.sg_paths.specs.AllPaths.{FullPath, path_bytes}
use Rattle.sg_paths.proofs.RiseLemmas.{IsClean}
use Rattle.fst_code.specs.Lists.{root_paths}
use Rattle.fst_code.specs.Transducers.{IsTransducer}
use Rattle.best_first.specs.PathMatches.{Setting, is_match, path_tails}

-- what is needed of the list of all paths: no two have the same bytes, and among equals a lesser
-- number has a greater weight, or the same and a lesser document
pub record IsPathList (ps : List FullPath) : Type 0 where
  pub clean : (p : FullPath) → In p ps → IsClean p.entry
  pub light : (p : FullPath) → In p ps → p.entry.weight ≤ MOST_WEIGHT
  pub small : (p : FullPath) → In p ps → p.n < 4294967296
  pub once : (p r : FullPath) → In p ps → In r ps → path_bytes p ≡ path_bytes r → p ≡ r
  pub numbers : (p r : FullPath) → In p ps → In r ps → p.entry.context ≡ r.entry.context
      → p.entry.key ≡ r.entry.key → p.n < r.n
      → (r.entry.weight < p.entry.weight)
      ⊎ ((p.entry.weight ≡ r.entry.weight) × (p.entry.doc < r.entry.doc))

-- what a search stands on: a transducer that maps the list of paths, and the query's starts
pub record IsGround (s : Setting) (t : List (List Edge)) (ps : List FullPath) : Type 0 where
  pub sound : IsTransducer t
  pub lists : root_paths t ≡ path_tails ps
  pub paths : IsPathList ps
  pub started : (p : FullPath) → In p ps → is_match s p.entry ≡ true → In p.entry.context s.starts
  pub different : Pairs (λ a b. a ≡ b → ⊥) s.starts
  pub ends : (c : List ℕ) → In c s.starts → lacks CONTEXT_END c ≡ true
  pub boosts : (c : List ℕ) (b : ℕ) → boost_of s.query.contexts c ≡ Some b → 1 ≤ b
  pub prefix : lacks KEY_END s.query.prefix ≡ true
  pub seqs : (p r : FullPath) → In p ps → In r ps → p.entry.doc < r.entry.doc
      → s.seqs p.entry.doc < s.seqs r.entry.doc
