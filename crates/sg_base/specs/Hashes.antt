-- The hash of a node and its bucket. Source: multiplicative hashing.
use Rattle.std.specs.Prelude.{ℕ, ◌+◌, ◌*◌, ◌^◌, ◌%◌, ◌/◌, List, [], ◌∷◌}
use Rattle.sg_base.specs.declared.node.Edge.{Edge}

-- a hash with one number more
abbrev pub mixed : ℕ → ℕ → ℕ
mixed h x = (h + x) % 2 ^ 64 * 11400714819323198485 % 2 ^ 64

-- a hash with the labels, costs and targets of arcs
abbrev pub hash_from : ℕ → List Edge → ℕ
hash_from h [] = h
hash_from h (e ∷ es) = hash_from (mixed (mixed (mixed h e.label) e.cost) e.target.0) es

-- the high half of a hash, scaled to the number of buckets
abbrev pub scaled : ℕ → ℕ → ℕ
scaled buckets hash = hash / 2 ^ 32 * buckets / 2 ^ 32

-- the bucket of a node
abbrev pub bucket : ℕ → List Edge → ℕ
bucket buckets es = scaled buckets (hash_from 0 es)
