-- What is so of the entries, and what the loops over them ask. No public clause cites this module.
use Rattle.std.specs.Prelude.{◌≡◌, ◌<◌, ◌^◌, ◌-◌, ⊤, ℕ, true, not, List, [], ◌∷◌, filter}
use Rattle.std.specs.List.{AllByRecursion}
use Rattle.index_holds.specs.declared.held.Held.{Held}
use Rattle.index_holds.specs.Holders.{is_among, is_held, is_used}

-- the generations rise strictly
abbrev pub Rise : List Held → Type 0
Rise [] = ⊤
Rise (h ∷ hs) = AllByRecursion (λ other. h.generation < other.generation) hs × Rise hs

-- something holds each generation
abbrev pub AreUsed : List Held → Type 0
AreUsed entries = AllByRecursion (λ h. is_used h ≡ true) entries

-- what is so of each entry of these generations
abbrev pub EachOf : List ℕ → (Held → Type 0) → List Held → Type 0
EachOf gens P entries = AllByRecursion (λ h. is_among h.generation gens ≡ true → P h) entries

-- each of these generations may have one more holder
abbrev pub HaveRoom : List ℕ → List Held → Type 0
HaveRoom gens entries = EachOf gens (λ h. h.holders < 2 ^ 32 - 1) entries

-- each of these generations has a holder
abbrev pub HaveHolders : List ℕ → List Held → Type 0
HaveHolders gens entries = EachOf gens (λ h. 0 < h.holders) entries

-- those of the generations that nothing holds
abbrev pub unheld : List Held → List ℕ → List ℕ
unheld entries gens = filter (λ g. not (is_held entries g)) gens
