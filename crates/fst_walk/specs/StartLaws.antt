-- What is true of the start nodes of a query. Source: this project's own.
use Rattle.std.specs.Prelude.{ℕ, ◌≡◌, ◌↔◌, true, List, ◌∷◌, ◌++◌}
use Rattle.sg_base.specs.declared.reserved.TheConstants.{CONTEXT_END}
use Rattle.sg_base.specs.ByteStrings.{is_less}
use Rattle.sg_base.specs.Lists.{In, Pairs}
use Rattle.sg_context.specs.Queries.{PlainQuery}
use Rattle.fst_code.specs.Tails.{Tail}
use Rattle.fst_walk.specs.Fronts.{is_front}
use Rattle.fst_walk.specs.Positions.{no_end}
use Rattle.fst_walk.specs.Starts.{is_asked, start_contexts}

-- they rise strictly, bytewise, and are exactly what matches and has a key that begins so
pub record AreStarts (ts : List Tail) (q : PlainQuery) (starts : List (List ℕ)) : Type 0 where
  pub rises : Pairs (λ (x y : List ℕ). is_less x y ≡ true) starts
  pub exact : (c : List ℕ) → In c starts
      ↔ ((no_end c ≡ true) × (is_asked q.contexts c ≡ true)
      × (is_front ts (c ++ CONTEXT_END ∷ q.prefix) ≡ true))

-- the start contexts of a query are such
abbrev pub StartsLaw : Type 0
StartsLaw = (ts : List Tail) (q : PlainQuery) → AreStarts ts q (start_contexts ts q)
