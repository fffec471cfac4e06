-- How far the starts of a query were given. No public clause cites this module but through the
-- view of the starts that are left.
use Rattle.std.specs.Prelude.{ℕ, ◌+◌, Bool, false, ◌==◌, nat_le, nat_lt, cond}
use Rattle.std.specs.Prelude.{Option, Some, None, List, [], ◌∷◌, length}
use Rattle.sg_base.specs.declared.reserved.TheConstants.{CONTEXT_END}
use Rattle.sg_base.specs.ByteStrings.{lacks}

-- Whether a context is left at the bytes `at`: it is greater, and where it goes on from them, by a
-- byte of at least `from`; with None, none that goes on from them is left.
abbrev pub is_left : List ℕ → Option ℕ → List ℕ → Bool
is_left [] from [] = false
is_left [] None (x ∷ c) = false
is_left [] (Some from) (x ∷ c) = nat_le from x
is_left (a ∷ at) from [] = false
is_left (a ∷ at) from (x ∷ c) = cond (x == a) (is_left at from c) (nat_lt a x)

-- how many bytes of a context that is left stand behind the front that it shares with `at`
abbrev pub unseen : List ℕ → Option ℕ → List ℕ → ℕ
unseen [] from [] = 0
unseen [] None (x ∷ c) = 0
unseen [] (Some from) (x ∷ c) = cond (nat_le from x) (1 + length c) 0
unseen (a ∷ at) from [] = 0
unseen (a ∷ at) from (x ∷ c) =
    cond (x == a) (unseen at from c) (cond (nat_lt a x) (1 + length c) 0)

-- whether no byte of it ends a context
abbrev pub no_end : List ℕ → Bool
no_end = lacks CONTEXT_END
