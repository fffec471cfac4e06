-- What is known of an answer, case by case.
use Rattle.std.proofs.Common.{◌≡◌, Bool, true, false, Option, Some, None, MatchOption, refl}
use Rattle.std.specs.Bool.{MatchBool}

-- what follows in each case
pub either : {X P P2 : Type 0} {Q Q2 : X → Type 0} (o : Option X) → (P → P2)
    → ((x : X) → Q x → Q2 x) → MatchOption o P Q → MatchOption o P2 Q2
either None f g h = f h
either (Some x) f g h = g x h

pub either_test : {P P2 Q Q2 : Type 0} (b : Bool) → (P → P2) → (Q → Q2) → MatchBool b P Q
    → MatchBool b P2 Q2
either_test true f g h = f h
either_test false f g h = g h

-- what holds where it isn't Some
pub none_of : {X : Type 0} (o : Option X) (P : Type 0) (Q : X → Type 0)
    → ((x : X) → o ≡ Some x → ⊥) → MatchOption o P Q → P
none_of None P Q e h = h
none_of (Some x) P Q e h = absurd (e x refl)
