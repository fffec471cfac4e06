-- Bytes that move a piece at a time.
use Rattle.std.proofs.Common.{◌≡◌, ◌≤◌, ◌+◌, ◌-◌, ℕ, List, ◌++◌, take, drop, length, Option}
use Rattle.std.proofs.Common.{sym, ap, refl, ◌∙◌, arith, length-append, length-drop}
use Rattle.std.proofs.Common.{length-take-le}
use Rattle.std.proofs.lemmas.List.{take_rest}
use Rattle.std.proofs.Math.Seq.{take-add}
use Rattle.sg_edge.specs.Edge.{in_front, behind}
use Rattle.sg_edge.proofs.EdgeLemmas.{in_front-append, behind-append}

-- what was taken, after one more take
pub in_front-more : (first before after : Option (List ℕ)) (taken piece : List ℕ)
    → first ≡ in_front taken before → before ≡ in_front piece after
    → first ≡ in_front (taken ++ piece) after
in_front-more first before after taken piece so_far more =
    so_far ∙ rw more (sym (in_front-append taken piece after))

-- how much was taken, after a take of n bytes
pub length-more : (taken piece : List ℕ) (n : ℕ) → n ≤ length piece
    → length (taken ++ take n piece) ≡ length taken + n
length-more taken piece n within =
    omega (arith, length-append taken (take n piece), length-take-le n piece within)

-- what was given, after one more put from the bytes that are left
pub behind-more : (first before after : Option (List ℕ)) (bytes : List ℕ) (at n : ℕ)
    → before ≡ behind (take at bytes) first
    → after ≡ behind (take n (take (length bytes - at) (drop at bytes))) before
    → after ≡ behind (take (at + n) bytes) first
behind-more first before after bytes at n so_far more =
    let append = behind-append (take at bytes) (take n (drop at bytes)) first in
    more ∙ rw (take_rest bytes at, so_far, ← append, take-add at n bytes) refl

-- a put takes no more than is left
pub put-within : (bytes : List ℕ) (at n : ℕ) → at ≤ length bytes
    → n ≤ length (take (length bytes - at) (drop at bytes)) → at + n ≤ length bytes
put-within bytes at n within some =
    omega (arith, ap length (take_rest bytes at), length-drop at bytes)
