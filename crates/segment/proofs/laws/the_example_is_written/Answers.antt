-- The format's example, by computing.
use Rattle.std.proofs.Common.{◌≡◌, ◌<◌, ℕ, zero, suc, true, List, [], ◌∷◌}
use Rattle.std.proofs.Common.{refl, arith}
use Rattle.std.specs.Prelude.{nat_lt}
use Rattle.std.specs.List.{list_all}
use Rattle.std.proofs.lemmas.Bool.{and_parts}
use Rattle.std.proofs.lemmas.Bool.Decides.{nat_tests}
use Rattle.std.specs.Str.{is_utf8, chars}
use lib.Utf8.{encode}
use Rattle.fst_code.specs.Rules.{postorder}
use Rattle.fst_code.specs.Shapes.{IsBytes}
use Rattle.fst_code.specs.Tails.{tails}
use Rattle.seg_bytes.specs.Fields.{part_at, number_at, text_at, tested, many_at}
use Rattle.seg_bytes.specs.DocumentBytes.{suggestion_bytes, document_bytes}
use Rattle.seg_bytes.specs.DocumentsRead.{suggestion_at, document_at}
use Rattle.seg_bytes.specs.Numbers.{wrong_number_after}
use Rattle.segment.specs.Example.{example_text}
use Rattle.segment.proofs.laws.the_example_is_written.Goals as goal

below : (a : ℕ) → nat_lt a 256 ≡ true → a < 256
below a h = grind (arith, nat_tests)

are_bytes : (bytes : List ℕ) → list_all (λ b. nat_lt b 256) bytes ≡ true → IsBytes bytes
are_bytes [] h i = omega arith
are_bytes (b ∷ bs) h zero = below b (and_parts (nat_lt b 256) (list_all (λ b. nat_lt b 256) bs) h).0
are_bytes (b ∷ bs) h (suc i) =
    are_bytes bs (and_parts (nat_lt b 256) (list_all (λ b. nat_lt b 256) bs) h).1 i

pub returns : goal.returns
unfolding part_at number_at text_at tested many_at suggestion_bytes document_bytes suggestion_at
    document_at wrong_number_after is_utf8 chars encode postorder tails
returns c = record {
  text = record { bytes = are_bytes example_text refl; valid = refl; maps = refl };
  bytes = refl;
  documents = refl;
  sound = refl;
  broken = refl;
}
