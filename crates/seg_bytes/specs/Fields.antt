-- Fields of bytes, read one after another up to the first that breaks. Source: this project's own
-- format.
use Rattle.std.specs.Prelude.{ℕ, zero, suc, ◌+◌, Bool, nat_le, if◌then◌else◌}
use Rattle.std.specs.Prelude.{List, [], ◌∷◌, length, take, drop}
use Rattle.std.specs.Int.{Width, byte_len, from_be_bytes}

-- what was read, and where it ends; or where the first field that breaks begins
pub data Reading (A : Type 0) : Type 0 where
  reads : A → ℕ → Reading A
  broken : ℕ → Reading A

-- how something is read from bytes, from an offset on
abbrev pub Reader : Type 0 → Type 0
Reader A = List ℕ → ℕ → Reading A

-- one after another
abbrev pub then_read : {A B : Type 0} → Reading A → (A → ℕ → Reading B) → Reading B
then_read (reads x end) next = next x end
then_read (broken at) next = broken at

-- n bytes from an offset on, of the field that begins at start
unfoldable pub part_at : ℕ → ℕ → Reader (List ℕ)
part_at start n bytes at =
    if nat_le (at + n) (length bytes) then reads (take n (drop at bytes)) (at + n)
    else broken start

-- a number, the greatest byte first
unfoldable pub number_at : Width → Reader ℕ
number_at w bytes at =
    then_read (part_at at (byte_len w) bytes at) (λ field end.
    reads (from_be_bytes w field) end)

-- bytes behind their length, which belongs to their field
unfoldable pub text_at : Width → Reader (List ℕ)
text_at w bytes at =
    then_read (number_at w bytes at) (λ n from.
    part_at at n bytes from)

-- a field that passes a test
unfoldable pub tested : {A : Type 0} → (A → Bool) → Reader A → Reader A
tested test read bytes at =
    then_read (read bytes at) (λ x end.
    if test x then reads x end else broken at)

-- so many, one after another
unfoldable pub many_at : {A : Type 0} → Reader A → ℕ → Reader (List A)
many_at read zero bytes at = reads [] at
many_at read (suc n) bytes at =
    then_read (read bytes at) (λ x next.
    then_read (many_at read n bytes next) (λ xs end.
    reads (x ∷ xs) end))
