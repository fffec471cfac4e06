-- The characters of a text.
use Rattle.std.proofs.Common.{◌≡◌, List, ℕ, chars, encode_utf8_all, sym}
use Rattle.std.specs.Str.{IsUtf8}
use Rattle.std.proofs.lemmas.Str.{chars_from_encodes}

-- of a text that is some characters' UTF-8
pub chars-encoded : (bytes cs : List ℕ) → IsUtf8 bytes → bytes ≡ encode_utf8_all cs
    → chars bytes ≡ cs
chars-encoded bytes cs text is = sym (chars_from_encodes cs bytes text (sym is))
