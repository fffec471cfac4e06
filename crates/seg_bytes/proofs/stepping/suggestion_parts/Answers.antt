-- The text and the key stand one behind the other.
use Rattle.std.proofs.Common.{◌++◌}
use Rattle.std.specs.List.{flat_map}
use Rattle.seg_bytes.specs.DocumentBytes.{short_bytes, suggestion_bytes}
use Rattle.seg_bytes.specs.Packed.{behind_key}
use Rattle.seg_bytes.proofs.SteppingLemmas.{text_fits, text_stands}
use Rattle.seg_bytes.proofs.stepping.suggestion_parts.Goals as goal

pub long-text-requires : goal.long-text-requires
long-text-requires c =
    let s = c.requires.0 in
    let ss = c.requires.1 in
    let rest = c.requires.2 in (
      s.text,
      short_bytes s.key ++ behind_key s (flat_map suggestion_bytes ss ++ rest),
      text_fits s ss rest c.args.bytes.now c.requires.3,
      text_stands s ss rest c.args.bytes.now c.requires.3,
    )

pub short-key-requires : goal.short-key-requires
short-key-requires c =
    let s = c.requires.0 in
    let ss = c.requires.1 in
    let rest = c.requires.2 in
    let after = behind_key s (flat_map suggestion_bytes ss ++ rest) in (
      s.key,
      after,
      c.long-text.ensures.rest s.text (short_bytes s.key ++ after)
          (text_fits s ss rest c.args.bytes.now c.requires.3)
          (text_stands s ss rest c.args.bytes.now c.requires.3),
    )

pub returns-clause-text : goal.returns-clause-text
returns-clause-text c = λ s ss rest h.
    c.long-text.ensures.front s.text
    (short_bytes s.key ++ behind_key s (flat_map suggestion_bytes ss ++ rest))
    (text_fits s ss rest c.args.bytes.now h) (text_stands s ss rest c.args.bytes.now h)

pub returns-clause-key : goal.returns-clause-key
returns-clause-key c = λ s ss rest h.
    let after = behind_key s (flat_map suggestion_bytes ss ++ rest) in
    c.short-key.ensures.front s.key after
    (c.long-text.ensures.rest s.text (short_bytes s.key ++ after)
    (text_fits s ss rest c.args.bytes.now h) (text_stands s ss rest c.args.bytes.now h))

pub returns-clause-rest : goal.returns-clause-rest
returns-clause-rest c = λ s ss rest h.
    let after = behind_key s (flat_map suggestion_bytes ss ++ rest) in
    c.short-key.ensures.rest s.key after
    (c.long-text.ensures.rest s.text (short_bytes s.key ++ after)
    (text_fits s ss rest c.args.bytes.now h) (text_stands s ss rest c.args.bytes.now h))
