-- The id stands behind the number.
use Rattle.std.proofs.Common.{◌∙◌}
use Rattle.seg_bytes.specs.Packed.{behind_id}
use Rattle.seg_bytes.proofs.SteppingLemmas.{has_seq, id_stands}
use Rattle.seg_bytes.proofs.stepping.id_in.Goals as goal

pub behind-requires : goal.behind-requires
behind-requires c = has_seq c.requires.0 c.requires.1 c.args.bytes.now c.requires.2

pub short-requires : goal.short-requires
short-requires c =
    let d = c.requires.0 in
    let rest = c.requires.1 in (
      d.document.id,
      behind_id d rest,
      c.behind.ensures ∙ id_stands d rest c.args.bytes.now c.requires.2,
    )

pub returns-clause-front : goal.returns-clause-front
returns-clause-front c = λ d rest h.
    c.short.ensures.front d.document.id (behind_id d rest)
    (c.behind.ensures ∙ id_stands d rest c.args.bytes.now h)

pub returns-clause-rest : goal.returns-clause-rest
returns-clause-rest c = λ d rest h.
    c.short.ensures.rest d.document.id (behind_id d rest)
    (c.behind.ensures ∙ id_stands d rest c.args.bytes.now h)
