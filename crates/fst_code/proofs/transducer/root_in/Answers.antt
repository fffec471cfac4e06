-- The last node.
use Rattle.std.proofs.Common.{◌≡◌, ◌∙◌, ◌<◌, sym, arith, refl, length}
use Rattle.fst_code.specs.Bytes.{nodes_of}
use Rattle.fst_code.proofs.OneTextLemmas.{bytes_of, none_listed, some_listed}
use Rattle.fst_code.proofs.TransducerLemmas.{transducer_of}
use Rattle.fst_code.proofs.ViewLemmas.{parts_of}
use Rattle.fst_code.proofs.transducer.root_in.Goals as goal

pub number_at-count-requires : goal.number_at-count-requires
number_at-count-requires c =
    let l = (parts_of c.args.bytes.now c.requires).long in omega (arith, l)

pub returns-then-count-eq0-clause-none : goal.returns-then-count-eq0-clause-none
returns-then-count-eq0-clause-none c =
    let p = parts_of c.args.bytes.now c.requires in
    let n : length (nodes_of c.args.bytes.now) ≡ 0 =
    p.count ∙ sym c.number_at-count.ensures ∙ c.if-count-eq0.true
    in
    (λ _. none_listed (nodes_of c.args.bytes.now) n, λ _. refl)

pub returns-clause-none : goal.returns-clause-none
returns-clause-none c =
    let b = c.args.bytes.now in
    let p = parts_of b c.requires in
    let n : length (nodes_of b) ≡ c.number_at-count.result =
    p.count ∙ sym c.number_at-count.ensures in
    let pos : 0 < length (nodes_of b) = omega (arith, n, c.if-count-eq0.false) in
    (λ e. absurd cc, λ e. absurd (some_listed b (bytes_of b c.type_inv.bytes) c.requires pos e))

pub returns-clause-some : goal.returns-clause-some
returns-clause-some c =
    let b = c.args.bytes.now in
    let p = parts_of b c.requires in
    let n : length (nodes_of b) ≡ c.number_at-count.result =
    p.count ∙ sym c.number_at-count.ensures in
    omega (arith, n, c.if-count-eq0.false)

pub returns-then-count-eq0-clause-sound : goal.returns-then-count-eq0-clause-sound
returns-then-count-eq0-clause-sound c =
    transducer_of c.args.bytes.now (bytes_of c.args.bytes.now c.type_inv.bytes) c.requires

pub returns-clause-sound : goal.returns-clause-sound
returns-clause-sound c =
    transducer_of c.args.bytes.now (bytes_of c.args.bytes.now c.type_inv.bytes) c.requires
