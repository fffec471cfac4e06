-- Without deletes they stay.
use Rattle.std.proofs.Common.{rules, ◌≡◌, ◌∙◌, ℕ, sym, ap, List, length}
use Rattle.std.proofs.lemmas.List.{nil_from_length}
use Rattle.seg_live.specs.LiveDocs.{live_without}
use Rattle.seg_live.proofs.BitLemmas.{without_none}
use Rattle.piece_docs.proofs.live_docs.live_without.Goals as goal

pub returns-then-is_empty : goal.returns-then-is_empty
returns-then-is_empty c =
    let none : length c.args.dead.now ≡ 0 = search rules in
    sym (ap (λ (places : List ℕ). live_without 0 places c.args.live.value)
    (nil_from_length c.args.dead.now none)
    ∙ without_none 0 c.args.live.value)
