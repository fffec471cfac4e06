-- Before the first path.
use Rattle.std.proofs.Common.{get_or, ap, ◌∙◌, arith}
use Rattle.fst_code.specs.Bytes.{nodes_of}
use Rattle.fst_walk.specs.declared.spot.Spot.{Spot}
use Rattle.fst_walk.proofs.TrailLemmas.{new_trail}
use Rattle.fst_walk.proofs.EndingLemmas.{root_first}
use Rattle.fst_walk.proofs.cursor.Cursor.new.Goals as goal

pub invariant_of-result : goal.invariant_of-result
invariant_of-result c =
    let e = c.new-in-Some.ensures in
    let t = nodes_of c.args.t.now in
    record {
      sound = c.in-Some.ensures.sound;
      fits = omega (arith, e.len);
      stands = (
        new_trail t c.new-in-Some.result c.in-Some.root c.in-Some.ensures.root e.len e.room e.top,
        λ d. ap (λ n. (get_or c.new-in-Some.result.frames n d).ordinal) e.len
            ∙ ap (λ (s : Spot). s.ordinal) (e.top d)
            ∙ root_first t c.in-Some.root c.in-Some.ensures.root,
      );
    }
