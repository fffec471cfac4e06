-- The root.
use Rattle.std.proofs.Common.{arith}
use Rattle.fst_code.specs.Bytes.{nodes_of}
use Rattle.fst_walk.proofs.SpotLemmas.{root_place}
use Rattle.fst_walk.proofs.seeking.root_spot.Goals as goal

pub returns-in-Some-clause-root : goal.returns-in-Some-clause-root
returns-in-Some-clause-root c =
    let e = c.in-Some.ensures.some in
    record {
      is_node = omega (arith, e);
      meets =
          root_place (nodes_of c.args.t.now) c.in-Some.node.0 e;
    }
