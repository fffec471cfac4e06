-- At the beginning all starts are left.
use Rattle.std.proofs.Common.{◌≡◌, ℕ, List, length, ap, ◌∙◌, arith}
use Rattle.std.proofs.Common.{None}
use Rattle.sg_base.specs.declared.node.Edge.{Edge}
use Rattle.fst_code.specs.Lists.{root_paths}
use Rattle.sg_context.specs.Queries.{PlainQuery}
use Rattle.fst_code.specs.Bytes.{nodes_of}
use Rattle.fst_walk.specs.Starts.{start_contexts}
use Rattle.fst_walk.specs.Asked.{starts_at}
use Rattle.fst_walk.specs.Walks.{left_of, position_of}
use Rattle.fst_walk.specs.declared.walk.Walk.{Walk}
use Rattle.fst_walk.specs.declared.walk.Stage.TheVariants.{Fresh}
use Rattle.fst_walk.proofs.AskingLemmas.{stands_at}
use Rattle.fst_walk.proofs.StartsLemmas.{filter_all, starts_fewer, ready_new}
use Rattle.fst_walk.proofs.starts.Starts.new.Goals as goal

all_left : (t : List (List Edge)) (q : PlainQuery) (w : Walk) → w.stage ≡ Fresh
    → left_of t q w ≡ start_contexts (root_paths t) q
all_left t q w e =
    let here : position_of w ≡ None = stands_at w Fresh e in
    ap (starts_at (root_paths t) q) here ∙ filter_all (start_contexts (root_paths t) q)

pub invariant_of-result : goal.invariant_of-result
invariant_of-result g c =
    let t = nodes_of c.args.t.now in
    let q = c.args.query.now in
    let w = c.new.result in
    let e = c.new.ensures in
    let n = starts_fewer (root_paths t) q in
    let l = ap (λ (z : List (List ℕ)). length z) (all_left t q w e.stage) in
    let p = c.root_spot.ensures.sound.paths in
    record {
      sound = c.root_spot.ensures.sound;
      contexts = c.requires;
      root = c.root_spot.ensures.root;
      ready = ready_new t q w e.stage (omega (arith, e.len));
      count = omega (arith, n, l, p);
    }

pub returns-clause-contexts : goal.returns-clause-contexts
returns-clause-contexts g c = all_left (nodes_of c.args.t.now) c.args.query.now c.new.result
    c.new.ensures.stage
