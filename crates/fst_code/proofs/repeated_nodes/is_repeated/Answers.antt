-- A chain has every node of its bucket.
use Rattle.std.proofs.Common.{arith, true, false, length, ◌-◌, ◌≡◌, get_or, sym, ◌∙◌, ap, ◌≤◌, ◌<◌}
use Rattle.std.proofs.Common.{[], List}
use Rattle.sg_base.specs.declared.node.Edge.{Edge}
use Rattle.sg_base.specs.Nodes.{same_edges}
use Rattle.fst_code.specs.Bytes.{nodes_of}
use Rattle.sg_base.specs.Chains.{bucket_in}
use Rattle.fst_code.specs.Views.{edges_of}
use Rattle.sg_base.proofs.EqualNodes.{other_bucket, step}
use Rattle.fst_code.proofs.RepeatLemmas.{held_some, held_none}
use Rattle.fst_code.proofs.repeated_nodes.is_repeated.Goals as goal

pub loop-cell-init : goal.loop-cell-init
loop-cell-init c =
    let k = c.requires.chained in
    let b = c.args.bucket in (
      k.bound b,
      (λ h. k.head_in b c.requires.below h),
      λ j nj jl same. absurd (k.head b j c.requires.below nj jl same),
    )

pub loop-cell-preserved : goal.loop-cell-preserved
loop-cell-preserved c =
    let ns = nodes_of c.args.bytes.now in
    let n = length c.args.heads.now in
    let id = c.args.id in
    let k = c.requires.chained in
    let cell = c.loop-cell.cell in
    let inv = c.loop-cell.invariant in
    let next = get_or c.args.chain.now (cell - 1) 0 in
    let pos : 0 < cell = omega (arith, c.loop-cell-test.true) in
    let there : cell - 1 < id = omega (arith, pos, inv.0) in
    let low : next ≤ cell - 1 = k.falls (cell - 1) there in
    let this : same_edges (get_or ns (cell - 1) []) (get_or ns id []) ≡ false =
    ap (λ (x : List Edge). same_edges x (get_or ns id [])) (sym c.node_in-other.ensures.edges)
    ∙ ap (same_edges (edges_of c.node_in-other.result)) (sym c.node_in-node.ensures.edges)
    ∙ sym c.same.ensures ∙ c.if-same.false in (
      omega (arith, low, there),
      (λ h. k.cell_in (cell - 1) there h ∙ inv.1 pos),
      step (λ j. same_edges (get_or ns j []) (get_or ns id [])) (bucket_in n ns) cell next id
          c.args.bucket pos inv.0 low inv.1 inv.2 this
          (λ j nj jl same. k.gap (cell - 1) j there nj jl same),
    )

pub returns-then-same : goal.returns-then-same
returns-then-same c =
    let ns = nodes_of c.args.bytes.now in
    let id = c.args.id in
    let cell = c.loop-cell.cell in
    let inv = c.loop-cell.invariant in
    let there : cell - 1 < id = omega (arith, c.loop-cell-test.true, inv.0) in
    let this : same_edges (get_or ns (cell - 1) []) (get_or ns id []) ≡ true =
    ap (λ (x : List Edge). same_edges x (get_or ns id [])) (sym c.node_in-other.ensures.edges)
    ∙ ap (same_edges (edges_of c.node_in-other.result)) (sym c.node_in-node.ensures.edges)
    ∙ sym c.same.ensures ∙ c.if-same.true in
    sym (held_some (get_or ns id []) ns (cell - 1) id there (omega (arith, there, c.requires.there))
    this)

pub returns : goal.returns
returns c =
    let ns = nodes_of c.args.bytes.now in
    let id = c.args.id in
    sym (held_none (get_or ns id []) ns id
    (λ j h. other_bucket (length c.args.heads.now) (get_or ns j []) (get_or ns id [])
    (λ same. c.loop-cell.invariant.2 j (omega (arith, c.loop-cell-test.false)) h
    (same ∙ sym c.requires.bucket))))
