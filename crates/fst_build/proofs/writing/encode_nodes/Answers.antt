-- All pieces.
use Rattle.std.proofs.Common.{◌≡◌, ◌∙◌, ◌+◌, ◌++◌, List, ℕ, ap, length}
use Rattle.fst_code.specs.Bytes.{head_bytes}
use Rattle.fst_build.proofs.WritingLemmas.{written_is}
use Rattle.fst_build.proofs.writing.encode_nodes.Goals as goal

pub returns : goal.returns
returns c =
    let nodes = c.len-nodes.result + 1 in
    let arcs = c.arcs_of.result + length c.args.root.now in
    let n : nodes ≡ length c.args.register.now + 1 = ap (λ (k : ℕ). k + 1) c.len-nodes.ensures in
    let a = ap (λ (k : ℕ). k + length c.args.root.now) c.arcs_of.ensures in
    let head = c.in_ok-put_header.ensures
    ∙ ap (λ (x : List ℕ). x ++ head_bytes nodes arcs c.args.paths)
    (c.in_ok-reserve.ensures.items ∙ c.new-bytes.ensures.items) in
    written_is c.args.register.now c.args.root.now nodes arcs c.args.paths
    c.put_header.new.bytes.items c.put_entries.new.bytes.items c.put_number.new.bytes.items
    c.put_nodes.new.bytes.items c.put_node.new.bytes.items n a head c.in_ok-put_entries.ensures
    c.in_ok-put_number.ensures c.in_ok-put_nodes.ensures c.in_ok-put_node.ensures
