-- As many nodes as ends.
use Rattle.std.proofs.Common.{◌≡◌, length, sym, ◌∙◌, ap, rules}
use Rattle.fst_register.proofs.NodeListLemmas.{length-nodes_between}
use Rattle.fst_register.proofs.nodes.Nodes.len.Goals as goal

pub returns : goal.returns
returns c =
    let e : c.len.result ≡ length c.self.inside.ends.items = search rules in
    e ∙ sym (length-nodes_between 0 c.self.inside.ends.items c.self.inside.edges.items)
    ∙ ap length c.self.view_is
