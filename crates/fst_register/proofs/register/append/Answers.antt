-- The vectors grow together.
use Rattle.std.proofs.Common.{rules}
use Rattle.fst_register.proofs.RegisterLemmas.{appended}
use Rattle.fst_register.proofs.register.append.Goals as goal

pub returns-clause-register : goal.returns-clause-register
returns-clause-register c =
    appended c.args.heads.now c.args.chain.now.items c.args.nodes.now c.args.node.now
    c.node_bucket-bucket.result c.len.result c.push_reserved.new.self.items c.push.new.self
    c.requires.register c.requires.absent c.requires.few c.requires.buckets
    c.node_bucket-bucket.ensures.value c.node_bucket-bucket.ensures.below
    (search rules) (search rules) c.in_ok-push.ensures.ok
