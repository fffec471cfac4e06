-- The path goes on along the first free arc.
use Rattle.std.proofs.Common.{◌≡◌, ap, ◌∙◌, ◌+◌, List, length}
use Rattle.fst_code.specs.Views.{edges_of}
use Rattle.path_desk.specs.Desks.{path_of}
use Rattle.best_first.specs.Followed.{FollowsPath}
use Rattle.best_first.specs.Matches.{Match}
use Rattle.best_first.specs.PathMatches.{Setting}
use Rattle.best_first.proofs.FollowLemmas.{is_node, short, within, free, one_arc}
use Rattle.best_first.proofs.SearchLemmas.{is-some, free-edge}
use Rattle.best_first.proofs.following.follow_arc.Given.{Over}
use Rattle.best_first.proofs.following.follow_arc.Goals as goal

pub node-node-requires : goal.node-node-requires
node-node-requires g c = is_node _ _ _ _ _ _ c.requires.follows.2

pub first_free-at-requires : goal.first_free-at-requires
first_free-at-requires g c = free _ _ _ _ _ _ c.requires.follows.2 (edges_of c.node-node.result)
    c.node-node.ensures.node c.requires.inner

pub put_range-requires-clause-within : goal.put_range-requires-clause-within
put_range-requires-clause-within g c = within _ _ _ _ _ _ c.requires.follows.2
    (edges_of c.node-node.result) c.node-node.ensures.node

pub put_range-requires-2-clause-within : goal.put_range-requires-2-clause-within
put_range-requires-2-clause-within g c = within _ _ _ _ _ _ c.requires.follows.2
    (edges_of c.node-node.result) c.node-node.ensures.node

pub put_range-requires-2-clause-following : goal.put_range-requires-2-clause-following
put_range-requires-2-clause-following g c = is-some c.put_range.new.desk _
    (c.in_ok-put_range.ensures.followed ∙ c.requires.follows.2.follows.path)

pub step-requires : goal.step-requires
step-requires g c = is-some c.put_range-2.new.desk _
    (c.in_ok-put_range-2.ensures.followed ∙ c.in_ok-put_range.ensures.followed
    ∙ c.requires.follows.2.follows.path)

pub child-requires : goal.child-requires
child-requires g c =
    within _ _ _ _ _ _ c.requires.follows.2 (edges_of c.node-node.result)
    c.node-node.ensures.node c.edge-edge.result
    (free-edge (edges_of c.node-node.result) c.first_free-at.result c.edge-edge.result
    c.first_free-at.ensures.free c.edge-edge.ensures)

goes_on : (g : Over) (c : goal.After-child g) (s : Setting) (r : List Match)
    → FollowsPath s (g.S.SegParts.nodes c.args.parts.now) (g.S.SegParts.listed c.args.parts.now) r
    c.args.desk.now c.args.entry
    → FollowsPath s (g.S.SegParts.nodes c.args.parts.now) (g.S.SegParts.listed c.args.parts.now) r
    c.step.new.self c.child.result
    × (length (path_of c.step.new.self) ≡ length (path_of c.args.desk.now) + 1)
goes_on g c s r h =
    one_arc s (g.S.SegParts.nodes c.args.parts.now) (g.S.SegParts.listed c.args.parts.now) r
    c.args.desk.now c.args.entry h c.put_range.new.desk c.put_range-2.new.desk
    c.step.new.self c.child.result (edges_of c.node-node.result) c.first_free-at.result
    c.len-count.result c.edge-edge.result c.requires.inner c.node-node.ensures.node
    c.first_free-at.ensures.free c.in_ok-put_range.ensures.value c.len-count.ensures
    c.in_ok-put_range-2.ensures.value c.edge-edge.ensures c.in_ok-step.ensures.ok
    c.child.ensures

pub returns-clause-follows : goal.returns-clause-follows
returns-clause-follows g c s r h = (goes_on g c s r h).0

pub returns-clause-longer : goal.returns-clause-longer
returns-clause-longer g c =
    (goes_on g c c.requires.follows.0 c.requires.follows.1 c.requires.follows.2).1

pub returns-clause-within : goal.returns-clause-within
returns-clause-within g c = short _ _ _ _ _ _ c.requires.follows.2 c.requires.inner

pub returns-in_err-step-clause-within : goal.returns-in_err-step-clause-within
returns-in_err-step-clause-within g c = short _ _ _ _ _ _ c.requires.follows.2 c.requires.inner

pub returns-in_err-put_range-clause-within : goal.returns-in_err-put_range-clause-within
returns-in_err-put_range-clause-within g c =
    short _ _ _ _ _ _ c.requires.follows.2 c.requires.inner

pub returns-in_err-put_range-2-clause-within : goal.returns-in_err-put_range-2-clause-within
returns-in_err-put_range-2-clause-within g c =
    short _ _ _ _ _ _ c.requires.follows.2 c.requires.inner

pub returns-clause-fixed : goal.returns-clause-fixed
returns-clause-fixed g c = (
  ap (λ d. d.reached) c.in_ok-step.ensures.ok ∙ c.in_ok-put_range-2.ensures.fixed.0
      ∙ c.in_ok-put_range.ensures.fixed.0,
  ap (λ d. d.room) c.in_ok-step.ensures.ok ∙ c.in_ok-put_range-2.ensures.fixed.1
      ∙ c.in_ok-put_range.ensures.fixed.1,
)
