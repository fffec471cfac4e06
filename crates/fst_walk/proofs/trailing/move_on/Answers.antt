-- By where the trail stands.
use Rattle.std.proofs.Common.{sym, ◌∙◌}
use Rattle.fst_code.specs.Bytes.{nodes_of}
use Rattle.fst_walk.proofs.OptionLemmas.{either_test}
use Rattle.fst_walk.proofs.TrailLemmas.{stands_fresh, stands_at_path, stands_past, nowhere}
use Rattle.fst_walk.proofs.trailing.move_on.Goals as goal

pub climb-requires-clause-trail : goal.climb-requires-clause-trail
climb-requires-clause-trail g c =
    (stands_at_path (nodes_of c.args.t.now) c.args.stage c.requires.stands.0 c.args.trail.now
    c.in-AtPath.is c.requires.stands.1).0

pub returns-in-Fresh-clause-moved : goal.returns-in-Fresh-clause-moved
returns-in-Fresh-clause-moved g c = λ given h.
    stands_fresh (nodes_of c.args.t.now) c.args.stage given c.args.trail.now c.in-Fresh.is h

pub returns-in-AtPath-clause-moved : goal.returns-in-AtPath-clause-moved
returns-in-AtPath-clause-moved g c = λ given h.
    let last = stands_at_path (nodes_of c.args.t.now) c.args.stage given c.args.trail.now
    c.in-AtPath.is h in
    either_test c.climb.result
    (λ m. record { trail = m.trail; place = λ d. m.follows d ∙ last.1 d })
    (λ e. sym (last.1 nowhere) ∙ e nowhere)
    c.climb.ensures.moved

pub returns-in-Past-clause-moved : goal.returns-in-Past-clause-moved
returns-in-Past-clause-moved g c = λ given h.
    stands_past (nodes_of c.args.t.now) c.args.stage given c.args.trail.now c.in-Past.is h
