-- The last of the named views is ended.
use Rattle.std.proofs.Common.{◌++◌, Option, ap, ◌∙◌}
use Rattle.std.specs.Prelude.{option_to_list}
use Rattle.sg_shell.specs.Working.{NamedBuilt}
use Rattle.sg_shell.proofs.NamedLemmas.{last_open, last_given}
use Rattle.sg_shell.proofs.engine.Worker.give_back.Goals as goal

pub end_opened-requires : goal.end_opened-requires
end_opened-requires g c =
    last_open c.loop-last.index c.pop.new.self.items c.loop-last.opened.items c.in-Some.last
    (c.pop.ensures.items ∙ ap (λ (o : Option NamedBuilt). c.pop.new.self.items ++ option_to_list o)
    c.in-Some.is) c.loop-last.invariant

pub loop-last-preserved : goal.loop-last-preserved
loop-last-preserved g c =
    last_given c.loop-last.index c.end_opened.new.index c.pop.new.self.items
    c.loop-last.opened.items c.in-Some.last
    (c.pop.ensures.items ∙ ap (λ (o : Option NamedBuilt). c.pop.new.self.items ++ option_to_list o)
    c.in-Some.is) c.end_opened.ensures.ended c.loop-last.invariant
