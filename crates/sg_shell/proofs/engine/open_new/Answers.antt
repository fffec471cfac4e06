-- A view begins under a new name.
use Rattle.std.proofs.Common.{◌∙◌, List, Option, sym, subst}
use Rattle.sg_view.specs.Viewing.{PlainView}
use Rattle.sg_shell.specs.Working.{NamedBuilt, IsWorking, Begins}
use Rattle.sg_shell.proofs.EngineLemmas.{passes_working}
use Rattle.sg_shell.proofs.PassLemmas.{passes_both}
use Rattle.sg_shell.proofs.NamedLemmas.{open_begins, open_is_full}
use Rattle.sg_shell.proofs.engine.open_new.Goals as goal

pub returns-in_err-refresh-clause-working : goal.returns-in_err-refresh-clause-working
returns-in_err-refresh-clause-working g c =
    subst (λ (os : List NamedBuilt). IsWorking c.refresh.new.index os) (sym c.reserve.ensures.items)
    (passes_working c.args.index.now c.refresh.new.index c.args.opened.now.items
    c.in_err-refresh.ensures.passes c.requires.working)

pub returns-in_err-view-clause-working : goal.returns-in_err-view-clause-working
returns-in_err-view-clause-working g c =
    subst (λ (os : List NamedBuilt). IsWorking c.begin.new.index os) (sym c.reserve.ensures.items)
    (passes_working c.args.index.now c.begin.new.index c.args.opened.now.items
    (passes_both c.args.index.now c.refresh.new.index c.begin.new.index
    c.in_ok-refresh.ensures.passes c.in_err-view.ensures.err) c.requires.working)

pub returns-in-Some : goal.returns-in-Some
returns-in-Some g c =
    let done = open_begins c.args.line c.upto-upto.result c.args.name c.in_ok-shown.shown
    c.args.index.now c.refresh.new.index c.begin.new.index c.args.opened.now.items
    c.reserve.new.self.items c.push_reserved.new.self.items c.in-Some.view
    c.in_ok-view.ensures.legal c.requires.working c.requires.new
    c.in_ok-refresh.ensures.ok c.in_ok-refresh.ensures.passes
    (subst (λ (o : Option PlainView). Begins c.refresh.new.index c.begin.new.index o) c.in-Some.is
    c.in_ok-view.ensures.ok) c.upto-upto.ensures
    (c.in_ok-shown.ensures ∙ c.as_str.ensures.text) c.reserve.ensures.items
    c.push_reserved.ensures.items in
    record { reply = done.answers; working = done.working }

pub returns-in-None : goal.returns-in-None
returns-in-None g c =
    let full = open_is_full c.args.line c.args.name c.args.index.now c.refresh.new.index
    c.begin.new.index c.args.opened.now.items c.reserve.new.self.items c.requires.working
    c.requires.new c.in_ok-refresh.ensures.ok c.in_ok-refresh.ensures.passes
    (subst (λ (o : Option PlainView). Begins c.refresh.new.index c.begin.new.index o) c.in-None.is
    c.in_ok-view.ensures.ok) c.reserve.ensures.items in
    record { reply = full.answers; working = full.working }
