-- A named view is taken out and ended.
use Rattle.std.proofs.Common.{◌∙◌, sym, subst, arith}
use Rattle.std.specs.Prelude.{Contains}
use Rattle.index_core.specs.Records.{open_views}
use Rattle.index_shared.specs.OwnViews.{view_in}
use Rattle.index_single.specs.declared.caller.TheConstants.{CALLER}
use Rattle.sg_shell.specs.Working.{NamedBuilt}
use Rattle.sg_shell.proofs.CloseLemmas.{is_open}
use Rattle.sg_shell.proofs.NamedLemmas.{found_at, close_unknown, close_found}
use Rattle.sg_shell.proofs.engine.close.Goals as goal

pub remove-closed-requires : goal.remove-closed-requires
remove-closed-requires g c =
    let found = found_at c.args.name c.args.opened.now.items c.in-Some.at
    (sym c.position_of.ensures ∙ c.in-Some.is) in
    let within = found.within in
    let long = c.args.opened.now.ok.0 in
    omega (arith, within, long)

pub end_opened-requires : goal.end_opened-requires
end_opened-requires g c =
    let found = found_at c.args.name c.args.opened.now.items c.in-Some.at
    (sym c.position_of.ensures ∙ c.in-Some.is) in
    subst (λ (o : NamedBuilt). Contains (open_views c.args.index.now) (view_in CALLER o.view))
    (sym c.remove-closed.ensures.value)
    (is_open c.args.index.now c.args.opened.now.items c.in-Some.at c.remove-closed.result
    c.requires.holds found.within)

pub returns-in-Some : goal.returns-in-Some
returns-in-Some g c =
    let done = close_found c.args.line c.args.name c.args.index.now c.end_opened.new.index
    c.args.opened.now.items c.remove-closed.new.self.items c.in-Some.at c.remove-closed.result
    c.end_opened.ensures.legal c.requires
    (sym c.position_of.ensures ∙ c.in-Some.is) c.remove-closed.ensures.value
    c.remove-closed.ensures.items c.end_opened.ensures.ended in
    record { reply = done.answers; working = done.working }

pub returns-in-None-clause-reply : goal.returns-in-None-clause-reply
returns-in-None-clause-reply g c =
    close_unknown c.args.line c.args.name c.args.index.now c.args.opened.now.items
    (sym c.position_of.ensures ∙ c.in-None.is)
