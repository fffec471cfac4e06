-- A query in a named view.
use Rattle.std.proofs.Common.{◌≡◌, ◌∙◌, sym, subst, arith, slice_index_or}
use Rattle.sg_shell.specs.Working.{NamedBuilt}
use Rattle.sg_shell.proofs.NamedLemmas.{found_at, answer_unknown, answer_named}
use Rattle.sg_shell.proofs.engine.ask.Goals as goal

pub index-found-requires : goal.index-found-requires
index-found-requires c =
    let found = found_at c.args.name.now c.args.opened.now.items c.in-Some.at
    (sym c.position_of.ensures ∙ c.in-Some.is) in
    let within = found.within in
    let long = c.args.opened.now.ok.0 in
    omega (arith, within, long)

pub returns-in_ok-reply-in-Some : goal.returns-in_ok-reply-in-Some
returns-in_ok-reply-in-Some c =
    answer_named c.args.line c.args.name.now c.args.query.now c.args.index.now
    c.args.opened.now.items c.in-Some.at _ _ c.requires
    (sym c.position_of.ensures ∙ c.in-Some.is)
    (subst (λ (o : NamedBuilt). o ≡ slice_index_or c.args.opened.now.items c.in-Some.at o)
    (sym c.found.view_is) c.index-found.ensures)
    c.in_ok-reply-in-Some.ensures.reply c.in_ok-reply-in-Some.ensures.few

pub returns-in-None : goal.returns-in-None
returns-in-None c =
    answer_unknown c.args.line c.args.name.now c.args.query.now c.args.index.now
    c.args.opened.now.items (sym c.position_of.ensures ∙ c.in-None.is)
