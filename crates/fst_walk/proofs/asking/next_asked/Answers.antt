-- The next query context.
use Rattle.std.proofs.Common.{◌≡◌, [], false, sym, ap, ◌∙◌}
use Rattle.std.proofs.Common.{refl, subst, lit≤}
use Rattle.sg_context.specs.Boosts.{PlainQueryContext}
use Rattle.sg_context.specs.Queries.{PlainQuery}
use Rattle.sg_base.specs.Lists.{In}
use Rattle.fst_walk.specs.Asked.{asked_of, is_left_at, IsNext, everything}
use Rattle.fst_walk.specs.Walks.{position_of}
use Rattle.fst_walk.proofs.AskingLemmas.{some_asked, none_asked, all_none, all_next, no_items}
use Rattle.fst_walk.proofs.asking.next_asked.Goals as goal

pub returns-then-is_left : goal.returns-then-is_left
returns-then-is_left c =
    let items : c.items-asked.result.now ≡ c.args.query.now.contexts =
    c.items-asked.ensures ∙ ap (λ (z : PlainQuery). z.contexts) c.query.view_is in
    let none : c.args.query.now.contexts ≡ [] =
    sym items ∙ no_items c.items-asked.result.now (sym c.if-is_empty.ensures) in (
      everything,
      subst (λ xs. IsNext xs (position_of c.args.walk.now) everything) (sym none)
          (all_next (position_of c.args.walk.now) (sym c.if-is_left.ensures)),
      refl,
      refl,
      refl,
      lit≤ tt,
    )

pub returns-then-is_empty : goal.returns-then-is_empty
returns-then-is_empty c =
    let items : c.items-asked.result.now ≡ c.args.query.now.contexts =
    c.items-asked.ensures ∙ ap (λ (z : PlainQuery). z.contexts) c.query.view_is in
    let none : c.args.query.now.contexts ≡ [] =
    sym items ∙ no_items c.items-asked.result.now (sym c.if-is_empty.ensures) in
    subst (λ xs. (a : PlainQueryContext) → In a (asked_of xs)
    → is_left_at (position_of c.args.walk.now) a.context ≡ false) (sym none)
    (all_none (position_of c.args.walk.now) (sym c.if-is_left.ensures))

pub returns-in-None : goal.returns-in-None
returns-in-None c =
    let items : c.items-asked.result.now ≡ c.args.query.now.contexts =
    c.items-asked.ensures ∙ ap (λ (z : PlainQuery). z.contexts) c.query.view_is in
    subst (λ xs. (a : PlainQueryContext) → In a (asked_of xs)
    → is_left_at (position_of c.args.walk.now) a.context ≡ false) items
    (none_asked (position_of c.args.walk.now) c.items-asked.result.now (sym c.if-is_empty.ensures)
    c.in-None.ensures)

pub returns-in-Some : goal.returns-in-Some
returns-in-Some c =
    let items : c.items-asked.result.now ≡ c.args.query.now.contexts =
    c.items-asked.ensures ∙ ap (λ (z : PlainQuery). z.contexts) c.query.view_is in (
      c.in-Some.one.now,
      subst (λ xs. IsNext xs (position_of c.args.walk.now) c.in-Some.one.now)
          items
          (some_asked (position_of c.args.walk.now) c.items-asked.result.now c.in-Some.one.now
          (sym c.if-is_empty.ensures) c.in-Some.ensures),
      c.context_bytes.ensures.value,
      ap (λ (q : PlainQueryContext). q.prefix) c.one.view_is,
      c.context_bytes.ensures.clean,
      c.context_bytes.ensures.fits,
    )
