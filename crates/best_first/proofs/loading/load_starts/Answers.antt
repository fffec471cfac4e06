-- Each start that is given is put in, until none is left.
use Rattle.std.proofs.Common.{true, ◌≡◌, ◌∙◌, ap, subst, refl, arith, []}
use Rattle.sg_base.specs.ByteStrings.{lacks}
use Rattle.sg_context.specs.Queries.{PlainQuery, IsQuery}
use Rattle.best_first.specs.Roots.{Loading}
use Rattle.best_first.proofs.EndingLemmas.{key_lacks_end}
use Rattle.best_first.proofs.LoadLemmas.{loading-new, loading-end, start_cost, count_within}
use Rattle.best_first.proofs.LoadLemmas.{loaded-next, fewer-left}
use Rattle.best_first.proofs.loading.load_starts.Goals as goal

pub loop-start-init : goal.loop-start-init
loop-start-init g c =
    let e = c.starts-starts.ensures in
    let b = e.budget in
    record {
      loaded = (
        [],
        subst (λ z. Loading c.args.query.now (g.S.SegParts.nodes c.args.parts.now) z
            c.starts-starts.result []) e.contexts
            (loading-new c.args.query.now (g.S.SegParts.nodes c.args.parts.now)
            c.starts-starts.result e.query e.nodes e.given),
        refl,
        refl,
      );
      ticks = omega (arith, b);
      lists = refl;
      need = refl;
    }

pub root-requires : goal.root-requires
root-requires g c =
    start_cost _ _ _ _ c.loop-start.starts c.next.new.self c.loop-start.invariant.loaded.0
    c.in-Some.start c.starts-starts.ensures.stands.1 c.loop-start.invariant.loaded.1
    c.in-Some.ensures.start

pub overflow_add-count : goal.overflow_add-count
overflow_add-count g c =
    let l = c.loop-start.invariant.loaded in
    let k = count_within _ _ _ c.loop-start.starts l.0 c.starts-starts.ensures.stands.1 l.1 in
    let e = l.3 in
    omega (arith, k, e)

pub loop-start-smaller : goal.loop-start-smaller
loop-start-smaller g c =
    fewer-left c.loop-start.starts c.next.new.self c.in-Some.start c.in-Some.ensures.start

pub loop-start-preserved : goal.loop-start-preserved
loop-start-preserved g c =
    let l = c.loop-start.invariant.loaded in
    let a = c.loop-start.invariant.ticks in
    let b = c.next.ensures.ticks in
    record {
      loaded = loaded-next c.args.query.now (g.S.SegParts.nodes c.args.parts.now) _ c.args.desk.now
          c.loop-start.desk c.put_start.new.self _ c.loop-start.starts c.next.new.self l.0
          c.in-Some.start _ c.loop-start.count l.1 l.2 l.3 c.in-Some.ensures.start
          c.next.ensures.query c.next.ensures.nodes c.root.ensures
          (c.as_slice-prefix.ensures.value ∙ ap (λ q. q.prefix) c.query.view_is)
          c.in_ok-put_start.ensures.ok;
      ticks = omega (arith, a, b);
      lists = c.in_ok-put_start.ensures.lists ∙ c.loop-start.invariant.lists;
      need = c.in_ok-put_start.ensures.need ∙ c.loop-start.invariant.need;
    }

pub returns-clause-loaded : goal.returns-clause-loaded
returns-clause-loaded g c =
    let l = c.loop-start.invariant.loaded in (
      l.0,
      loading-end c.args.query.now (g.S.SegParts.nodes c.args.parts.now) _ c.loop-start.starts
          l.0 l.1 c.in_default.ensures.start.0,
      l.2,
      l.3,
    )

pub returns-clause-query : goal.returns-clause-query
returns-clause-query g c = (
  subst IsQuery c.query.view_is c.query.invariant,
  subst (λ (q : PlainQuery). lacks 0 q.prefix ≡ true) c.query.view_is
      (key_lacks_end c.query.inside.prefix c.as_slice-prefix.ensures.key),
)

pub returns-in_err-put_start-clause-query : goal.returns-in_err-put_start-clause-query
returns-in_err-put_start-clause-query g c = (
  subst IsQuery c.query.view_is c.query.invariant,
  subst (λ (q : PlainQuery). lacks 0 q.prefix ≡ true) c.query.view_is
      (key_lacks_end c.query.inside.prefix c.as_slice-prefix.ensures.key),
)
