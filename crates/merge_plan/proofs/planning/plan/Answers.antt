-- A full level's first ten, else the one that is mostly deleted.
use Rattle.std.proofs.Common.{◌≡◌, ◌∙◌, sym}
use Rattle.std.specs.Prelude.{IfSome, option_map}
use Rattle.std.specs.List.Sorted.{IsStrictlyIncreasing}
use Rattle.merge_plan.specs.Merges.{plan}
use Rattle.merge_plan.proofs.PassLemmas.{plan-one, plan-ten}
use Rattle.merge_plan.proofs.RisingLemmas.{found_has, ok_weaker, rising_first}
use Rattle.merge_plan.proofs.planning.plan.Goals as goal

pub returns-in-Some-clause-plan : goal.returns-in-Some-clause-plan
returns-in-Some-clause-plan c =
    ok_weaker _ (λ found. option_map (λ gens. gens.items) found ≡ plan c.args.list.now)
    (λ found is. is ∙ sym (plan-ten c.args.list.now c.in-Some.level (sym c.in-Some.ensures)))
    c.ten_of.result c.ten_of.ensures

pub returns-in-Some-clause-rising : goal.returns-in-Some-clause-rising
returns-in-Some-clause-rising c =
    ok_weaker _ (λ found. IfSome found (λ gens. IsStrictlyIncreasing gens.items))
    (λ found is. found_has (λ gens. gens.items) IsStrictlyIncreasing found _ is
    (rising_first c.in-Some.level c.args.list.now c.requires.rising))
    c.ten_of.result c.ten_of.ensures

pub returns-in-None-clause-plan : goal.returns-in-None-clause-plan
returns-in-None-clause-plan c =
    ok_weaker _ (λ found. option_map (λ gens. gens.items) found ≡ plan c.args.list.now)
    (λ found is. is ∙ sym (plan-one c.args.list.now (sym c.in-None.ensures)))
    c.one_of.result c.one_of.ensures
