-- Each worked value computes.
use Rattle.std.proofs.Common.{refl}
use Rattle.merge_plan.specs.WorkedPlans.{WorkedPlans}
use Rattle.merge_plan.proofs.PlanLemmas.{planned-free, planned-kinds}
use Rattle.merge_plan.proofs.laws.plans_are_exact.Goals as goal

worked : WorkedPlans
worked = record {
  level_1 = (refl, refl);
  level_2 = (refl, refl, refl);
  level_9 = (refl, refl);
  level_10 = (refl, refl);
  nothing = refl;
  ten_of_a_level = refl;
  nine_of_a_level = refl;
  the_first_ten = refl;
  by_live_documents = refl;
  the_lowest_level = refl;
  most_documents = refl;
  too_many_documents = refl;
  most_paths = refl;
  too_many_paths = refl;
  a_higher_level = refl;
  held_ones = refl;
  too_few_free = refl;
  half_deleted = refl;
  mostly_deleted = refl;
  all_live = refl;
  first_mostly_deleted = refl;
  held_mostly_deleted = refl;
  levels_first = refl;
}

pub returns : goal.returns
returns c = record {
  worked = worked;
  free = planned-free;
  kinds = planned-kinds;
}
