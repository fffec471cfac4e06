-- Nothing is kept.
use Rattle.std.proofs.Common.{refl, arith, ◌≤◌, ℕ}
use Rattle.std.proofs.lemmas.List.Elements.{All-nil}
use Rattle.index_core.specs.Fields.{IsKept, empty_store, with_places, with_list_places}
use Rattle.index_core.proofs.machine.Core.new.Goals as goal

kept : (places views merges : ℕ)
    → IsKept (with_places places (with_list_places views merges empty_store))
kept places views merges = record {
  legal = record {
    numbered = refl;
    events = λ k event got. (cc);
    not_full = omega arith;
  };
  fields = record {
    numbered = tt;
    frozen_upto_last = refl;
    frozen_operations = refl;
    drawn_generations = refl;
    most_operations = omega arith;
    views = record {
      count = refl;
      numbers = tt;
      few = omega arith;
      ended_were_begun = All-nil (λ (n : ℕ). n ≤ 0);
      open_count = refl;
      most_open = omega arith;
    };
    own_lists = record {
      views = refl;
      merges = refl;
      merges_begun = refl;
      merges_open = refl;
      few = omega arith;
    };
    room = omega arith;
  };
  plain = record {
    numbered = refl;
    merges = record {
      numbers = tt;
      closed_before = tt;
      within = tt;
      rise = tt;
      in_use = tt;
      apart = λ g. omega arith;
      once = tt;
    };
    frozen_before = tt;
    frozen_within = omega arith;
    drawn_before = tt;
    built_before = tt;
    most = omega arith;
  };
  pieces = record {
    generations = refl;
    rising = tt;
    each = tt;
    live = λ f. refl;
  };
  held = record {
    counts = record { each = tt; held = λ g. refl };
    rise = tt;
    drawn_before = record { views = tt; merges = tt };
    drawn_rise = tt;
    views_rise = tt;
  };
}

pub invariant_of-result : goal.invariant_of-result
invariant_of-result c = rw c.new.ensures
    (kept c.new.result.places c.new.result.lists.view_places c.new.result.lists.merge_places)
