-- Each value computes, and what isn't a report breaks one of its sentences.
use Rattle.std.proofs.Common.{inl, ◌≤◌, ◌≡◌, ◌<◌, ◌∙◌, ℕ, true, false, Some, None, List, [], ◌∷◌}
use Rattle.std.proofs.Common.{length, refl, sym, ap, subst, arith, codes}
use Rattle.sg_base.specs.Cuts.{PlainCut}
use Rattle.sg_base.specs.declared.rank.Rank.{Rank}
use Rattle.sg_context.specs.Queries.{PlainQuery}
use Rattle.sg_answers.specs.Reports.{ViewedSegment, IsTruncatedIn, IsSpent, IsSearch, Forces}
use Rattle.sg_answers.specs.WorkedReports.{first_of, cut_at, narrow, heavy_deleted}
use Rattle.sg_answers.specs.WorkedReports.{FindsTheLastOfTwelve, BreaksATieAcrossContexts}
use Rattle.sg_answers.specs.WorkedReports.{IsSpentOnDeletedPaths, QueueSizes, Precedence}
use Rattle.sg_answers.specs.WorkedReports.{ViewsClose, IsNearEnough, ViewsAreForced}
use Rattle.sg_answers.specs.WorkedReports.{OverAllDocuments, level, two_of, buried, found}
use Rattle.sg_answers.specs.WorkedReports.{with_another}
use Rattle.sg_answers.specs.Closing.{IsSearched}
use Rattle.sg_answers.proofs.ClosingLemmas.{only_one, closes_soundly}
use Rattle.sg_answers.proofs.laws.worked_reports.Goals as goal

none_differs : {A : Type 0} (x : A) → None ≡ Some x → ⊥
none_differs x wrong = absurd cc

false_differs : false ≡ true → ⊥
false_differs wrong = absurd cc

lengths : (xs ys : List Rank) → xs ≡ ys → length xs < length ys → ⊥
lengths xs ys same less = omega (arith, less, ap (λ (rs : List Rank). length rs) same)

-- the number of the first row's document
abbrev first_seq : List Rank → ℕ
first_seq [] = 0
first_seq (r ∷ rs) = r.seq

-- of one segment a sound truncation point is that segment's
its_own : (query : PlainQuery) (s : ViewedSegment) (rows : List Rank) (cut : PlainCut)
    → IsSearch query s rows (Some cut) → IsTruncatedIn query s cut
its_own query s rows cut search =
    let there = search.sound.2 in
    subst (λ t. IsTruncatedIn query t cut) (sym (only_one s there.0 there.1)) there.2

last_of_twelve : FindsTheLastOfTwelve
last_of_twelve = record {
  queue = refl;
  all_match = refl;
  complete = record {
    sound = refl;
    exact = λ one next spent. none_differs next spent.next;
  };
  no_row = λ search. lengths _ _ search.sound (omega arith);
  truncated = λ search.
      let is = search.exact refl in none_differs is.next is.spent.next;
}

two_contexts : ◌≡◌ {A = ℕ} 2 1 → ⊥
two_contexts wrong = omega (arith, wrong)

three_contexts : ◌≡◌ {A = ℕ} 3 1 → ⊥
three_contexts wrong = omega (arith, wrong)

narrow_truncated : IsTruncatedIn (first_of (codes "ab")) narrow (cut_at 5 (codes "ab") 3 1)
narrow_truncated = record {
  generation = refl;
  has_live = omega arith;
  room = refl;
  point = record { crowded = omega arith; in_query = refl; met = refl; upto = omega arith };
}

tie : BreaksATieAcrossContexts
tie = record {
  queues = (refl, refl);
  contexts = refl;
  truncated = record {
    sound = (refl, omega arith, (narrow, (0, omega arith, refl), narrow_truncated));
    exact = λ one. absurd (two_contexts one);
  };
  complete = record { sound = refl; exact = λ one. absurd (three_contexts one) };
  the_greater_key = λ search.
      let wrong : 1 ≡ 2 = ap first_seq search.sound in omega (arith, wrong);
  a_row_behind = λ search. lengths _ _ (sym search.sound.0) (omega arith);
  another_room = λ search.
      let wrong : 2 ≡ 1 = (its_own _ narrow _ _ search).room in omega (arith, wrong);
  another_generation = λ search.
      let wrong : 4 ≡ 3 = (its_own _ narrow _ _ search).generation in omega (arith, wrong);
  before_the_prefix = λ search.
      false_differs (its_own _ narrow _ _ search).point.in_query;
  no_path_there = λ search.
      false_differs (its_own _ narrow _ _ search).point.met;
}

-- the next path
abbrev third_row : Rank
third_row = record { score = 2; key = codes "ort"; seq = 3; place = 0 }

heavy_deleted_truncated :
    IsTruncatedIn (first_of (codes "ort")) heavy_deleted (cut_at 2 (codes "ort") 2 2)
heavy_deleted_truncated = record {
  generation = refl;
  has_live = omega arith;
  room = refl;
  point = record { crowded = omega arith; in_query = refl; met = refl; upto = omega arith };
}

spent : IsSpentOnDeletedPaths
spent = record {
  queue = refl;
  next = record { next = refl; few = omega arith };
  truncated = record {
    sound = (refl, omega arith, (heavy_deleted, (0, omega arith, refl), heavy_deleted_truncated));
    exact = λ one. record {
      next = third_row;
      spent = record { next = refl; few = omega arith };
      score = refl;
      key = refl;
    };
  };
  complete = λ search.
      search.exact refl third_row (record { next = refl; few = omega arith });
  another_score = λ search.
      let is = search.exact refl in
      let same : Some third_row ≡ Some is.next = is.spent.next in
      let row : third_row ≡ is.next = cc in
      let wrong : 3 ≡ 2 = is.score ∙ sym (ap (λ (r : Rank). r.score) row) in
      omega (arith, wrong);
}

level_truncated : IsTruncatedIn (two_of (codes "ab")) level (cut_at 5 (codes "abd") 6 3)
level_truncated = record {
  generation = refl;
  has_live = omega arith;
  room = refl;
  point = record { crowded = omega arith; in_query = refl; met = refl; upto = omega arith };
}

near : IsNearEnough
near = record {
  queue = refl;
  near = record {
    sound = (refl, omega arith, (level, (0, omega arith, refl), level_truncated));
    exact = λ one. absurd (two_contexts one);
  };
  too_early = λ search.
      let wrong : 3 < 2 = (its_own _ level _ _ search).point.upto in omega (arith, wrong);
  a_row_lost = λ search. lengths _ _ search.sound.0 (omega arith);
}

sizes : QueueSizes
sizes = record {
  most = refl;
  below_most = refl;
  one_each = refl;
  rounded_up = refl;
  by_most_paths = refl;
  a_little_more = refl;
  paths = refl;
}

precedence : Precedence
precedence = record {
  greater_score = refl;
  lesser_score = refl;
  lesser_key = refl;
  front_of_key = refl;
  same_key = refl;
  longer_key = refl;
}

views : ViewsClose
views = record {
  enough_rows = refl;
  enough = refl;
  too_few_rows = refl;
  too_few = refl;
  lesser_generation = refl;
}

-- the searches of the segments of a view
buried_truncated : IsTruncatedIn (first_of (codes "ort")) buried.segment (cut_at 3 (codes "ort") 4 3)
buried_truncated = record {
  generation = refl;
  has_live = omega arith;
  room = refl;
  point = record { crowded = omega arith; in_query = refl; met = refl; upto = omega arith };
}

-- the path after the three
abbrev fourth_row : Rank
fourth_row = record { score = 3; key = codes "ort"; seq = 4; place = 0 }

fourth_next : IsSpent (first_of (codes "ort")) buried.segment fourth_row
fourth_next = record { next = refl; few = omega arith }

buried_searched : IsSearched (first_of (codes "ort")) buried
buried_searched = inl (
  omega arith,
  record {
    sound = (refl, omega arith, (buried.segment, (0, omega arith, refl), buried_truncated));
    exact = λ one. record { next = fourth_row; spent = fourth_next; score = refl; key = refl };
  },
)

found_one : IsSearched (first_of (codes "ort")) (found 1)
found_one = inl (
  omega arith,
  record {
    sound = refl;
    exact = λ one next spent. none_differs next spent.next;
  },
)

found_four : IsSearched (first_of (codes "ort")) (found 4)
found_four = inl (
  omega arith,
  record {
    sound = refl;
    exact = λ one next spent. none_differs next spent.next;
  },
)

forces : Forces (first_of (codes "ort")) (with_another 1) buried.segment fourth_row
forces = record {
  is_in = (0, omega arith, refl);
  has_live = omega arith;
  one_context = refl;
  spent = fourth_next;
  few = omega arith;
}

forced : ViewsAreForced
forced = record {
  complete = closes_soundly (first_of (codes "ort")) (buried ∷ found 4 ∷ [])
      (buried_searched, (found_four, tt));
  truncated = closes_soundly (first_of (codes "ort")) (buried ∷ found 1 ∷ [])
      (buried_searched, (found_one, tt));
  not_truncated = λ report. false_differs (report.must buried.segment fourth_row forces);
}

over_all : OverAllDocuments
over_all = record {
  truncated = (refl, omega arith, omega arith, omega arith, heavy_deleted_truncated.point);
  too_little_room = λ sound. let wrong : 1 ≤ 0 = sound.2 in omega (arith, wrong);
}

pub returns : goal.returns
returns c = record {
  last_of_twelve = last_of_twelve;
  tie = tie;
  spent = spent;
  near = near;
  sizes = sizes;
  precedence = precedence;
  views = views;
  forced = forced;
  over_all = over_all;
}
