-- Where the key matches, the greatest boost gives the first of the suggestion's entries.
use Rattle.std.proofs.Common.{◌≡◌, ◌∙◌, refl, true, false, sym, None, Some}
use Rattle.std.specs.Prelude.{nat_eq}
use Rattle.std.specs.List.{starts_with}
use Rattle.sg_answers.specs.Scans.{greatest_boost, given_contexts}
use Rattle.sg_answers.proofs.EntryLemmas.{first_entry-matching, first_entry-other}
use Rattle.sg_answers.proofs.answers.candidate_of.Goals as goal

pub returns-then-not-starts_with : goal.returns-then-not-starts_with
returns-then-not-starts_with c =
    let s = c.args.suggestion.now in
    let query = c.args.query.now in
    let starts : starts_with nat_eq s.key query.prefix ≡ false =
    rw (← c.suggestion.view_is, ← c.query.view_is) (cc) in
    sym (first_entry-other query c.args.seq c.args.place s starts)

pub returns-in_err-boost : goal.returns-in_err-boost
returns-in_err-boost c =
    let s = c.args.suggestion.now in
    let query = c.args.query.now in
    let starts : starts_with nat_eq s.key query.prefix ≡ true =
    rw (← c.suggestion.view_is, ← c.query.view_is) (cc) in
    let boost : greatest_boost query.contexts (given_contexts s.contexts) ≡ None =
    rw (← c.suggestion.view_is, ← c.query.view_is)
    (rw (← c.items.ensures, ← c.items-2.ensures)
    (sym c.greatest_boost.ensures ∙ c.in_err-boost.was)) in
    c.from_residual.ensures
    ∙ sym (first_entry-matching query c.args.seq c.args.place s None starts boost)

pub returns : goal.returns
returns c =
    let s = c.args.suggestion.now in
    let query = c.args.query.now in
    let n = c.in_ok-boost.boost in
    let starts : starts_with nat_eq s.key query.prefix ≡ true =
    rw (← c.suggestion.view_is, ← c.query.view_is) (cc) in
    let boost : greatest_boost query.contexts (given_contexts s.contexts) ≡ Some n =
    rw (← c.suggestion.view_is, ← c.query.view_is)
    (rw (← c.items.ensures, ← c.items-2.ensures)
    (sym c.greatest_boost.ensures ∙ c.in_ok-boost.was)) in
    let first = first_entry-matching query c.args.seq c.args.place s (Some n) starts boost in
    rw (c.from.ensures, c.from-2.ensures, first) (rw (← c.suggestion.view_is) refl)
