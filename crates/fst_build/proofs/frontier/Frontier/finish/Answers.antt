-- The last level alone, and the bytes of all nodes.
use Rattle.std.proofs.Common.{◌+◌, ◌∙◌, ap, arith, refl, subst, sym}
use Rattle.fst_code.specs.Lists.{list_of}
use Rattle.fst_build.specs.Levels.{Draft, IsOpenDraft, open_paths, represented}
use Rattle.fst_build.proofs.WritingLemmas.{closed_code, last_alone, text_of}
use Rattle.fst_build.proofs.frontier.Frontier.finish.Goals as goal

pub overflow_add-count : goal.overflow_add-count
overflow_add-count c =
    let j = c.self.inside in
    let seen = c.self.view_is in
    let done = c.in_ok-freeze_to.ensures in
    let l = c.index-level.result.now in
    let one = last_alone c.args.self.now.levels j.levels.items c.requires.some
    (ap (λ (d : Draft). d.levels) seen ∙ done.ok) in
    let k = closed_code j.register j.levels.items j.edges.items l j.carried
    (subst IsOpenDraft (sym seen) done.draft) one c.index-level.ensures in
    let few = k.count in
    omega (arith, few)

pub of_valid-requires : goal.of_valid-requires
of_valid-requires c =
    let j = c.self.inside in
    let seen = c.self.view_is in
    let done = c.in_ok-freeze_to.ensures in
    let l = c.index-level.result.now in
    let one = last_alone c.args.self.now.levels j.levels.items c.requires.some
    (ap (λ (d : Draft). d.levels) seen ∙ done.ok) in
    let k = closed_code j.register j.levels.items j.edges.items l j.carried
    (subst IsOpenDraft (sym seen) done.draft) one c.index-level.ensures in
    let t = text_of j.register j.edges.items c.deref.result.now l j.carried
    (open_paths j.register j.levels.items j.edges.items j.carried) (l.count + j.carried.count)
    c.from_vec.result.items k refl (c.deref.ensures.value ∙ c.in_ok-push.ensures.items)
    (c.from_vec.ensures.items ∙ c.in_ok-bytes.ensures) in
    t.valid

pub returns : goal.returns
returns c =
    let j = c.self.inside in
    let seen = c.self.view_is in
    let done = c.in_ok-freeze_to.ensures in
    let l = c.index-level.result.now in
    let one = last_alone c.args.self.now.levels j.levels.items c.requires.some
    (ap (λ (d : Draft). d.levels) seen ∙ done.ok) in
    let k = closed_code j.register j.levels.items j.edges.items l j.carried
    (subst IsOpenDraft (sym seen) done.draft) one c.index-level.ensures in
    let t = text_of j.register j.edges.items c.deref.result.now l j.carried
    (open_paths j.register j.levels.items j.edges.items j.carried) (l.count + j.carried.count)
    c.from_vec.result.items k refl (c.deref.ensures.value ∙ c.in_ok-push.ensures.items)
    (c.from_vec.ensures.items ∙ c.in_ok-bytes.ensures) in
    let paths = ap represented seen ∙ done.paths in
    record {
      maps = ap list_of c.of_valid.ensures ∙ t.maps ∙ paths;
      canonical = rw c.of_valid.ensures t.canonical;
      only = rw c.of_valid.ensures (λ b fits valid same. t.only b fits valid (same ∙ sym paths));
    }
