-- The first path.
use Rattle.std.proofs.Common.{◌≡◌, ◌∙◌, ◌++◌, [], ◌∷◌, ap, sym, subst, map, length, List}
use Rattle.fst_build.specs.declared.level.Level.{Level}
use Rattle.fst_build.specs.Levels.{Draft, IsDraft, added, fresh_level}
use Rattle.fst_build.proofs.BuilderLemmas.{started, all_bytes_of}
use Rattle.fst_build.proofs.frontier.Frontier.begin.Goals as goal

pub returns : goal.returns
returns c =
    let i = c.self.inside in
    let path = c.args.path.now in
    let seen = c.self.view_is in
    let draft = subst IsDraft (sym seen) c.requires.draft in
    let no_level : Draft → Type 0 = λ d. length d.levels ≡ 0 in
    let none = subst no_level (sym seen) c.requires.none in
    let levels = c.extend.ensures
    ∙ ap (λ (v : List Level). v ++ map fresh_level path) c.in_ok-reserve.ensures.items in
    let s = started i.register i.levels.items c.extend.new.levels.items i.edges.items i.carried
    path c.args.cost draft none c.requires.some (all_bytes_of path c.type_inv.path)
    c.requires.long c.requires.cost levels in
    record {
      draft = rw c.at_end-self-inside.ensures s.builder;
      ok = rw c.at_end-self-inside.ensures
          (s.paths_are ∙ ap (λ (d : Draft). added d ++ (path, c.args.cost) ∷ []) seen);
      err = tt;
    }
