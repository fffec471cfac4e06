-- A path more.
use Rattle.std.proofs.Common.{◌≡◌, ◌<◌, ◌∙◌, ◌++◌, ◌+◌, [], ◌∷◌, ap, sym, subst, arith, length, map}
use Rattle.std.proofs.Common.{set, get_or, drop, take, List, ℕ, rules}
use Rattle.sg_base.specs.declared.node.Edge.{Edge}
use Rattle.fst_build.specs.declared.level.Level.{Level}
use Rattle.fst_build.specs.Levels.{Draft, IsDraft, IsOpenDraft, added, represented}
use Rattle.fst_build.specs.Levels.{fresh_level, shared_length, last_edge, branched_level}
use Rattle.fst_build.specs.Sorted.{MayFollow}
use Rattle.fst_build.proofs.BuilderLemmas.{ready, gone_on, all_bytes_of}
use Rattle.fst_build.proofs.frontier.Frontier.go_on.Goals as goal

abbrev follows_draft : List ℕ → Draft → Type 0
follows_draft path d = MayFollow (added d) path

abbrev has_room : Draft → Type 0
has_room d = length (added d) < 4194304

pub branch-self-requires-clause-path : goal.branch-self-requires-clause-path
branch-self-requires-clause-path c =
    let i = c.self.inside in
    let j = c.self-2.inside in
    let path = c.args.path.now in
    let seen = c.self.view_is in
    let done = c.in_ok-freeze_to.ensures in
    let kept = c.shared_front-kept.result in
    let level = c.index-level.result.now in
    let n : c.len.result ≡ length i.levels.items = search rules in
    let draft = subst IsDraft (sym seen) c.requires.draft in
    let follows = subst (follows_draft path) (sym seen) c.requires.follows in
    let front = c.shared_front-kept.ensures
    ∙ ap (λ (v : List Level). shared_length v path) c.deref.ensures.value in
    let levels = ap (λ (d : Draft). d.levels) c.self-2.view_is ∙ done.ok
    ∙ ap (λ (d : Draft). take (kept + 1) d.levels) (sym seen) in
    let open_draft = subst IsOpenDraft (sym c.self-2.view_is) done.draft in
    let paths = ap represented c.self-2.view_is ∙ done.paths ∙ ap represented (sym seen) in
    let is = c.index-level.ensures
    ∙ ap (λ (v : List Level). get_or v kept level) c.in_ok-reserve.ensures.items in
    let r = ready i.register j.register i.levels.items j.levels.items i.edges.items
    j.edges.items i.carried j.carried path kept level draft follows front
    (omega (arith, n, c.if-kept-len.false)) levels open_draft paths is in
    r.branches.within

pub branch-self-requires-clause-count : goal.branch-self-requires-clause-count
branch-self-requires-clause-count c =
    let i = c.self.inside in
    let j = c.self-2.inside in
    let path = c.args.path.now in
    let seen = c.self.view_is in
    let done = c.in_ok-freeze_to.ensures in
    let kept = c.shared_front-kept.result in
    let level = c.index-level.result.now in
    let n : c.len.result ≡ length i.levels.items = search rules in
    let draft = subst IsDraft (sym seen) c.requires.draft in
    let follows = subst (follows_draft path) (sym seen) c.requires.follows in
    let front = c.shared_front-kept.ensures
    ∙ ap (λ (v : List Level). shared_length v path) c.deref.ensures.value in
    let levels = ap (λ (d : Draft). d.levels) c.self-2.view_is ∙ done.ok
    ∙ ap (λ (d : Draft). take (kept + 1) d.levels) (sym seen) in
    let open_draft = subst IsOpenDraft (sym c.self-2.view_is) done.draft in
    let paths = ap represented c.self-2.view_is ∙ done.paths ∙ ap represented (sym seen) in
    let is = c.index-level.ensures
    ∙ ap (λ (v : List Level). get_or v kept level) c.in_ok-reserve.ensures.items in
    let r = ready i.register j.register i.levels.items j.levels.items i.edges.items
    j.edges.items i.carried j.carried path kept level draft follows front
    (omega (arith, n, c.if-kept-len.false)) levels open_draft paths is in
    let k = r.count in
    omega (arith, k)

pub branch-self-requires-clause-held : goal.branch-self-requires-clause-held
branch-self-requires-clause-held c =
    let i = c.self.inside in
    let j = c.self-2.inside in
    let path = c.args.path.now in
    let seen = c.self.view_is in
    let done = c.in_ok-freeze_to.ensures in
    let kept = c.shared_front-kept.result in
    let level = c.index-level.result.now in
    let n : c.len.result ≡ length i.levels.items = search rules in
    let draft = subst IsDraft (sym seen) c.requires.draft in
    let follows = subst (follows_draft path) (sym seen) c.requires.follows in
    let front = c.shared_front-kept.ensures
    ∙ ap (λ (v : List Level). shared_length v path) c.deref.ensures.value in
    let levels = ap (λ (d : Draft). d.levels) c.self-2.view_is ∙ done.ok
    ∙ ap (λ (d : Draft). take (kept + 1) d.levels) (sym seen) in
    let open_draft = subst IsOpenDraft (sym c.self-2.view_is) done.draft in
    let paths = ap represented c.self-2.view_is ∙ done.paths ∙ ap represented (sym seen) in
    let is = c.index-level.ensures
    ∙ ap (λ (v : List Level). get_or v kept level) c.in_ok-reserve.ensures.items in
    let r = ready i.register j.register i.levels.items j.levels.items i.edges.items
    j.edges.items i.carried j.carried path kept level draft follows front
    (omega (arith, n, c.if-kept-len.false)) levels open_draft paths is in
    let h = r.held in
    let a = r.carries.arcs in
    let m = r.carries.many in
    omega (arith, h, a, m)

pub returns : goal.returns
returns c =
    let i = c.self.inside in
    let j = c.self-2.inside in
    let path = c.args.path.now in
    let seen = c.self.view_is in
    let done = c.in_ok-freeze_to.ensures in
    let kept = c.shared_front-kept.result in
    let level = c.index-level.result.now in
    let n : c.len.result ≡ length i.levels.items = search rules in
    let draft = subst IsDraft (sym seen) c.requires.draft in
    let follows = subst (follows_draft path) (sym seen) c.requires.follows in
    let front = c.shared_front-kept.ensures
    ∙ ap (λ (v : List Level). shared_length v path) c.deref.ensures.value in
    let levels = ap (λ (d : Draft). d.levels) c.self-2.view_is ∙ done.ok
    ∙ ap (λ (d : Draft). take (kept + 1) d.levels) (sym seen) in
    let open_draft = subst IsOpenDraft (sym c.self-2.view_is) done.draft in
    let paths = ap represented c.self-2.view_is ∙ done.paths ∙ ap represented (sym seen) in
    let is = c.index-level.ensures
    ∙ ap (λ (v : List Level). get_or v kept level) c.in_ok-reserve.ensures.items in
    let r = ready i.register j.register i.levels.items j.levels.items i.edges.items
    j.edges.items i.carried j.carried path kept level draft follows front
    (omega (arith, n, c.if-kept-len.false)) levels open_draft paths is in
    let b = c.branch-self.new in
    let more = c.branch-self.ensures.levels
    ∙ ap (λ (v : List Level).
    set v kept (branched_level level j.carried (get_or path kept 0))
    ++ map fresh_level (drop (kept + 1) path)) c.in_ok-reserve.ensures.items in
    let edges = c.branch-self.ensures.edges
    ∙ ap (λ (v : List Edge). v ++ last_edge level j.carried ∷ [])
    c.in_ok-reserve-2.ensures.items in
    let g = gone_on _ j.register j.levels.items b.levels.items j.edges.items b.edges.items level
    j.carried path c.args.cost kept r is (all_bytes_of path c.type_inv.path) c.requires.long
    c.requires.cost (subst has_room (sym seen) c.requires.few) edges more in
    record {
      draft = rw c.at_end-self-inside.ensures g.builder;
      ok = rw c.at_end-self-inside.ensures
          (g.paths_are ∙ ap (λ (d : Draft). added d ++ (path, c.args.cost) ∷ []) seen);
      err = tt;
    }
