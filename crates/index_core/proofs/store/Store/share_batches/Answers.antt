-- The closed batch comes behind the others.
use Rattle.std.proofs.Common.{◌≡◌, ◌∙◌, ap, map, drop, option_map, sym, refl, true}
use Rattle.std.proofs.lemmas.List.{map-append}
use Rattle.index_core.specs.Keeping.{known_batches}
use Rattle.index_core.proofs.ListLemmas.{map-drop}
use Rattle.index_core.specs.Fields.{Stored, is_closed, next_batch}
use Rattle.index_core.proofs.StoreLemmas.{shared_one, shared_none, closed_is}
use Rattle.index_core.proofs.store.Store.share_batches.Goals.{in-Some+in_ok-try_clone+in_ok-push}
use Rattle.index_core.proofs.store.Store.share_batches.Goals.{in_default}
use Rattle.index_core.proofs.store.Store.share_batches.Goals as goal

-- those behind the known ones
rest : (c : goal.Joined-self)
    → map (λ b. b.value) c.in_ok-copies.copies.items
    ≡ drop (known_batches c.args.least (map (λ b. b.value) c.self.inside.batches.items))
    (map (λ b. b.value) c.self.inside.batches.items)
rest c =
    c.in_ok-copies.ensures
    ∙ ap (map (λ b. b.value)) c.behind.ensures
    ∙ map-drop (λ b. b.value) c.known_batches-known.result c.as_slice-batches.result.now
    ∙ ap (λ bs. drop c.known_batches-known.result (map (λ b. b.value) bs))
    c.as_slice-batches.ensures.value
    ∙ ap (λ n. drop n (map (λ b. b.value) c.self.inside.batches.items))
    (c.known_batches-known.ensures.value
    ∙ ap (λ bs. known_batches c.args.least (map (λ b. b.value) bs))
    c.as_slice-batches.ensures.value)

rest_now : (c : goal.Joined-self)
    → map (λ b. b.value) c.in_ok-copies.copies.items
    ≡ drop (known_batches c.args.least c.args.self.now.batches) c.args.self.now.batches
rest_now c =
    rest c ∙ ap (λ (s : Stored). drop (known_batches c.args.least s.batches) s.batches)
    c.self.view_is

pub returns : goal.returns
returns c = elim c.match-self.branch [
  | in-Some+in_ok-try_clone+in_ok-push w ↦
      let closed = ap (option_map (λ b. b.value)) w.in-Some.is in
      let now : c.args.self.now.closed ≡ true =
      ap (λ (s : Stored). s.closed) (sym c.self.view_is) ∙ ap is_closed closed in
      shared_one c.args.self.now w.in-Some.batch.value c.args.least _ _ now
      (closed_is _ _ _ _ _ _ _ _ _ w.in-Some.batch.value closed c.self.invariant.0
      ∙ ap next_batch c.self.view_is)
      (c.requires now) (rest_now c)
      (ap (λ v. map (λ b. b.value) v.items) w.copies-is
      ∙ ap (map (λ b. b.value)) w.in_ok-push.ensures.items
      ∙ map-append (λ b. b.value) c.in_ok-copies.copies.items _
      ∙ rw w.in_ok-try_clone.ensures refl)
  | in_default w ↦
      let closed = ap (option_map (λ b. b.value)) w.in_default.is in
      shared_none c.args.self.now c.args.least _
      (ap (λ (s : Stored). s.closed) (sym c.self.view_is) ∙ ap is_closed closed)
      (ap (λ v. map (λ b. b.value) v.items) w.copies-is ∙ rest_now c)
]
