-- Some labels on.
use Rattle.std.proofs.Common.{◌≡◌, ◌+◌, ◌<◌, ◌++◌, ◌∷◌, [], false, ℕ, List, take, drop, get_or}
use Rattle.std.proofs.Common.{sym, ap, subst, ◌∙◌, arith, length, append_assoc}
use Rattle.std.proofs.lemmas.List.{take_more, take_all, take-append-drop}
use Rattle.fst_code.specs.Lists.{root_paths}
use Rattle.fst_code.specs.Bytes.{nodes_of}
use Rattle.fst_walk.specs.Fronts.{is_front}
use Rattle.fst_walk.specs.Spots.{IsSpot}
use Rattle.fst_walk.proofs.FrontLemmas.{front_longer}
use Rattle.fst_walk.proofs.seeking.go.Goals as goal

one_more : (front bytes : List ℕ) (i : ℕ) → i < length bytes
    → (front ++ take i bytes) ++ get_or bytes i 0 ∷ [] ≡ front ++ take (i + 1) bytes
one_more front bytes i h =
    append_assoc front (take i bytes) (get_or bytes i 0 ∷ [])
    ∙ ap (λ z. front ++ z) (sym (take_more bytes i 0 h))

whole : (front bytes : List ℕ) (n : ℕ)
    → (front ++ take n bytes) ++ drop n bytes ≡ front ++ bytes
whole front bytes n =
    append_assoc front (take n bytes) (drop n bytes)
    ∙ ap (λ z. front ++ z) (take-append-drop n bytes)

pub enter-requires : goal.enter-requires
enter-requires g c = (
  c.requires.0 ++ take c.loop-label.label-index c.args.bytes.now,
  c.loop-label.invariant.at c.requires.0 c.requires.1,
)

pub returns-in-None-clause-spot : goal.returns-in-None-clause-spot
returns-in-None-clause-spot g c = λ front at.
    let i = c.loop-label.label-index in
    let h : i < length c.args.bytes.now = omega arith in
    let stop = c.in-None.ensures.spot (front ++ take i c.args.bytes.now)
    (c.loop-label.invariant.at front at) in
    let stop2 = subst (λ p. is_front (root_paths (nodes_of c.args.t.now)) p ≡ false)
    (one_more front c.args.bytes.now i h) stop in
    subst (λ p. is_front (root_paths (nodes_of c.args.t.now)) p ≡ false)
    (whole front c.args.bytes.now (i + 1))
    (front_longer (root_paths (nodes_of c.args.t.now)) _ (drop (i + 1) c.args.bytes.now) stop2)

pub loop-label-preserved : goal.loop-label-preserved
loop-label-preserved g c = record {
  at = λ front at.
      let i = c.loop-label.label-index in
      let h : i < length c.args.bytes.now = omega arith in
      subst (λ p. IsSpot (nodes_of c.args.t.now) p c.in-Some.next)
      (one_more front c.args.bytes.now i h)
      (c.in-Some.ensures.spot (front ++ take i c.args.bytes.now)
      (c.loop-label.invariant.at front at));
  ticks = omega (arith, c.loop-label.invariant.ticks, c.enter.ensures.tick);
}

pub returns-clause-spot : goal.returns-clause-spot
returns-clause-spot g c = λ front at.
    let n = c.loop-label.label-index in
    subst (λ p. IsSpot (nodes_of c.args.t.now) (front ++ p) c.loop-label.spot)
    (take_all n c.args.bytes.now (omega arith))
    (c.loop-label.invariant.at front at)
