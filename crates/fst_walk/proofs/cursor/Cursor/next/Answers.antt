-- The next path.
use Rattle.std.proofs.Common.{◌≡◌, ◌≤◌, ◌+◌, ◌∷◌, ℕ, List, drop, get_or, length, sym, ap}
use Rattle.std.proofs.Common.{◌∙◌, arith, subst, take, []}
use Rattle.std.proofs.lemmas.List.{drop_all}
use Rattle.sg_base.specs.declared.node.Edge.{Edge}
use Rattle.fst_code.specs.Bytes.{nodes_of}
use Rattle.fst_code.specs.Tails.{Tail}
use Rattle.fst_code.specs.Lists.{root_paths}
use Rattle.fst_code.specs.Transducers.{IsTransducer}
use Rattle.fst_walk.specs.PathsLeft.{PathsLeft}
use Rattle.fst_walk.specs.Spots.{IsSpot}
use Rattle.fst_walk.specs.Trails.{IsAtPath, IsDown, walked, ending}
use Rattle.fst_walk.specs.declared.spot.Spot.{Spot}
use Rattle.fst_walk.specs.declared.trail.Trail.{Trail}
use Rattle.fst_walk.proofs.EndingLemmas.{path_here, end_ending, ending_most}
use Rattle.fst_walk.proofs.TrailLemmas.{nowhere}
use Rattle.fst_walk.proofs.cursor.Cursor.next.Goals as goal

-- the end that the trail went down to
record AtEnd (t : List (List Edge)) (given : ℕ) (w : Trail) : Type 0 where
  pub spot : (d : Spot) → IsSpot t (walked w) (get_or w.frames w.len d)
  pub end : (d : Spot) → (get_or w.frames w.len d).node.0 ≡ 0
  pub place : (d : Spot) → (get_or w.frames w.len d).ordinal ≡ given
  pub ends : (d : Spot) → ending t (get_or w.frames w.len d) ≡ given + 1
  pub most : given + 1 ≤ length (root_paths t)

at_end : (t : List (List Edge)) → IsTransducer t → (given : ℕ) (old new : Trail)
    → IsAtPath t given old → IsDown t old new → AtEnd t given new
at_end t s given old new a d =
    let spot : (x : Spot) → IsSpot t (walked new) (get_or new.frames new.len x) =
    λ x. d.trail.spots new.len x (omega arith) in
    let place : (x : Spot) → (get_or new.frames new.len x).ordinal ≡ given =
    λ x. d.first x ∙ a.place x in
    let ends : (x : Spot) → ending t (get_or new.frames new.len x) ≡ given + 1 =
    λ x. end_ending t s (walked new) (get_or new.frames new.len x) (spot x) (d.at_end x)
    ∙ ap (λ n. n + 1) (place x) in
    let m = ending_most t s (walked new) (get_or new.frames new.len nowhere) (spot nowhere) in
    let e = ends nowhere in
    record { spot = spot; end = d.at_end; place = place; ends = ends; most = omega (arith, m, e) }

pub move_on-requires-clause-stands : goal.move_on-requires-clause-stands
move_on-requires-clause-stands g c = (c.self.inside.given, c.self.invariant.stands)

pub invariant_of-self : goal.invariant_of-self
invariant_of-self g c = record {
  sound = c.self.invariant.sound;
  fits = c.self.invariant.fits;
  stands = c.if-not-move_on.ensures.moved c.self.inside.given c.self.invariant.stands;
}

pub overflow_add-self : goal.overflow_add-self
overflow_add-self g c =
    let s = c.self.inside in
    let i = c.self.invariant in
    let a = at_end (nodes_of s.transducer.now) i.sound s.given c.move_on.new.trail
    c.descend.new.trail (c.if-not-move_on.ensures.moved s.given i.stands) c.descend.ensures in
    let m = a.most in
    let p = i.sound.paths in
    omega (arith, m, p)

pub returns-clause-path : goal.returns-clause-path
returns-clause-path g c =
    let s = c.self.inside in
    let i = c.self.invariant in
    let t = nodes_of s.transducer.now in
    let w = c.descend.new.trail in
    let a = at_end t i.sound s.given c.move_on.new.trail w
    (c.if-not-move_on.ensures.moved s.given i.stands) c.descend.ensures in
    let top : c.top.result ≡ get_or w.frames w.len nowhere = c.top.ensures nowhere in
    let p = path_here t i.sound (walked w) c.top.result
    (subst (IsSpot t (walked w)) (sym top) (a.spot nowhere))
    (ap (λ (z : Spot). z.node.0) top ∙ a.end nowhere) in
    let n : c.top.result.ordinal ≡ s.given = ap (λ (z : Spot). z.ordinal) top ∙ a.place nowhere in
    ap (λ (z : PathsLeft). z.paths) (sym c.self.view_is)
    ∙ subst (λ k. drop k (root_paths t)
    ≡ (walked w, c.top.result.cost) ∷ drop (k + 1) (root_paths t)) n p

-- a list is over behind its length
over : (given shown : ℕ) (list : List Tail) (old new path : List ℕ) (paths : List Tail)
    → given ≡ length list → paths ≡ drop given list → path ≡ take shown old → new ≡ old
    → (paths ≡ []) × (drop given list ≡ []) × (take shown new ≡ path)
over given shown list old new path paths e p q n =
    let none : drop given list ≡ [] = drop_all given list (omega (arith, e)) in
    (p ∙ none, none, ap (take shown) n ∙ sym q)

pub returns-then-not-move_on-clause-path : goal.returns-then-not-move_on-clause-path
returns-then-not-move_on-clause-path g c =
    let s = c.self.inside in
    let i = c.self.invariant in
    over s.given s.shown (root_paths (nodes_of s.transducer.now)) s.trail.bytes _ _ _
    (c.if-not-move_on.ensures.moved s.given i.stands)
    (ap (λ (z : PathsLeft). z.paths) (sym c.self.view_is))
    (ap (λ (z : PathsLeft). z.path) (sym c.self.view_is)) c.if-not-move_on.ensures.bytes

pub descend-requires-clause-trail : goal.descend-requires-clause-trail
descend-requires-clause-trail g c =
    (c.if-not-move_on.ensures.moved c.self.inside.given c.self.invariant.stands).trail

pub invariant_of-self-2 : goal.invariant_of-self-2
invariant_of-self-2 g c =
    let s = c.self.inside in
    let i = c.self.invariant in
    let a = at_end (nodes_of s.transducer.now) i.sound s.given c.move_on.new.trail
    c.descend.new.trail (c.if-not-move_on.ensures.moved s.given i.stands) c.descend.ensures in
    record {
      sound = i.sound;
      fits = c.descend.ensures.trail.fits;
      stands = (c.descend.ensures.trail, a.ends);
    }
