-- Down to a first path and up again: the transducer cursors that the trail keeps.
use Rattle.fst_code.specs.Lists.{root_paths}
use Rattle.fst_code.specs.Tails.{Tail, tails, spread}
use Rattle.fst_code.specs.Transducers.{Counts, IsTransducer}
use Rattle.fst_walk.specs.Arcs.{is_at_least}
use Rattle.fst_walk.specs.Spots.{IsSpot}
use Rattle.fst_walk.specs.Trails.{IsTrail, walked, Stands, IsAtPath}
use Rattle.fst_walk.specs.declared.spot.Spot.{Spot}
use Rattle.fst_walk.specs.declared.trail.Trail.{Trail}
use Rattle.fst_walk.specs.declared.trail.TrailStage.{TrailStage}
use Rattle.fst_walk.specs.declared.trail.TrailStage.TheVariants.{Fresh, AtPath, Past}
use Rattle.sg_base.specs.declared.node.Edge.{Edge}
use Rattle.std.proofs.Common.{◌≡◌, ◌≤◌, ◌<◌, ◌+◌, ℕ, Bool, true, false, cond, ◌⊎◌, inl, inr}
use Rattle.std.proofs.Common.{List, [], ◌∷◌, ◌++◌, length, take, get_or, refl, sym, ap, ◌∙◌, subst}
use Rattle.std.proofs.Common.{arith, length-append, Some, None}
use Rattle.std.proofs.lemmas.Bool.{cases_lt, le-leb}
use Rattle.std.proofs.lemmas.List.{length-take-le}
use Rattle.std.specs.List.{AllByRecursion, find}
use Rattle.fst_walk.proofs.SpotLemmas.{found_step}
use Rattle.fst_walk.proofs.BoolLemmas.{clash, last_or}
use Rattle.fst_walk.proofs.ArcLemmas.{find_split}
use Rattle.fst_walk.proofs.PlaceLemmas.{place_bytes}
use Rattle.fst_walk.proofs.NodeLemmas.{zero_or}
use Rattle.fst_walk.proofs.SpotLemmas.{spot_is}

-- a spot for where there is none
pub nowhere : Spot
nowhere = record { node = record { 0 = 0 }; cost = 0; ordinal = 0 }

pub spot_fits : (t : List (List Edge)) → IsTransducer t → (p : List ℕ) (s : Spot) → IsSpot t p s
    → length p ≤ 324
spot_fits t so p s is = place_bytes (root_paths t) (tails t) p s.node.0 s.cost s.ordinal 324
    is.meets (so.some s.node.0 is.is_node) so.short

pub length_walked : (t : List (List Edge)) (w : Trail) → IsTrail t w → length (walked w) ≡ w.len
length_walked t w i = length-take-le w.len w.bytes (omega (arith, i.fits, i.room))

pub step_fits : (t : List (List Edge)) → IsTransducer t → (w : Trail) → IsTrail t w
    → (l : ℕ) (s : Spot) → IsSpot t (walked w ++ l ∷ []) s → w.len ≤ 323
step_fits t so w i l s is =
    let a = spot_fits t so (walked w ++ l ∷ []) s is in
    let b = length-append (walked w) (l ∷ []) in
    let c = length_walked t w i in
    omega (arith, a, b, c)

pushed_spots_by : (t : List (List Edge)) (old new : Trail) (l : ℕ) (s : Spot) → IsTrail t old
    → IsSpot t (walked old ++ l ∷ []) s
    → new.len ≡ old.len + 1 → walked new ≡ walked old ++ l ∷ []
    → ((i : ℕ) → i ≤ old.len → take i new.bytes ≡ take i old.bytes)
    → ((d : Spot) → get_or new.frames new.len d ≡ s)
    → ((i : ℕ) (d : Spot) → i ≤ old.len → get_or new.frames i d ≡ get_or old.frames i d)
    → (i : ℕ) (d : Spot) → (i ≤ old.len) ⊎ (i ≡ new.len)
    → IsSpot t (take i new.bytes) (get_or new.frames i d)
pushed_spots_by t old new l s g is len bytes fronts top below i d (inl h) =
    subst (λ p. IsSpot t p (get_or new.frames i d)) (sym (fronts i h))
    (subst (IsSpot t (take i old.bytes)) (sym (below i d h)) (g.spots i d h))
pushed_spots_by t old new l s g is len bytes fronts top below i d (inr e) =
    subst (λ j. IsSpot t (take j new.bytes) (get_or new.frames j d)) (sym e)
    (subst (λ p. IsSpot t p (get_or new.frames new.len d)) (sym bytes)
    (subst (IsSpot t (walked old ++ l ∷ [])) (sym (top d)) is))

pub pushed : (t : List (List Edge)) → IsTransducer t → (old new : Trail) (l : ℕ) (s : Spot)
    → IsTrail t old → IsSpot t (walked old ++ l ∷ []) s
    → new.len ≡ old.len + 1 → length new.bytes ≡ length old.bytes
    → walked new ≡ walked old ++ l ∷ []
    → ((i : ℕ) → i ≤ old.len → take i new.bytes ≡ take i old.bytes)
    → ((d : Spot) → get_or new.frames new.len d ≡ s)
    → ((i : ℕ) (d : Spot) → i ≤ old.len → get_or new.frames i d ≡ get_or old.frames i d)
    → IsTrail t new
pushed t so old new l s g is len room bytes fronts top below =
    let k = step_fits t so old g l s is in
    record {
      fits = omega (arith, k, len);
      room = room ∙ g.room;
      spots = λ i d h. pushed_spots_by t old new l s g is len bytes fronts top below i d
          (last_or i old.len new.len len h (cases_lt i new.len));
    }

pub popped : (t : List (List Edge)) (old new : Trail) → IsTrail t old → new.len + 1 ≡ old.len
    → new.bytes ≡ old.bytes
    → new.frames ≡ old.frames → IsTrail t new
popped t old new g len bytes frames = record {
  fits = omega (arith, len, g.fits);
  room = ap (λ (z : List ℕ). length z) bytes ∙ g.room;
  spots = λ i d h.
      subst (λ (z : List Spot). IsSpot t (take i new.bytes) (get_or z i d)) (sym frames)
      (subst (λ z. IsSpot t (take i z) (get_or old.frames i d)) (sym bytes)
      (g.spots i d (omega (arith, h, len))));
}

pub arc_spot : (t : List (List Edge)) → IsTransducer t
    → (p : List ℕ) (f : ℕ) (spot next : Spot) (es : List Edge) (a : Edge)
    → es ≡ get_or t spot.node.0 [] → Some a ≡ find (is_at_least f) es → next.node.0 ≡ a.target.0
    → next.cost ≡ spot.cost + a.cost → next.ordinal ≡ spot.ordinal + a.before → IsSpot t p spot
    → IsSpot t (p ++ a.label ∷ []) next
arc_spot t s p f spot next es a e h n c o is =
    spot_is t p a.label spot next a (found_step (is_at_least f) t s p spot es a e h is) refl n c o

-- the first arc of all
none_front : (f : ℕ) (xs : List Edge) → ((x : Edge) → is_at_least f x ≡ true)
    → AllByRecursion (λ (u : Edge). is_at_least f u ≡ false) xs → xs ≡ []
none_front f [] all a = refl
none_front f (x ∷ xs) all a = absurd (clash (sym a.0 ∙ all x))

all_from_zero : (x : Edge) → is_at_least 0 x ≡ true
all_from_zero x = le-leb 0 x.label (omega arith)

pub first_before : (t : List (List Edge)) → IsTransducer t → (n : ℕ) (es : List Edge) (a : Edge)
    → n < length t → es ≡ get_or t n []
    → Some a ≡ find (is_at_least 0) es → (a.before ≡ 0) × (a.target.0 < n)
first_before t s n es a h e f =
    let sp = find_split (is_at_least 0) es a (sym f) in
    let none = none_front 0 sp.front all_from_zero sp.none in
    let is : get_or t n [] ≡ a ∷ sp.rest =
    sym e ∙ sp.is ∙ ap (λ (z : List Edge). z ++ a ∷ sp.rest) none in
    let node = s.node n h in
    let c : Counts (tails t) 0 (a ∷ sp.rest) = subst (Counts (tails t) 0) is node.counts in
    let b : AllByRecursion (λ (x : Edge). x.target.0 < n) (a ∷ sp.rest) =
    subst (AllByRecursion (λ (x : Edge). x.target.0 < n)) is node.below in
    (c.0, b.0)

found_none : (e : Edge) (es : List Edge) (b : Bool) → is_at_least 0 e ≡ b
    → cond b (Some e) (find (is_at_least 0) es) ≡ None → b ≡ false
found_none e es true i h = cc
found_none e es false i h = refl

no_arcs : (es : List Edge) → None ≡ find (is_at_least 0) es → es ≡ []
no_arcs [] f = refl
no_arcs (e ∷ es) f = absurd (clash
    (sym (found_none e es (is_at_least 0 e) refl (sym f)) ∙ all_from_zero e))

end_by : (t : List (List Edge)) → IsTransducer t → (n : ℕ) → n < length t → get_or t n [] ≡ []
    → (n ≡ 0) ⊎ (0 < n) → n ≡ 0
end_by t s n h e (inl z) = z
end_by t s n h e (inr p) =
    let none : tails t n ≡ [] = s.inner n p h ∙ ap (spread (tails t)) e in
    let some = s.some n h in
    absurd (omega (arith, some, ap (λ (z : List Tail). length z) none))

pub ends_at : (t : List (List Edge)) → IsTransducer t → (n : ℕ) (es : List Edge) → n < length t
    → es ≡ get_or t n [] → None ≡ find (is_at_least 0) es → n ≡ 0
ends_at t s n es h e f = end_by t s n h (sym e ∙ no_arcs es f) (zero_or n)

pub new_trail : (t : List (List Edge)) (w : Trail) (root : Spot) → IsSpot t [] root → w.len ≡ 0
    → length w.bytes ≡ 324
    → ((d : Spot) → get_or w.frames 0 d ≡ root) → IsTrail t w
new_trail t w root is len room top = record {
  fits = omega (arith, len);
  room = room;
  spots = λ i d h. let z : i ≡ 0 = omega (arith, h, len) in
      subst (λ j. IsSpot t (take j w.bytes) (get_or w.frames j d)) (sym z)
      (subst (IsSpot t []) (sym (top d)) is);
}

-- where the trail stands, at a stage that is known
pub stands_fresh : (t : List (List Edge)) (s : TrailStage) (given : ℕ) (w : Trail) → s ≡ Fresh
    → Stands t s given w → IsAtPath t given w
stands_fresh t s given w e h =
    let P : TrailStage → Type 0 = λ x. Stands t x given w in
    let k : Stands t Fresh given w = subst P e h in
    record { trail = k.0; place = k.1 }

pub stands_at_path : (t : List (List Edge)) (s : TrailStage) (given : ℕ) (w : Trail) → s ≡ AtPath
    → Stands t s given w → Stands t AtPath given w
stands_at_path t s given w e h = let P : TrailStage → Type 0 =
    λ x. Stands t x given w in subst P e h

pub stands_past : (t : List (List Edge)) (s : TrailStage) (given : ℕ) (w : Trail) → s ≡ Past
    → Stands t s given w → given ≡ length (root_paths t)
stands_past t s given w e h = let P : TrailStage → Type 0 = λ x. Stands t x given w in subst P e h
