-- Down and up in a group, on the walk's plain data.
use Rattle.fst_code.specs.Lists.{root_paths}
use Rattle.fst_walk.specs.Asked.{Closed}
use Rattle.fst_walk.specs.Budgets.{budget}
use Rattle.fst_walk.specs.Children.{IsChild}
use Rattle.fst_walk.specs.Fronts.{is_front}
use Rattle.fst_walk.specs.Positions.{no_end}
use Rattle.fst_walk.specs.Spots.{IsSpot}
use Rattle.fst_walk.specs.Starts.{AllHaveContexts, is_asked}
use Rattle.fst_walk.specs.Walks.{InGroup, bytes_of}
use Rattle.fst_walk.specs.declared.children.Child.{Child}
use Rattle.fst_walk.specs.declared.spot.Spot.{Spot}
use Rattle.fst_walk.specs.declared.walk.Walk.{Walk}
use Rattle.sg_base.specs.ByteStrings.{begins}
use Rattle.sg_base.specs.declared.node.Edge.{Edge}
use Rattle.sg_context.specs.Queries.{PlainQuery}
use Rattle.std.proofs.Common.{◌≡◌, ◌≤◌, ◌+◌, ℕ, Bool, true, false, cond, ◌⊎◌, inl, inr, List}
use Rattle.std.proofs.Common.{[], ◌∷◌, ◌++◌, length, take, get_or, refl, sym, ap, ◌∙◌, subst, arith}
use Rattle.std.proofs.Common.{length-append, Some, None}
use Rattle.std.proofs.lemmas.Bool.{cases_lt}
use Rattle.std.proofs.lemmas.List.{take-take, length-take-le}
use Rattle.fst_walk.proofs.BoolLemmas.{last_or}
use Rattle.fst_walk.proofs.BeginLemmas.{begins_take, begins_trans}
use Rattle.fst_walk.proofs.ContextLemmas.{front_fits, no_end_parts}
use Rattle.fst_walk.proofs.StepLemmas.{no_end-push}
use Rattle.fst_walk.proofs.StepBudgetLemmas.{push_budget, push_cost}

pub length_bytes : (t : List (List Edge)) (q : PlainQuery) (w : Walk) → InGroup t q w
    → length (bytes_of w) ≡ w.len
length_bytes t q w g = length-take-le w.len w.at (omega (arith, g.fits, g.room))

-- what goes on from the bytes goes on from the query context's
pub asks_more : (t : List (List Edge)) (q : PlainQuery) (w : Walk) → InGroup t q w
    → (l : ℕ) (c : List ℕ)
    → begins (bytes_of w ++ l ∷ []) c ≡ true → is_asked q.contexts c ≡ true
asks_more t q w g l c h =
    let e : take w.base (take w.len w.at) ≡ take w.base w.at = take-take w.base w.len w.at g.base in
    g.asks c (begins_trans (take w.base w.at) (bytes_of w ++ l ∷ []) c
    (subst (λ z. begins z (bytes_of w ++ l ∷ []) ≡ true) e
    (begins_take w.base (bytes_of w) (l ∷ []))) h)

pub child_fits : (t : List (List Edge)) (q : PlainQuery) (w : Walk) → InGroup t q w
    → AllHaveContexts (root_paths t)
    → (f : ℕ) (c : Child) → IsChild t (bytes_of w) f c → w.len ≤ 62
child_fits t q w g all f c is =
    let k = front_fits (root_paths t) (bytes_of w ++ c.label ∷ []) all
    (no_end-push (bytes_of w) c.label g.clean is.goes_on) is.front in
    let e = length-append (bytes_of w) (c.label ∷ []) in
    let l = length_bytes t q w g in
    omega (arith, k, e, l)

-- the walk at a child
pub record Down (t : List (List Edge)) (q : PlainQuery) (old new : Walk) (f : ℕ) (c : Child) : Type
    0 where
  pub group : InGroup t q new
  pub bytes : bytes_of new ≡ bytes_of old ++ c.label ∷ []
  pub base : new.base ≡ old.base
  pub front : take new.base new.at ≡ take old.base old.at
  pub len : new.len ≡ old.len + 1
  pub cost : budget (root_paths t) q (bytes_of new) (Some 0)
      + (2 + push_cost (is_front (root_paths t) (bytes_of new ++ 29 ∷ [])) (length q.prefix))
      ≤ budget (root_paths t) q (bytes_of old) (Some f)

down_spots_by : (t : List (List Edge)) (q : PlainQuery) (old new : Walk) (c : Child)
    → InGroup t q old
    → IsSpot t (bytes_of old ++ c.label ∷ []) c.spot → new.len ≡ old.len + 1
    → bytes_of new ≡ bytes_of old ++ c.label ∷ []
    → ((i : ℕ) → i ≤ old.len → take i new.at ≡ take i old.at)
    → ((d : Spot) → get_or new.frames new.len d ≡ c.spot)
    → ((i : ℕ) (d : Spot) → i ≤ old.len → get_or new.frames i d ≡ get_or old.frames i d)
    → (i : ℕ) (d : Spot) → old.base ≤ i → i ≤ new.len → (i ≤ old.len) ⊎ (i ≡ new.len)
    → IsSpot t (take i new.at) (get_or new.frames i d)
down_spots_by t q old new c g s len bytes fronts top below i d a b (inl h) =
    subst (λ p. IsSpot t p (get_or new.frames i d)) (sym (fronts i h))
    (subst (IsSpot t (take i old.at)) (sym (below i d h)) (g.spots i d a h))
down_spots_by t q old new c g s len bytes fronts top below i d a b (inr e) =
    subst (λ j. IsSpot t (take j new.at) (get_or new.frames j d)) (sym e)
    (subst (λ p. IsSpot t p (get_or new.frames new.len d)) (sym bytes)
    (subst (IsSpot t (bytes_of old ++ c.label ∷ [])) (sym (top d)) s))

pub down : (t : List (List Edge)) (q : PlainQuery) (old new : Walk) (f : ℕ) (c : Child)
    → AllHaveContexts (root_paths t)
    → InGroup t q old → IsChild t (bytes_of old) f c → new.stage ≡ old.stage
    → new.base ≡ old.base → new.len ≡ old.len + 1 → length new.at ≡ length old.at
    → bytes_of new ≡ bytes_of old ++ c.label ∷ []
    → ((i : ℕ) → i ≤ old.len → take i new.at ≡ take i old.at)
    → ((d : Spot) → get_or new.frames new.len d ≡ c.spot)
    → ((i : ℕ) (d : Spot) → i ≤ old.len → get_or new.frames i d ≡ get_or old.frames i d)
    → Down t q old new f c
down t q old new f c all g is stage base len room bytes fronts top below =
    let front : take new.base new.at ≡ take old.base old.at =
    ap (λ n. take n new.at) base ∙ fronts old.base g.base in
    let clean : no_end (bytes_of old ++ c.label ∷ []) ≡ true =
    no_end-push (bytes_of old) c.label g.clean is.goes_on in
    let fits = child_fits t q old g all f c is in
    record {
      group = record {
        stage = stage ∙ g.stage;
        base = omega (arith, base, len, g.base);
        fits = omega (arith, len, fits);
        room = room ∙ g.room;
        clean = ap no_end bytes ∙ clean;
        spots = λ i d a b. down_spots_by t q old new c g is.spot len bytes fronts top below i d
            (omega (arith, a, base)) b
            (last_or i old.len new.len len b (cases_lt i new.len));
        asks = λ d h. g.asks d (subst (λ z. begins z d ≡ true) front h);
        closed = subst (λ z. Closed q.contexts (Some (z, None))) (sym front) g.closed;
      };
      bytes = bytes;
      base = base;
      front = front;
      len = len;
      cost = subst (λ z. budget (root_paths t) q z
          (Some 0) + (2 + push_cost (is_front (root_paths t) (z ++ 29 ∷ [])) (length q.prefix))
          ≤ budget (root_paths t) q (bytes_of old) (Some f)) (sym bytes)
          (push_budget (root_paths t) q (bytes_of old) f c.label all is.least clean is.front
          (asks_more t q old g c.label));
    }

-- the walk one byte up
clean_front : (xs : List ℕ) (l : ℕ) → no_end (xs ++ l ∷ []) ≡ true → no_end xs ≡ true
clean_front [] l h = refl
clean_front (x ∷ xs) l h = let p = no_end_parts x (xs ++ l ∷ []) h in rw p.0 (clean_front xs l p.1)

pub up : (t : List (List Edge)) (q : PlainQuery) (old new : Walk) (l : ℕ) → InGroup t q old
    → (old.len ≡ old.base → ⊥) → new.stage ≡ old.stage
    → new.base ≡ old.base → new.len + 1 ≡ old.len → new.at ≡ old.at → new.frames ≡ old.frames
    → bytes_of old ≡ bytes_of new ++ l ∷ [] → InGroup t q new
up t q old new l g apart stage base len at frames bytes =
    let front : take new.base new.at ≡ take old.base old.at =
    ap (λ n. take n new.at) base ∙ ap (take old.base) at in
    record {
      stage = stage ∙ g.stage;
      base = omega (arith, base, len, g.base, apart);
      fits = omega (arith, len, g.fits);
      room = ap (λ (z : List ℕ). length z) at ∙ g.room;
      clean = clean_front (bytes_of new) l (ap no_end (sym bytes) ∙ g.clean);
      spots = λ i d a b.
          subst (λ (z : List Spot). IsSpot t (take i new.at) (get_or z i d)) (sym frames)
          (subst (λ z. IsSpot t (take i z) (get_or old.frames i d)) (sym at)
          (g.spots i d (omega (arith, a, base)) (omega (arith, b, len))));
      asks = λ d h. g.asks d (subst (λ z. begins z d ≡ true) front h);
      closed = subst (λ z. Closed q.contexts (Some (z, None))) (sym front) g.closed;
    }

-- what a look for a start costs, found or not
pub cost_less : (b : Bool) (n : ℕ) → cond b n 0 ≤ push_cost b n
cost_less true n = omega arith
cost_less false n = omega arith

pub cost_found : (b : Bool) (n : ℕ) → b ≡ true → cond b n 0 + 2 ≤ push_cost b n
cost_found true n e = omega arith
cost_found false n e = cc
