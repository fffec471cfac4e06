-- The walk that leaves each node once, as a loop with its own stack.
use Rattle.std.proofs.Common.{◌≡◌, ◌<◌, ℕ, zero, suc, Bool, true, false, cond, List, [], ◌∷◌, ◌++◌}
use Rattle.std.proofs.Common.{get_or, refl, sym, ap, ◌∙◌, append_assoc, arith}
use Rattle.std.proofs.lemmas.List.{append-nil}
use Rattle.sg_base.specs.declared.node.Edge.{Edge}
use Rattle.fst_code.specs.Rules.{has, for_targets, postorder}
use Rattle.fst_code.proofs.TableLemmas.{Falls}
use Rattle.fst_code.proofs.WalkLemmas.{postorder_deep}

-- frames: a node and the edges that are still to be looked at, the innermost first
abbrev pub Frame : Type 0
Frame = ℕ × List Edge

abbrev pub finish : List (List Edge) → List Frame → List ℕ → List ℕ
finish nodes [] done = done
finish nodes (f ∷ fs) done = finish nodes fs
    (for_targets (postorder f.0 nodes) f.1 done ++ f.0 ∷ [])

-- a target that was left already
pub passes : (nodes : List (List Edge)) (id : ℕ) (e : Edge) (es : List Edge) (fs : List Frame)
    (done : List ℕ) → e.target.0 < id → has e.target.0 done ≡ true
    → finish nodes ((id, e ∷ es) ∷ fs) done ≡ finish nodes ((id, es) ∷ fs) done
unfolding postorder
passes nodes zero e es fs done h known = absurd (omega (arith, h))
passes nodes (suc id) e es fs done h known =
    ap (λ (b : Bool). finish nodes fs
    (for_targets (postorder (suc id) nodes) es
    (cond b done (for_targets (postorder id nodes) (get_or nodes e.target.0 []) done
    ++ e.target.0 ∷ [])) ++ suc id ∷ [])) known

-- a target that is entered
pub enters : (nodes : List (List Edge)) (id : ℕ) (e : Edge) (es : List Edge) (fs : List Frame)
    (done : List ℕ) → Falls nodes → e.target.0 < id → has e.target.0 done ≡ false
    → finish nodes ((id, e ∷ es) ∷ fs) done
    ≡ finish nodes ((e.target.0, get_or nodes e.target.0 []) ∷ (id, es) ∷ fs) done
unfolding postorder
enters nodes id e es fs done falls h new =
    let t = e.target.0 in
    let shallow : postorder id nodes t done ≡ postorder (suc t) nodes t done =
    postorder_deep id (suc t) nodes t done falls h (omega (arith)) in
    let opened : postorder (suc t) nodes t done
    ≡ for_targets (postorder t nodes) (get_or nodes t []) done ++ t ∷ [] =
    ap (λ (b : Bool). cond b done (for_targets (postorder t nodes) (get_or nodes t []) done
    ++ t ∷ [])) new in
    ap (λ (d : List ℕ). finish nodes fs (for_targets (postorder id nodes) es d ++ id ∷ []))
    (shallow ∙ opened)

-- What is left stays at the front.
abbrev pub Goes : List ℕ → List ℕ → Type 0
Goes done all = (more : List ℕ) × (all ≡ done ++ more)

pub goes_on : (a b c : List ℕ) → Goes a b → Goes b c → Goes a c
goes_on a b c g h = (g.0 ++ h.0, h.1 ∙ ap (λ x. x ++ h.0) g.1 ∙ append_assoc a g.0 h.0)

pub targets_go : (f : ℕ → List ℕ → List ℕ) → ((t : ℕ) (d : List ℕ) → Goes d (f t d))
    → (es : List Edge) (done : List ℕ) → Goes done (for_targets f es done)
targets_go f goes [] done = ([], sym (append-nil done))
targets_go f goes (e ∷ es) done =
    goes_on done (f e.target.0 done) (for_targets f es (f e.target.0 done)) (goes e.target.0 done)
    (targets_go f goes es (f e.target.0 done))

either_goes : (b : Bool) (id : ℕ) (done next : List ℕ) → Goes done next
    → Goes done (cond b done (next ++ id ∷ []))
either_goes true id done next g = ([], sym (append-nil done))
either_goes false id done next g = goes_on done next (next ++ id ∷ []) g (id ∷ [], refl)

pub postorder_goes : (deep : ℕ) (nodes : List (List Edge)) (id : ℕ) (done : List ℕ)
    → Goes done (postorder deep nodes id done)
unfolding postorder
postorder_goes zero nodes id done = ([], sym (append-nil done))
postorder_goes (suc deep) nodes id done =
    either_goes (has id done) id done (for_targets (postorder deep nodes) (get_or nodes id []) done)
    (targets_go (postorder deep nodes) (postorder_goes deep nodes) (get_or nodes id []) done)
