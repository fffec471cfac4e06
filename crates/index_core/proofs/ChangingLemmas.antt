-- The store once a generation has its segment, or live docs that know more.
use Rattle.std.proofs.Common.{◌≡◌, ℕ, ◌+◌, ◌<◌, ◌≤◌, Bool, true, false, not, nat_eq, List}
use Rattle.std.proofs.Common.{◌&&◌, ◌||◌}
use Rattle.std.proofs.Common.{[], ◌∷◌, ◌++◌, length, map, refl, sym, ◌∙◌, ap, subst, arith}
use Rattle.std.specs.Prelude.{if◌then◌else◌, nat_lt, Contains}
use Rattle.std.specs.List.{filter_map, list_any, AllByRecursion}
use Rattle.std.proofs.lemmas.Bool.Decides.{nat_tests}
use Rattle.std.proofs.lemmas.List.Elements.{filter_map-append}
use Rattle.std.proofs.lemmas.Map.Views.{Contains-from_any}
use Rattle.sg_paths.specs.Operations.{PlainNumbered}
use Rattle.segment.specs.Pieces.{PlainPiece, live_docs_at}
use Rattle.index_core.specs.Histories.{built, live_docs_updated, Record}
use Rattle.index_core.specs.Histories.{is_among}
use Rattle.index_core.specs.Histories.{built_generation}
use Rattle.index_core.specs.Records.{frozen, current, drawn}
use Rattle.index_core.specs.Records.{next_generation}
use Rattle.index_core.specs.Generations.{documents_of, applied, is_built}
use Rattle.index_core.specs.CurrentPieces.{is_segment, IsPieceOf, is_unbuilt, is_behind}
use Rattle.index_core.specs.CurrentPieces.{after_built, after_lived}
use Rattle.index_core.specs.Keeping.{AreCurrent, IsPlain, with_piece, with_segment, with_live_docs}
use Rattle.index_core.specs.Keeping.{has_unbuilt, has_behind}
use Rattle.index_core.specs.Fields.{Stored, record_of, IsKept}
use Rattle.index_core.specs.Fields.{noting, building, living}
use Rattle.index_core.proofs.ListLemmas.{same_number, less_of, both, not_true, in_all, all_more}
use Rattle.index_core.proofs.ListLemmas.{all_weaker}
use Rattle.index_core.proofs.HeldEventLemmas.{current_drawn}
use Rattle.index_core.proofs.PlainLemmas.{plain_after, merges_still}
use Rattle.index_core.proofs.BuiltLemmas.{built_keeps, lived_keeps}
use Rattle.index_core.proofs.HeldLemmas.{held_quiet}
use Rattle.index_core.proofs.KeptLemmas.{quiet_built, quiet_lived}
use Rattle.index_core.proofs.KeptLemmas.{kept_changed, same_views, same_lists, same_drawn}
use Rattle.index_core.proofs.KeptLemmas.{builds_nothing, Leaves}

-- ---- what the pieces tell of a generation

flipped : (a b : ℕ) → nat_eq a b ≡ nat_eq b a
flipped a b = by_cases (nat_eq a b) (nat_eq b a) refl refl
  where
    by_cases : (c d : Bool) → nat_eq a b ≡ c → nat_eq b a ≡ d → c ≡ d
    by_cases true true p q = refl
    by_cases false false p q = refl
    by_cases true false p q = grind (arith, nat_tests)
    by_cases false true p q = grind (arith, nat_tests)

tells_at : (a b c d : Bool) (rest rest' : Bool) → (a ≡ true → b ≡ c) → rest ≡ (rest' && c)
    → ((a && b) || rest) ≡ ((a || rest') && c)
tells_at true b true d rest rest' same e = rw (same refl) refl
tells_at true b false d rest rest' same e =
    rw (same refl) (e ∙ and_no rest')
  where
    and_no : (x : Bool) → (x && false) ≡ false
    and_no true = refl
    and_no false = refl
tells_at false b c d rest rest' same e = e

-- a test that each piece of the generation passes alike
pub pieces_tell : (g : ℕ) (t : PlainPiece → Bool) (c : Bool) (ps : List PlainPiece)
    → AllByRecursion (λ p. nat_eq p.generation g ≡ true → t p ≡ c) ps
    → list_any (λ p. nat_eq p.generation g && t p) ps
    ≡ (is_among g (map (λ p. p.generation) ps) && c)
pieces_tell g t c [] all = refl
pieces_tell g t c (p ∷ ps) all =
    tells_at (nat_eq p.generation g) (t p) c c
    (list_any (λ q. nat_eq q.generation g && t q) ps)
    (is_among g (map (λ q. q.generation) ps)) all.0 (pieces_tell g t c ps all.1)
    ∙ ap (λ (b : Bool). (b || is_among g (map (λ q. q.generation) ps)) && c)
    (flipped p.generation g)

pub unbuilt_tells : (r : Record) (ps : List PlainPiece) (g : ℕ) → AreCurrent r ps
    → has_unbuilt g ps ≡ is_unbuilt r g
unbuilt_tells r ps g are =
    pieces_tell g (λ p. not (is_segment p.body)) (not (is_built r g)) ps
    (all_weaker (IsPieceOf r) (λ p. nat_eq p.generation g ≡ true
    → not (is_segment p.body) ≡ not (is_built r g))
    (λ p is here. ap not (sym is.has_segment
    ∙ ap (is_built r) (same_number p.generation g here))) ps are.each)
    ∙ ap (λ (gs : List ℕ). is_among g gs && not (is_built r g)) are.generations

pub behind_tells : (r : Record) (ps : List PlainPiece) (g upto : ℕ) → AreCurrent r ps
    → has_behind g upto ps ≡ is_behind r g upto
behind_tells r ps g upto are =
    let c : Bool = is_built r g && nat_lt (applied r g) upto in
    pieces_tell g (λ p. is_segment p.body && nat_lt p.applied upto) c ps
    (all_weaker (IsPieceOf r) (λ p. nat_eq p.generation g ≡ true
    → (is_segment p.body && nat_lt p.applied upto) ≡ c)
    (λ p is here.
    let same : p.generation ≡ g = same_number p.generation g here in
    ap (λ (b : Bool). b && nat_lt p.applied upto)
    (sym is.has_segment ∙ ap (is_built r) same)
    ∙ ap (λ (n : ℕ). is_built r g && nat_lt n upto)
    (is.applied_through ∙ ap (applied r) same)) ps are.each)
    ∙ ap (λ (gs : List ℕ). is_among g gs && c) are.generations

-- ---- a generation changes

among_drawn : (r : Record) (g : ℕ) → IsPlain r → is_among g (current r) ≡ true
    → g < next_generation r
among_drawn r g plain is =
    in_all (λ x. x < next_generation r) g (drawn r) (current_drawn r g is) plain.drawn_before

is_current : (r : Record) (g : ℕ) → is_among g (current r) ≡ true → Contains (current r) g
is_current r g is = Contains-from_any {eq = nat_eq} same_number g (current r) is

pub builds : {k : Stored} → IsKept k → (caller g : ℕ) (documents : List PlainNumbered)
    → is_unbuilt (record_of k) g ≡ true → documents ≡ documents_of (record_of k) g
    → length k.history + 1 + k.open_count + k.lists.merges_open ≤ k.places
    → Leaves (noting (built caller g) (with_piece g (with_segment documents) k.pieces) k)
    (after_built caller g (record_of k))
builds {k} kept caller g documents is all enough =
    let r = record_of k in
    let e = built caller g in
    let plain = kept.plain in
    let tests = both (is_among g (current r)) (not (is_built r g)) is in
    let more : AllByRecursion (λ x. x < next_generation r)
    (filter_map built_generation (k.history ++ e ∷ [])) =
    subst (AllByRecursion (λ x. x < next_generation r))
    (sym (filter_map-append built_generation k.history (e ∷ [])))
    (all_more (λ x. x < next_generation r) (filter_map built_generation k.history) g
    plain.built_before (among_drawn r g plain tests.0)) in
    record {
      kept = kept_changed kept e (with_piece g (with_segment documents) k.pieces) k.held k.lists
          k.drawn_count k.begun_count k.open_count (record {
            line = (is_current r g tests.0, not_true (is_built r g) tests.1);
            no_accept = refl;
            no_freeze = refl;
            plain = plain_after r e plain refl refl refl
                (merges_still r e plain.merges (λ n. refl) refl refl tt refl refl) more;
            drawn_count = same_drawn k e kept.fields refl;
            pieces = built_keeps r plain caller g k.pieces kept.pieces documents all;
            held = held_quiet r e r.journal k.held (quiet_built caller g) kept.held;
            views = same_views kept.fields.views e refl refl;
            own_lists = same_lists kept.fields.own_lists e refl refl (λ n. refl) refl;
            room = enough;
          });
      record_is = sym (rw is refl);
    }

pub lives : {k : Stored} → IsKept k → (caller g upto : ℕ) (live_docs : List Bool)
    → is_behind (record_of k) g upto ≡ true → upto ≤ frozen (record_of k)
    → live_docs ≡ live_docs_at (record_of k).journal upto (documents_of (record_of k) g)
    → length k.history + 1 + k.open_count + k.lists.merges_open ≤ k.places
    → Leaves (noting (live_docs_updated caller g upto)
    (with_piece g (with_live_docs live_docs upto) k.pieces) k)
    (after_lived caller g upto (record_of k))
lives {k} kept caller g upto live_docs is within all enough =
    let r = record_of k in
    let e = live_docs_updated caller g upto in
    let plain = kept.plain in
    let tests = both (is_among g (current r)) (is_built r g && nat_lt (applied r g) upto) is in
    let more = both (is_built r g) (nat_lt (applied r g) upto) tests.1 in
    record {
      kept = kept_changed kept e (with_piece g (with_live_docs live_docs upto) k.pieces) k.held
          k.lists k.drawn_count k.begun_count k.open_count (record {
            line = (is_current r g tests.0, more.0, less_of (applied r g) upto more.1, within);
            no_accept = refl;
            no_freeze = refl;
            plain = plain_after r e plain refl refl refl
                (merges_still r e plain.merges (λ n. refl) refl refl tt refl refl)
                (builds_nothing k e plain refl);
            drawn_count = same_drawn k e kept.fields refl;
            pieces =
                lived_keeps r plain caller g upto k.pieces kept.pieces live_docs more.0 within all;
            held = held_quiet r e r.journal k.held (quiet_lived caller g upto) kept.held;
            views = same_views kept.fields.views e refl refl;
            own_lists = same_lists kept.fields.own_lists e refl refl (λ n. refl) refl;
            room = enough;
          });
      record_is = sym (rw is refl);
    }

-- ---- what the calls leave

pub builds_if : {k : Stored} → IsKept k → (caller g : ℕ) (documents : List PlainNumbered)
    → (is_unbuilt (record_of k) g ≡ true → documents ≡ documents_of (record_of k) g)
    → length k.history + 1 + k.open_count + k.lists.merges_open ≤ k.places
    → Leaves (building caller g documents k) (after_built caller g (record_of k))
builds_if {k} kept caller g documents are enough =
    by_cases (has_unbuilt g k.pieces) (sym (unbuilt_tells (record_of k) k.pieces g kept.pieces))
  where
    by_cases : (b : Bool) → is_unbuilt (record_of k) g ≡ b
        → Leaves (if b
        then noting (built caller g) (with_piece g (with_segment documents) k.pieces) k else k)
        (after_built caller g (record_of k))
    by_cases true is = builds kept caller g documents is (are is) enough
    by_cases false is = record { kept = kept; record_is = sym (rw is refl) }

pub lives_if : {k : Stored} → IsKept k → (caller g upto : ℕ) (live_docs : List Bool)
    → upto ≤ frozen (record_of k)
    → (is_behind (record_of k) g upto ≡ true
    → live_docs ≡ live_docs_at (record_of k).journal upto (documents_of (record_of k) g))
    → length k.history + 1 + k.open_count + k.lists.merges_open ≤ k.places
    → Leaves (living caller g live_docs upto k) (after_lived caller g upto (record_of k))
lives_if {k} kept caller g upto live_docs within are enough =
    by_cases (has_behind g upto k.pieces)
    (sym (behind_tells (record_of k) k.pieces g upto kept.pieces))
  where
    by_cases : (b : Bool) → is_behind (record_of k) g upto ≡ b
        → Leaves (if b
        then noting (live_docs_updated caller g upto)
        (with_piece g (with_live_docs live_docs upto) k.pieces) k else k)
        (after_lived caller g upto (record_of k))
    by_cases true is = lives kept caller g upto live_docs is within (are is) enough
    by_cases false is = record { kept = kept; record_is = sym (rw is refl) }
