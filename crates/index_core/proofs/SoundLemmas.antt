-- What holds of every legal record, and what one event more asks for that.
use Rattle.std.proofs.Common.{◌≡◌, ◌≤◌, ◌+◌, ℕ, Bool, true, false, not, nat_eq, ◌||◌}
use Rattle.std.proofs.Common.{Some, List, [], ◌∷◌, ◌++◌, length, refl, sym, ap, ◌∙◌}
use Rattle.std.proofs.Common.{subst, arith, length-append}
use Rattle.std.specs.Prelude.{filter}
use Rattle.std.specs.List.{AllByRecursion, filter_map, flat_map}
use Rattle.std.proofs.lemmas.List.{append-nil}
use Rattle.std.proofs.lemmas.List.Elements.{filter_map-append, filter_agree}
use Rattle.std.proofs.lemmas.List.Folds.{list_any-append}
use Rattle.sg_paths.specs.Operations.{PlainOp, PlainNumbered}
use Rattle.sg_paths.specs.LiveDocuments.{is_deleted, live_documents}
use Rattle.segment.specs.Items.{total_of}
use Rattle.segment.specs.Pieces.{PlainPiece}
use Rattle.segment.specs.Views.{all_documents}
use Rattle.index_core.specs.declared.limits.TheConstants.{BATCH_OPERATIONS}
use Rattle.index_core.specs.Histories.{HistoryEvent, Record, View, is_among, begun_views}
use Rattle.index_core.specs.Histories.{begun_view, drawn_generation}
use Rattle.index_core.specs.Records.{with_event, frozen, drawn, current}
use Rattle.index_core.specs.Generations.{documents_of}
use Rattle.index_core.specs.EndedMerges.{HasKnownMerges, BeginsNextMerge}
use Rattle.index_core.specs.HeldGenerations.{WereDrawn}
use Rattle.index_core.specs.HeldEvents.{AreDrawn, BeginsDrawn}
use Rattle.index_core.specs.Keeping.{AreCurrent, IsPlain}
use Rattle.index_core.specs.LegalLaws.{live_in, SeesItsPrefix}
use Rattle.index_core.proofs.HeldEventLemmas.{drawn_still, current_drawn}
use Rattle.index_core.proofs.JournalLemmas.{deleted_stays, live_stays}
use Rattle.index_core.proofs.KnownMergeLemmas.{known as known_merges}
use Rattle.index_core.proofs.MergeableLemmas.{own_documents, documents_are}
use Rattle.index_core.proofs.MergingLemmas.{stay}
use Rattle.index_core.proofs.ListLemmas.{all_both}
use Rattle.index_core.proofs.PlannedLemmas.{all_members}

-- what holds of every legal record: there are pieces that are its current ones
pub record IsSound (r : Record) : Type 0 where
  pub plain : IsPlain r
  pub were : AreDrawn r
  pub few : length r.journal ≤ frozen r + BATCH_OPERATIONS
  pub pieces : List PlainPiece
  pub are : AreCurrent r pieces
  pub seen : AllByRecursion (SeesItsPrefix r) (begun_views r.history)

-- a record after another: it is sound, and drawn generations hold what they held
pub record IsAfter (r s : Record) : Type 0 where
  pub sound : IsSound s
  pub stays : (g : ℕ) → is_among g (drawn r) ≡ true → documents_of s g ≡ documents_of r g
  pub drawn_still : (g : ℕ) → is_among g (drawn r) ≡ true → is_among g (drawn s) ≡ true

-- ---- what was drawn

pub current_were : (r : Record) → WereDrawn r (current r)
current_were r = all_members (current r) (drawn r) (λ g there. current_drawn r g there)

-- an event leaves what drawn generations hold, where the one that it draws is new
pub stays_drawn : (r : Record) (e : HistoryEvent) → HasKnownMerges r → BeginsNextMerge r e
    → ((g : ℕ) → drawn_generation e ≡ Some g → is_among g (drawn r) ≡ false)
    → (g : ℕ) → is_among g (drawn r) ≡ true
    → documents_of (with_event r e) g ≡ documents_of r g
stays_drawn r e known next new g there =
    stay r e g known next (λ is. let no : true ≡ false = sym there ∙ new g is in absurd cc)

pub more_drawn : (r : Record) (e : HistoryEvent) (g : ℕ) → is_among g (drawn r) ≡ true
    → is_among g (drawn (with_event r e)) ≡ true
more_drawn r e g there =
    ap (is_among g) (filter_map-append drawn_generation r.history (e ∷ []))
    ∙ list_any-append (nat_eq g) (drawn r) (filter_map drawn_generation (e ∷ []))
    ∙ ap (λ (b : Bool). b || is_among g (filter_map drawn_generation (e ∷ []))) there

-- ---- views

pub documents_same : (r s : Record) (gs : List ℕ)
    → ((g : ℕ) → is_among g (drawn r) ≡ true → documents_of s g ≡ documents_of r g)
    → WereDrawn r gs → flat_map (documents_of s) gs ≡ flat_map (documents_of r) gs
documents_same r s [] same were = refl
documents_same r s (g ∷ gs) same were =
    ap (λ (ds : List PlainNumbered). ds ++ flat_map (documents_of s) gs) (same g were.0)
    ∙ ap (λ (ds : List PlainNumbered). documents_of r g ++ ds) (documents_same r s gs same were.1)

-- what is live of drawn generations after operations that were accepted
pub live_in_still : (r s : Record) (more : List PlainOp) (upto : ℕ) (gs : List ℕ)
    → s.journal ≡ r.journal ++ more
    → ((g : ℕ) → is_among g (drawn r) ≡ true → documents_of s g ≡ documents_of r g)
    → WereDrawn r gs → upto ≤ length r.journal → live_in s upto gs ≡ live_in r upto gs
live_in_still r s more n gs journal same were within =
    ap (filter (λ d. not (is_deleted s.journal n d))) (documents_same r s gs same were)
    ∙ filter_agree (λ d. not (is_deleted s.journal n d)) (λ d. not (is_deleted r.journal n d))
    (λ d. ap (λ (ops : List PlainOp). not (is_deleted ops n d)) journal
    ∙ ap not (deleted_stays r.journal more n d within)) (flat_map (documents_of r) gs)

pub sees_still : (r s : Record) (more : List PlainOp) (v : View) → s.journal ≡ r.journal ++ more
    → ((g : ℕ) → is_among g (drawn r) ≡ true → documents_of s g ≡ documents_of r g)
    → WereDrawn r v.generations → SeesItsPrefix r v → SeesItsPrefix s v
sees_still r s more v journal same were is =
    let n = v.upto in
    let filtered : live_in s n v.generations ≡ live_in r n v.generations =
    live_in_still r s more n v.generations journal same were is.within in
    let whole : live_documents s.journal n ≡ live_documents r.journal n =
    ap (λ (ops : List PlainOp). live_documents ops n) journal
    ∙ live_stays r.journal more n is.within in
    record {
      within = (let long = ap (λ (ops : List PlainOp). length ops) journal in
          let both = length-append r.journal more in
          let inside = is.within in omega (arith, long, both, inside));
      same = λ f. ap (total_of f) filtered ∙ is.same f ∙ ap (total_of f) (sym whole);
    }

pub all_see : (r s : Record) (more : List PlainOp) (vs : List View)
    → s.journal ≡ r.journal ++ more
    → ((g : ℕ) → is_among g (drawn r) ≡ true → documents_of s g ≡ documents_of r g)
    → AllByRecursion (λ v. WereDrawn r v.generations) vs
    → AllByRecursion (SeesItsPrefix r) vs → AllByRecursion (SeesItsPrefix s) vs
all_see r s more [] journal same were all = tt
all_see r s more (v ∷ vs) journal same were all = (
  sees_still r s more v journal same were.0 all.0,
  all_see r s more vs journal same were.1 all.1,
)

-- the current generations have what is live after all that is frozen
pub current_live : (r : Record) → IsSound r → (f : PlainNumbered → ℕ)
    → total_of f (live_in r (frozen r) (current r))
    ≡ total_of f (live_documents r.journal (frozen r))
current_live r sound f =
    let documents : all_documents sound.pieces ≡ flat_map (documents_of r) (current r) =
    documents_are r sound.pieces (own_documents r sound.pieces sound.are.each)
    ∙ ap (λ (gs : List ℕ). flat_map (documents_of r) gs) sound.are.generations in
    ap (λ (ds : List PlainNumbered).
    total_of f (filter (λ d. not (is_deleted r.journal (frozen r) d)) ds)) (sym documents)
    ∙ sound.are.live f

-- ---- one event more, which accepts nothing

-- what one event asks, so that the record after it is sound
pub record Asks (r : Record) (e : HistoryEvent) : Type 0 where
  pub next : BeginsNextMerge r e
  pub new : (g : ℕ) → drawn_generation e ≡ Some g → is_among g (drawn r) ≡ false
  pub plain : IsPlain (with_event r e)
  pub begins : BeginsDrawn r e
  pub few : length r.journal ≤ frozen (with_event r e) + BATCH_OPERATIONS
  pub pieces : List PlainPiece
  pub are : AreCurrent (with_event r e) pieces
  pub seen : AllByRecursion (SeesItsPrefix (with_event r e)) (filter_map begun_view (e ∷ []))

pub after_event : (r : Record) (e : HistoryEvent) → IsSound r → Asks r e
    → IsAfter r (with_event r e)
after_event r e sound asks =
    let s = with_event r e in
    let stays = stays_drawn r e (known_merges r sound.plain.merges) asks.next asks.new in
    let views : begun_views s.history ≡ begun_views r.history ++ filter_map begun_view (e ∷ []) =
    filter_map-append begun_view r.history (e ∷ []) in
    record {
      sound = record {
        plain = asks.plain;
        were = drawn_still r e r.journal sound.were asks.begins;
        few = asks.few;
        pieces = asks.pieces;
        are = asks.are;
        seen = subst (λ (vs : List View). AllByRecursion (SeesItsPrefix s) vs) (sym views)
            (all_both (SeesItsPrefix s) (begun_views r.history) (filter_map begun_view (e ∷ []))
            (all_see r s [] (begun_views r.history) (sym (append-nil r.journal)) stays
            sound.were.views sound.seen) asks.seen);
      };
      stays = stays;
      drawn_still = more_drawn r e;
    }
