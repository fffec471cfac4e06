-- Every legal record is sound.
use Rattle.std.proofs.Common.{◌≡◌, ◌≤◌, ◌<◌, ◌+◌, ◌-◌, ℕ, zero, suc, Bool, true, false, nat_eq}
use Rattle.std.proofs.Common.{None, List, [], ◌∷◌, ◌++◌, length, take, refl, sym, ap, ◌∙◌, subst}
use Rattle.std.proofs.Common.{arith, add-one}
use Rattle.std.proofs.lemmas.Bool.Decides.{nat_tests}
use Rattle.sg_paths.specs.Operations.{PlainOp}
use Rattle.index_core.specs.declared.limits.TheConstants.{BATCH_OPERATIONS}
use Rattle.index_core.specs.Histories.{HistoryEvent, accept, freeze, begin, built}
use Rattle.index_core.specs.Histories.{live_docs_updated, merge_begin, merge_end, merge_drop}
use Rattle.index_core.specs.Histories.{view_end, Record, is_among, accepted_number}
use Rattle.index_core.specs.Histories as events
use Rattle.index_core.specs.Records.{with_event, accepted, buffered, drawn}
use Rattle.index_core.specs.Generations.{documents_of}
use Rattle.index_core.specs.LegalHistories.{IsLegal, IsLegalNext, first_events}
use Rattle.index_core.specs.LegalLaws.{ViewsSeeTheirPrefix, CurrentGenerationsHaveAll}
use Rattle.index_core.specs.LegalLaws.{GenerationsKeepTheirDocuments}
use Rattle.index_core.proofs.HistoryLemmas.{accepted-skip, accepted-more, accepted-take}
use Rattle.index_core.proofs.KnownLemmas.{take_next}
use Rattle.index_core.proofs.LegalLemmas.{first_all}
use Rattle.index_core.proofs.ListLemmas.{same_number}
use Rattle.index_core.proofs.SoundLemmas.{IsSound, IsAfter, current_live}
use Rattle.index_core.proofs.SoundEventLemmas.{sound_view_end, sound_begin, sound_built}
use Rattle.index_core.proofs.SoundEventLemmas.{sound_lived, sound_merge_begin, sound_merge_drop}
use Rattle.index_core.proofs.SoundDrawLemmas.{sound_accept, sound_freeze, sound_merge_end}

-- the empty record
sound_empty : IsSound (record { history = []; journal = [] })
sound_empty = record {
  plain = record {
    numbered = refl;
    merges = record {
      numbers = tt;
      closed_before = tt;
      within = tt;
      rise = tt;
      in_use = tt;
      apart = λ g. omega arith;
      once = tt;
    };
    frozen_before = tt;
    frozen_within = omega arith;
    drawn_before = tt;
    built_before = tt;
    most = omega arith;
  };
  were = record { views = tt; merges = tt };
  few = omega arith;
  pieces = [];
  are = record { generations = refl; rising = tt; each = tt; live = λ f. refl };
  seen = tt;
}

-- ---- the first events, and one more

take_one : {X : Type 0} (n : ℕ) (xs : List X) → n < length xs
    → (x : X) × (take (suc n) xs ≡ take n xs ++ x ∷ [])
take_one {X} n [] less = absurd (omega (arith, less))
take_one {X} zero (x ∷ xs) less = (x, refl)
take_one {X} (suc n) (x ∷ xs) less =
    let later = take_one n xs (omega (arith, less)) in
    (later.0, ap (λ (ys : List X). x ∷ ys) later.1)

not_full : (n most : ℕ) → n ≤ most → (n ≡ most → ⊥) → n < most
not_full n most less other = by_test (nat_eq n most) refl
  where
    by_test : (b : Bool) → nat_eq n most ≡ b → n < most
    by_test true is = absurd (other (same_number n most is))
    by_test false is = grind (arith, nat_tests, less, is)

module _ (s : Record) (legal : IsLegal s) (k : ℕ) where
  abbrev r : Record
  r = first_events k s

  -- an event that accepts nothing
  pub first_next : (e : HistoryEvent) → take (suc k) s.history ≡ take k s.history ++ e ∷ []
      → accepted_number e ≡ None → with_event r e ≡ first_events (suc k) s
  first_next e split none =
      let count : events.accepted (take (suc k) s.history)
      ≡ events.accepted (take k s.history) =
      ap events.accepted split ∙ accepted-skip (take k s.history) e none in
      ap (λ (h : List HistoryEvent). record {
        history = h;
        journal = take (events.accepted (take k s.history)) s.journal;
      }) (sym split)
      ∙ ap (λ (n : ℕ). record {
        history = take (suc k) s.history;
        journal = take n s.journal;
      }) (sym count)

  -- the operation of the next event
  pub first_accept : (caller seq : ℕ)
      → take (suc k) s.history ≡ take k s.history ++ accept caller seq ∷ []
      → (op : PlainOp)
      × (record {
        history = take k s.history ++ accept caller seq ∷ [];
        journal = r.journal ++ op ∷ [];
      } ≡ first_events (suc k) s)
  first_accept caller seq split =
      let n = events.accepted (take k s.history) in
      let count : events.accepted (take (suc k) s.history) ≡ suc n =
      ap events.accepted split ∙ accepted-more (take k s.history) caller seq ∙ add-one n in
      let numbered = legal.numbered in
      let within = accepted-take s.history (suc k) in
      let one = take_one n s.journal (omega (arith, count, numbered, within)) in (
        one.0,
        ap (λ (ops : List PlainOp). record {
          history = take k s.history ++ accept caller seq ∷ [];
          journal = ops;
        }) (sym one.1)
            ∙ ap (λ (m : ℕ). record {
              history = take k s.history ++ accept caller seq ∷ [];
              journal = take m s.journal;
            }) (sym count)
            ∙ ap (λ (h : List HistoryEvent). record {
              history = h;
              journal = take (events.accepted (take (suc k) s.history)) s.journal;
            }) (sym split),
      )

  after_accept : (caller seq : ℕ) → IsSound r → IsLegalNext r (accept caller seq)
      → take (suc k) s.history ≡ take k s.history ++ accept caller seq ∷ []
      → IsAfter r (first_events (suc k) s)
  after_accept caller seq sound next split =
      let got = first_accept caller seq split in
      let is : seq ≡ accepted r + 1 = next.line.0 in
      let most = next.line.1 in
      let few = sound.few in
      let numbered = sound.plain.numbered in
      let less : buffered r < BATCH_OPERATIONS =
      not_full (buffered r) BATCH_OPERATIONS (omega (arith, few, numbered))
      (λ full. let no : false ≡ true = next.freezes_when_full full in absurd cc) in
      subst (IsAfter r)
      (ap (λ (q : ℕ). record {
        history = take k s.history ++ accept caller q ∷ [];
        journal = r.journal ++ got.0 ∷ [];
      }) (sym is) ∙ got.1)
      (sound_accept r caller got.0 sound (omega (arith, is, most)) less)

  pub after_next : (e : HistoryEvent) → IsSound r → IsLegalNext r e
      → take (suc k) s.history ≡ take k s.history ++ e ∷ [] → IsAfter r (first_events (suc k) s)
  after_next (accept c q) sound next split = after_accept c q sound next split
  after_next (freeze c g f u) sound next split =
      subst (IsAfter r) (first_next (freeze c g f u) split refl)
      (sound_freeze r c g f u sound next.line.0 next.line.1 next.line.2 next.line.3)
  after_next (begin c v u gs) sound next split =
      subst (IsAfter r) (first_next (begin c v u gs) split refl)
      (sound_begin r c v u gs sound next.line.1 next.line.2 next.line.3)
  after_next (built c g) sound next split =
      subst (IsAfter r) (first_next (built c g) split refl)
      (sound_built r c g sound next.line.0)
  after_next (live_docs_updated c g u) sound next split =
      subst (IsAfter r) (first_next (live_docs_updated c g u) split refl)
      (sound_lived r c g u sound next.line.1 next.line.3)
  after_next (merge_begin c m gs) sound next split =
      subst (IsAfter r) (first_next (merge_begin c m gs) split refl)
      (sound_merge_begin r c m gs sound next.line.0 next.line.1)
  after_next (merge_end c m i gone) sound next split =
      subst (IsAfter r) (first_next (merge_end c m i gone) split refl)
      (sound_merge_end r c m i gone next.line.0 sound next.line.1 next.line.2)
  after_next (merge_drop c m) sound next split =
      subst (IsAfter r) (first_next (merge_drop c m) split refl)
      (sound_merge_drop r c m next.line.0 sound next.line.1)
  after_next (view_end c v gone) sound next split =
      subst (IsAfter r) (first_next (view_end c v gone) split refl)
      (sound_view_end r c v gone sound)

  pub after_first : k < length s.history → IsSound r → IsAfter r (first_events (suc k) s)
  after_first less sound =
      let next = take_next k s.history less in
      after_next next.0 sound (legal.events k next.0 next.1) next.2

-- ---- all events

pub first_sound : (s : Record) → IsLegal s → (k : ℕ) → k ≤ length s.history
    → IsSound (first_events k s)
first_sound s legal zero less = sound_empty
first_sound s legal (suc k) less =
    (after_first s legal k (omega (arith, less))
    (first_sound s legal k (omega (arith, less)))).sound

pub legal_sound : (s : Record) → IsLegal s → IsSound s
legal_sound s legal =
    subst IsSound (first_all s legal.numbered)
    (first_sound s legal (length s.history) (omega arith))

-- ---- the laws

pub views_see : ViewsSeeTheirPrefix
views_see r legal = (legal_sound r legal).seen

pub current_have : CurrentGenerationsHaveAll
current_have = record {
  live = λ r legal. current_live r (legal_sound r legal);
  once = λ r legal. (legal_sound r legal).plain.merges.once;
}

-- generations that were drawn hold the same after more events
record Keep (s : Record) (k n g : ℕ) : Type 0 where
  same : documents_of (first_events n s) g ≡ documents_of (first_events k s) g
  still : is_among g (drawn (first_events n s)) ≡ true

keep_from : (s : Record) → IsLegal s → (k g j n : ℕ) → n ≡ k + j → n ≤ length s.history
    → is_among g (drawn (first_events k s)) ≡ true → Keep s k n g
keep_from s legal k g zero n is within there =
    let same : k ≡ n = omega (arith, is) in
    subst (λ (x : ℕ). Keep s k x g) same (record { same = refl; still = there })
keep_from s legal k g (suc j) n is within there =
    let before = keep_from s legal k g j (k + j) refl (omega (arith, is, within)) there in
    let step = after_first s legal (k + j) (omega (arith, is, within))
    (first_sound s legal (k + j) (omega (arith, is, within))) in
    let next : suc (k + j) ≡ n = omega (arith, is) in
    subst (λ (x : ℕ). Keep s k x g) next (record {
      same = step.stays g before.still ∙ before.same;
      still = step.drawn_still g before.still;
    })

pub generations_keep : GenerationsKeepTheirDocuments
generations_keep s k g legal within there =
    let kept = keep_from s legal k g (length s.history - k) (length s.history)
    (omega (arith, within)) (omega arith) there in
    subst (λ (x : Record). documents_of x g ≡ documents_of (first_events k s) g)
    (first_all s legal.numbered) kept.same
