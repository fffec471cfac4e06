-- A meeting keeps the rule: a note is made, taken in, and looked at once.
use Rattle.std.proofs.Common.{◌≡◌, ◌<◌, ◌≤◌, ◌⊎◌, ℕ, Bool, true, false, cond, List, []}
use Rattle.std.proofs.Common.{◌∷◌, ◌++◌, length, set, Option, Some, None, refl, sym, ap, ◌∙◌}
use Rattle.std.proofs.Common.{subst, arith, inl, inr, ⊎_elim}
use Rattle.std.specs.Prelude.{leb}
use Rattle.std.proofs.lemmas.List.{append-nil}
use Rattle.std.proofs.lemmas.Bool.Decides.{leb_tells}
use mathlib.Core.Option.{none, some-ne-none}
use Rattle.atomic_table.specs.Table.{keeps, step, Allows, Splits, Joins}
use Rattle.atomic_table.proofs.Lists.{set_else, set_again}
use Rattle.turn_lock.specs.declared.seat_view.SeatView.{SeatView}
use Rattle.turn_lock.specs.Handles.{IsPrefix}
use Rattle.turn_lock.specs.Rule.{At, InLine, KeepsRule}
use Rattle.turn_lock.specs.Steps.{note, joined, size, fresh, Tells}
use Rattle.turn_lock.proofs.PlaceLemmas.{one_at, at_prefix, prefix_self, prefix_of_nothing}
use Rattle.turn_lock.proofs.PlaceLemmas.{prefix_length, prefix_whole}
use Rattle.turn_lock.proofs.NumberLemmas.{numbers_kept, numbers_added}
use Rattle.turn_lock.proofs.TicketLemmas.{tickets_kept, tickets_added}
use Rattle.turn_lock.proofs.ChainLemmas.{chain_moved, chain_added}
use Rattle.turn_lock.proofs.ValueLemmas.{place_kept, place_added}
use Rattle.turn_lock.proofs.StepLemmas.{Owes, unchanged}

prefix_back : {A : Type 0} (xs ys : List A) → IsPrefix xs ys → length ys ≤ length xs
    → IsPrefix ys xs
prefix_back xs ys p le = ([], prefix_whole xs ys p le ∙ sym (append-nil ys))

-- what a seat has observed once it met w, where b tells that w has observed as much
abbrev pub history_of : {E O : Type 0} → Bool → SeatView E O → SeatView E O → List E
history_of b v w = cond b w.history v.history

abbrev pub journal_of : {E O : Type 0} → Bool → SeatView E O → SeatView E O → List O
journal_of b v w = cond b w.journal v.journal

-- both are prefixes of the longer one
both_before : {E O : Type 0} (v w : SeatView E O) → InLine v w → (b : Bool)
    → leb (size v) (size w) ≡ b
    → IsPrefix v.history (history_of b v w) × IsPrefix v.journal (journal_of b v w)
    × IsPrefix w.history (history_of b v w) × IsPrefix w.journal (journal_of b v w)
both_before v w line true is =
    let le : size v ≤ size w = ⊎_elim (λ h. h.1)
    (λ h. let no : true ≡ false = sym is ∙ h.0 in cc) (leb_tells (size v) (size w)) in ⊎_elim
    (λ before. (before.0, before.1, prefix_self w.history, prefix_self w.journal))
    (λ after.
    let p = prefix_length w.history v.history after.0 in
    let q = prefix_length w.journal v.journal after.1 in (
      prefix_back w.history v.history after.0 (omega arith),
      prefix_back w.journal v.journal after.1 (omega arith),
      prefix_self w.history,
      prefix_self w.journal,
    ))
    line
both_before v w line false is =
    let lt : size w < size v = ⊎_elim
    (λ h. let no : true ≡ false = sym h.0 ∙ is in cc) (λ h. h.1) (leb_tells (size v) (size w)) in
    ⊎_elim
    (λ before.
    let p = prefix_length v.history w.history before.0 in
    let q = prefix_length v.journal w.journal before.1 in absurd (omega arith))
    (λ after. (prefix_self v.history, prefix_self v.journal, after.0, after.1))
    line

-- what holds of both records holds of the longer one
either_one : {E O : Type 0} (v w : SeatView E O) (P : List E → List O → Type 0)
    → P v.history v.journal → P w.history w.journal → (b : Bool)
    → P (history_of b v w) (journal_of b v w)
either_one v w P mine other true = other
either_one v w P mine other false = mine

module _ {E O V : Type 0} (history : V → List E) (journal : V → List O) (caller : E → ℕ) where
  -- a note is made
  pub notes : (id : ℕ) (v : SeatView E O)
      → Splits (KeepsRule history journal caller) id v v (note v)
  notes id v s R at =
      let r : SeatView E O = note v in
      let few = R.tickets.few in
      subst
      (λ (views : List (SeatView E O)). KeepsRule history journal caller
      (record { words = s.words; homes = s.homes; views = views ++ r ∷ [] }))
      (sym (set_again s.views id v at))
      (record {
        next = R.next;
        serving = R.serving;
        waiting = R.waiting;
        past = R.past;
        log = R.log;
        words = R.words;
        tickets = tickets_added s.views r R.next R.serving R.waiting refl (omega arith) R.tickets;
        numbers = numbers_added s.views r refl refl R.numbers;
        chain = chain_added caller R.past R.log s.views r (record {
          prefix = R.chain.prefix id v at;
          in_line = λ k x here. R.chain.in_line id k v x at here;
          meetings = (
            prefix_self v.history,
            prefix_self v.journal,
            prefix_of_nothing v.history,
            prefix_of_nothing v.journal,
            λ i e far here own. let no : None ≡ Some (caller e) = own in cc,
          );
          whole = λ (no : false ≡ true). cc;
        }) R.chain;
        place = place_added history journal caller R.serving R.past R.log s.homes s.views r refl
            R.place;
      })

  -- a note is taken in, and spent
  pub joins : (id other : ℕ) (v w : SeatView E O) → w.number ≡ None → w.made ≡ None
      → w.ticket ≡ None → w.turn ≡ false
      → Joins (KeepsRule history journal caller) id v other w (joined v w) (fresh None 0)
  joins id other v w number made ticket turn s R at apart there =
      let j : SeatView E O = joined v w in
      let spent : SeatView E O = fresh None 0 in
      let views = set s.views id j in
      let beside : At s.views other w = sym (set_else s.views id other j apart) ∙ there in
      let b = leb (size v) (size w) in
      let both = both_before v w (R.chain.in_line id other v w at beside) b refl in
      let fits : IsPrefix j.history R.past × IsPrefix j.journal R.log =
      either_one v w (λ h l. IsPrefix h R.past × IsPrefix l R.log) (R.chain.prefix id v at)
      (R.chain.prefix other w beside) b in
      let moved = chain_moved caller R.past R.log s.views id v j at refl
      (inr (prefix_length v.history j.history both.0))
      (record {
        prefix = fits;
        in_line = λ k x here. either_one v w
            (λ h l. (IsPrefix h x.history × IsPrefix l x.journal)
            ⊎ (IsPrefix x.history h × IsPrefix x.journal l))
            (R.chain.in_line id k v x at here) (R.chain.in_line other k w x beside here) b;
        meetings = (
          both.0,
          both.1,
          both.2,
          both.3,
          λ i e far here own.
              let a = R.chain.authors i e (at_prefix j.history R.past i e fits.0 here) in
              let same = R.numbers.apart a.place id (caller e) a.view v a.at at a.number own in
              let is = one_at s.views id a.place v a.view at a.at (sym same) in
              let long = ap (λ (x : SeatView E O). length x.history) is in
              let lt = a.observed in omega arith,
        );
        whole = λ has.
            let all = R.chain.whole id v at has in
            let p = prefix_length v.history j.history both.0 in
            let q = prefix_length v.journal j.journal both.1 in
            let h = ap length all.0 in
            let l = ap length all.1 in (
              prefix_whole j.history R.past fits.0 (omega arith),
              prefix_whole j.journal R.log fits.1 (omega arith),
            );
      })
      R.chain in record {
        next = R.next;
        serving = R.serving;
        waiting = R.waiting;
        past = R.past;
        log = R.log;
        words = R.words;
        tickets = tickets_kept views other w there R.next R.serving R.waiting spent (sym ticket)
            (sym number)
            (tickets_kept s.views id v at R.next R.serving R.waiting j refl refl R.tickets);
        numbers = numbers_kept views other w there spent (sym number) (sym made)
            (inr (number, made)) (numbers_kept s.views id v at j refl refl (inl refl) R.numbers);
        chain = chain_moved caller R.past R.log views other w spent there (sym number) (inl number)
            (record {
              prefix = (prefix_of_nothing R.past, prefix_of_nothing R.log);
              in_line = λ k x here. inl (prefix_of_nothing x.history, prefix_of_nothing x.journal);
              meetings = (
                prefix_of_nothing [],
                prefix_of_nothing [],
                prefix_of_nothing [],
                prefix_of_nothing [],
                λ i e far here own. absurd (some-ne-none e (sym here)),
              );
              whole = λ (no : false ≡ true). cc;
            })
            moved;
        place = place_kept history journal caller R.serving R.past R.log s.homes views other w there
            spent (sym ticket) (sym turn)
            (place_kept history journal caller R.serving R.past R.log s.homes s.views id v at j refl
            refl R.place);
      }

  -- the count is looked at once
  pub tells : (slots id : ℕ) (v : SeatView E O) (hand : List (ℕ × Option V))
      → Allows (KeepsRule history journal caller) slots id (v, hand) 2 (λ n. n)
      (Tells caller (step slots 2 0 0 none) (v, hand))
  tells slots id v hand s R many at fits =
      subst (Owes history journal caller s id hand 2 (λ n. n)
      (Tells caller (step slots 2 0 0 none) (v, hand)))
      (sym R.words) (
        v,
        keeps,
        tt,
        unchanged history journal caller s R id v at,
        (refl, R.chain.meetings id v at),
      )
