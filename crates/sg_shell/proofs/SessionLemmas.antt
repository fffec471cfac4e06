-- Numbers and refreshes of a transcript, one line after another.
use Rattle.std.proofs.Common.{◌≡◌, ◌≤◌, ◌<◌, ◌+◌, ℕ, List, [], ◌∷◌, ◌++◌, length, Option, Some}
use Rattle.std.proofs.Common.{None, refl, sym, ap, ◌∙◌, arith, length-append, IfSome, add-zero}
use Rattle.std.specs.List.{All, AllPairs, filter_map, enumerate_from}
use Rattle.std.proofs.lemmas.List.Elements.{All-cons, filter_map-append}
use Rattle.std.proofs.lemmas.List.Kept.{AllPairs-cons}
use Rattle.sg_paths.specs.Operations.{PlainOp}
use Rattle.index_core.specs.declared.limits.TheConstants.{MOST_OPERATIONS}
use Rattle.sg_shell.specs.Transcripts.{Said}
use Rattle.sg_shell.specs.Sessions.{number_printed, refreshed_upto, numbered_operation, IsFull}
use Rattle.sg_shell.specs.Sessions.{StandsBefore}

-- ---- order

rising : (o p : Option ℕ) (c : ℕ) → IfSome o (λ m. m ≤ c) → IfSome p (λ n. c < n)
    → IfSome o (λ m. IfSome p (λ n. m < n))
rising None p c low high = tt
rising (Some m) None c low high = tt
rising (Some m) (Some n) c low high = omega arith

not_falling : (o p : Option ℕ) (c : ℕ) → IfSome o (λ m. m ≤ c) → IfSome p (λ n. c ≤ n)
    → IfSome o (λ m. IfSome p (λ n. m ≤ n))
not_falling None p c low high = tt
not_falling (Some m) None c low high = tt
not_falling (Some m) (Some n) c low high = omega arith

-- the reply to a line that comes after so many operations
pub record IsAfter (count : ℕ) (e : Said) : Type 0 where
  pub number : IfSome (number_printed e.reply) (λ n. count < n)
  pub upto : IfSome (refreshed_upto e) (λ u. count ≤ u)
  pub none_when_full : MOST_OPERATIONS ≤ count → number_printed e.reply ≡ None

-- the reply to a line after which there are so many operations
pub record IsWithin (count : ℕ) (e : Said) : Type 0 where
  pub number : IfSome (number_printed e.reply) (λ n. n ≤ count)
  pub upto : IfSome (refreshed_upto e) (λ u. u ≤ count)
  pub full : IsFull e → MOST_OPERATIONS ≤ count

precedes : (count : ℕ) (e f : Said) → IsWithin count e → IsAfter count f → StandsBefore e f
precedes count e f low high = record {
  numbers = rising (number_printed e.reply) (number_printed f.reply) count low.number high.number;
  sees = not_falling (number_printed e.reply) (refreshed_upto f) count low.number high.upto;
  never_back = not_falling (refreshed_upto e) (refreshed_upto f) count low.upto high.upto;
  foresees_none = rising (refreshed_upto e) (number_printed f.reply) count low.upto high.number;
  full_last = λ is. high.none_when_full (low.full is);
}

above : (o : Option ℕ) (c d : ℕ) → c ≤ d → IfSome o (λ n. d < n) → IfSome o (λ n. c < n)
above None c d le h = tt
above (Some n) c d le h = omega arith

at_least : (o : Option ℕ) (c d : ℕ) → c ≤ d → IfSome o (λ n. d ≤ n) → IfSome o (λ n. c ≤ n)
at_least None c d le h = tt
at_least (Some n) c d le h = omega arith

pub at_most : (o : Option ℕ) (c d : ℕ) → c ≤ d → IfSome o (λ n. n ≤ c) → IfSome o (λ n. n ≤ d)
at_most None c d le h = tt
at_most (Some n) c d le h = omega arith

after_fewer : (c d : ℕ) (e : Said) → c ≤ d → IsAfter d e → IsAfter c e
after_fewer c d e le h = record {
  number = above (number_printed e.reply) c d le h.number;
  upto = at_least (refreshed_upto e) c d le h.upto;
  none_when_full = λ full. h.none_when_full (omega arith);
}

-- ---- journals

enumerate_from-append : {X : Type 0} (n : ℕ) (xs ys : List X)
    → enumerate_from n (xs ++ ys) ≡ enumerate_from n xs ++ enumerate_from (n + length xs) ys
enumerate_from-append n [] ys = rw add-zero refl
enumerate_from-append n (x ∷ xs) ys =
    let e : n + length (x ∷ xs) ≡ n + 1 + length xs = omega arith in
    rw e (ap (λ ps. (n, x) ∷ ps) (enumerate_from-append (n + 1) xs ys))

-- ---- transcripts

-- the transcript of lines that come after a journal, and accept more operations
pub record Follows (journal : List PlainOp) (t : List Said) (more : List PlainOp) : Type 0 where
  pub after : All (IsAfter (length journal)) t
  pub ordered : AllPairs StandsBefore t
  pub numbers : filter_map numbered_operation t ≡ enumerate_from (length journal + 1) more
  pub most : length journal + length more ≤ MOST_OPERATIONS
  pub full : All (λ e. IsFull e → length journal + length more ≡ MOST_OPERATIONS) t
  pub at_most : All (λ e. IfSome (refreshed_upto e) (λ u. u ≤ length journal + length more)) t

-- the reply to one line that comes after a journal, and accepts these operations
pub record IsNext (journal : List PlainOp) (e : Said) (now : List PlainOp) : Type 0 where
  pub after : IsAfter (length journal) e
  pub within : IsWithin (length journal + length now) e
  pub numbers : filter_map numbered_operation (e ∷ []) ≡ enumerate_from (length journal + 1) now

pub follows-nil : (journal : List PlainOp) → length journal ≤ MOST_OPERATIONS
    → Follows journal [] []
follows-nil journal most = record {
  after = λ k d h. absurd (omega arith);
  ordered = λ i j d h k. absurd (omega arith);
  numbers = refl;
  most = omega arith;
  full = λ k d h. absurd (omega arith);
  at_most = λ k d h. absurd (omega arith);
}

pub follows-cons : (journal now more : List PlainOp) (e : Said) (t : List Said)
    → IsNext journal e now → Follows (journal ++ now) t more → Follows journal (e ∷ t) (now ++ more)
follows-cons journal now more e t next later =
    let count : length (journal ++ now) ≡ length journal + length now = length-append journal now in
    let total : length (now ++ more) ≡ length now + length more = length-append now more in
    let within : IsWithin (length (journal ++ now)) e = rw count next.within in
    record {
      after = All-cons (IsAfter (length journal)) e t next.after
          (λ k d h. after_fewer (length journal) (length (journal ++ now)) _ (omega (arith, count))
          (later.after k d h));
      ordered = AllPairs-cons StandsBefore e t
          (λ k d h. precedes (length (journal ++ now)) e _ within (later.after k d h))
          later.ordered;
      numbers =
          filter_map-append numbered_operation (e ∷ []) t
          ∙ (ap (λ ps. ps ++ filter_map numbered_operation t) next.numbers
          ∙ (ap (λ ps. enumerate_from (length journal + 1) now ++ ps) (later.numbers
          ∙ ap (λ n. enumerate_from n more) (omega (arith, count)))
          ∙ sym (enumerate_from-append (length journal + 1) now more)));
      most = let m = later.most in omega (arith, m, count, total);
      full = All-cons (λ e. IsFull e → length journal + length (now ++ more) ≡ MOST_OPERATIONS) e t
          (λ is. let reached = next.within.full is in let m =
          later.most in omega (arith, reached, m, count, total))
          (λ k d h is. let reached = later.full k d h is in omega (arith, reached, count, total));
      at_most = All-cons (λ e. IfSome (refreshed_upto e) (λ u. u ≤ length journal + length
          (now ++ more))) e t
          (at_most (refreshed_upto e) (length journal + length now) _ (omega
          (arith, total)) next.within.upto)
          (λ k d h. at_most _ (length (journal ++ now) + length more) _ (omega
          (arith, count, total)) (later.at_most k d h));
    }

-- ---- lines

-- a new number
pub next-numbered : (journal : List PlainOp) (e : Said) (operation : PlainOp)
    → length journal < MOST_OPERATIONS → number_printed e.reply ≡ Some (length journal + 1)
    → refreshed_upto e ≡ None → numbered_operation e ≡ Some (length journal + 1, operation)
    → (IsFull e → ⊥) → IsNext journal e (operation ∷ [])
next-numbered journal e operation room number no_view is not_full = record {
  after = record {
    number = rw number (omega arith);
    upto = rw no_view tt;
    none_when_full = λ full. absurd (omega arith);
  };
  within = record {
    number = rw number (omega arith);
    upto = rw no_view tt;
    full = λ full. absurd (not_full full);
  };
  numbers = rw is refl;
}

-- neither a number nor a view
pub next-none : (journal : List PlainOp) (e : Said) → number_printed e.reply ≡ None
    → refreshed_upto e ≡ None → numbered_operation e ≡ None
    → (IsFull e → MOST_OPERATIONS ≤ length journal) → IsNext journal e []
next-none journal e no_number no_view is full = record {
  after = record {
    number = rw no_number tt;
    upto = rw no_view tt;
    none_when_full = λ _. no_number;
  };
  within = record {
    number = rw no_number tt;
    upto = rw no_view tt;
    full = λ so. (let reached = full so in omega (arith, reached));
  };
  numbers = rw is refl;
}

-- a view of all operations so far
pub next-begun : (journal : List PlainOp) (e : Said) → number_printed e.reply ≡ None
    → refreshed_upto e ≡ Some (length journal) → numbered_operation e ≡ None
    → (IsFull e → ⊥) → IsNext journal e []
next-begun journal e no_number view is not_full = record {
  after = record {
    number = rw no_number tt;
    upto = rw view (omega arith);
    none_when_full = λ _. no_number;
  };
  within = record {
    number = rw no_number tt;
    upto = rw view (omega arith);
    full = λ so. absurd (not_full so);
  };
  numbers = rw is refl;
}
