-- How a run ends, from how its reading and its answering end.
use Rattle.std.proofs.Common.{◌≡◌, ◌≢◌, ◌≤◌, ◌<◌, ℕ, List, ◌++◌}
use Rattle.std.proofs.Common.{length, Option, Some, None, inl, inr, refl, ap, arith}
use Rattle.std.proofs.Common.{length-append}
use Rattle.std.specs.Option.{IsSomeAnd}
use Rattle.std.proofs.lemmas.Option.{same_Some}
use Rattle.sg_edge.specs.Edge.{in_front, NothingLeft}
use Rattle.sg_edge.proofs.EdgeLemmas.{stayed-rose}
use Rattle.sg_shell.specs.Inputs.{ReadsToTheEnd}
use Rattle.sg_shell.specs.Ends.{SourceMembers, SinkMembers, AnswerEnds, AnswersInput, RunEnds}
use Rattle.sg_shell.specs.Ends.{IsFaultless, EndsByLength}
use Rattle.sg_shell.specs.declared.reading.TheConstants.{MOST_INPUT_BYTES}
use Rattle.sg_shell.specs.declared.status.Status.{Status}
use Rattle.sg_shell.specs.declared.status.Status.TheVariants.{Done, Usage, ReadFault, WriteFault}
use Rattle.sg_shell.specs.declared.status.Status.TheVariants.{TooLong, Memory}

-- bytes that were all taken are the bytes that were left
taken_whole : (left rest : Option (List ℕ)) (taken : List ℕ) → left ≡ in_front taken rest
    → NothingLeft rest → IsSomeAnd left (λ input. MOST_INPUT_BYTES < length input)
    → MOST_INPUT_BYTES < length taken
taken_whole None rest taken is none over = absurd over
taken_whole (Some input) None taken is none over = cc
taken_whole (Some input) (Some rest) taken is none over =
    let whole : input ≡ taken ++ rest = same_Some input (taken ++ rest) is in
    omega (arith, ap length whole, length-append taken rest, ap length none, over)

-- bytes that were taken are not more than those that were left
taken_front : (left rest : Option (List ℕ)) (taken : List ℕ) → left ≡ in_front taken rest
    → IsSomeAnd left (λ input. length input ≤ MOST_INPUT_BYTES) → length taken ≤ MOST_INPUT_BYTES
taken_front None rest taken is within = absurd within
taken_front (Some input) None taken is within = cc
taken_front (Some input) (Some rest) taken is within =
    let whole : input ≡ taken ++ rest = same_Some input (taken ++ rest) is in
    omega (arith, ap length whole, length-append taken rest, within)

module _ {S K : Type 0} (s : SourceMembers S) (k : SinkMembers K) where
  -- an input that was read to its end is answered
  answers : (status : Status) (source source' : S) (sink sink' : K) (input : List ℕ)
      → ReadsToTheEnd s.left s.faults s.ended source source' input
      → AnswerEnds k input status sink sink'
      → AnswersInput s k status source source' sink sink'
  answers status source source' sink sink' input read ends = record {
    input = input;
    read = read;
    answered = ends;
  }

  -- a run that reads to the end ends as its answering does
  pub run_ends-read : (status : Status) (source source' : S) (sink sink' : K) (input : List ℕ)
      → ReadsToTheEnd s.left s.faults s.ended source source' input
      → AnswerEnds k input status sink sink'
      → RunEnds s k status source source' sink sink'
  run_ends-read Done source source' sink sink' input read ends =
      answers Done source source' sink sink' input read ends
  run_ends-read Usage source source' sink sink' input read ends = absurd ends
  run_ends-read ReadFault source source' sink sink' input read ends = absurd ends
  run_ends-read WriteFault source source' sink sink' input read ends =
      answers WriteFault source source' sink sink' input read ends
  run_ends-read TooLong source source' sink sink' input read ends = absurd ends
  run_ends-read Memory source source' sink sink' input read ends =
      inr (answers Memory source source' sink sink' input read ends)

  -- a faultless run ends by the length of its input
  pub ends_by_length : (status : Status) (source source' : S) (sink sink' : K)
      → status ≢ Usage → RunEnds s k status source source' sink sink'
      → IsFaultless s k source source' sink sink' → EndsByLength status (s.left source)
  ends_by_length Done source source' sink sink' runs ends clean =
      record {
        within = λ _. inl refl;
        over = λ over.
            let read = ends.read in
            let long = taken_whole (s.left source)
            (s.left source') ends.input read.moved read.nothing_left over in
            let short = read.bound in
            absurd (omega arith);
      }
  ends_by_length Usage source source' sink sink' runs ends clean = absurd (runs refl)
  ends_by_length ReadFault source source' sink sink' runs ends clean =
      absurd (stayed-rose _ _ clean.reading ends.0.rose)
  ends_by_length WriteFault source source' sink sink' runs ends clean =
      absurd (stayed-rose _ _ clean.writing ends.answered.written.rose)
  ends_by_length TooLong source source' sink sink' runs ends clean =
      record {
        within = λ within.
            let stop = ends.0 in
            let short = taken_front (s.left source) (s.left source') stop.taken stop.moved within in
            let long = stop.over in
            absurd (omega arith);
        over = λ _. inl refl;
      }
  ends_by_length Memory source source' sink sink' runs ends clean =
      record { within = λ _. inr refl; over = λ _. inr refl }
