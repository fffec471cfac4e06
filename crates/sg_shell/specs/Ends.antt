-- How a run ends. Source: this project's own.
use Rattle.std.specs.Prelude.{◌≡◌, ◌≤◌, ◌<◌, ◌⊎◌, ℕ, Bool, false, List, [], ◌∷◌, take, length}
use Rattle.std.specs.Prelude.{Option, codes, bytes_eq, IsSomeAnd}
use Rattle.sg_edge.specs.Edge.{behind, Rose, Stayed}
use Rattle.sg_shell.specs.Outputs.{StopsInside}
use Rattle.sg_shell.specs.Inputs.{ReadsToTheEnd, StopsAtFault, StopsTooLong, StopsWithoutMemory}
use Rattle.sg_shell.specs.Sessions.{Session}
use Rattle.sg_shell.specs.declared.reading.TheConstants.{MOST_INPUT_BYTES}
use Rattle.sg_shell.specs.declared.status.Status.{Status}
use Rattle.sg_shell.specs.declared.status.Status.TheVariants.{Done, Usage, ReadFault, WriteFault}
use Rattle.sg_shell.specs.declared.status.Status.TheVariants.{TooLong, Memory}

-- the arguments that have a reading: the one word `run`
abbrev pub is_run : List (List ℕ) → Bool
is_run [] = false
is_run (word ∷ []) = bytes_eq word (codes "run")
is_run (word ∷ (next ∷ more)) = false

-- what a source tells: the bytes that are left, its faults, and whether it ended
pub record SourceMembers (S : Type 0) : Type 0 where
  pub left : S → Option (List ℕ)
  pub faults : S → ℕ
  pub ended : S → Bool

-- what a source tells, by its members
abbrev pub source_of : {S : Type 0} → (S → Option (List ℕ)) → (S → ℕ) → (S → Bool) → SourceMembers S
source_of left faults ended = record { left = left; faults = faults; ended = ended }

-- what a sink tells: the bytes that it was given, and its faults
pub record SinkMembers (K : Type 0) : Type 0 where
  pub given : K → Option (List ℕ)
  pub faults : K → ℕ

-- what a sink tells, by its members
abbrev pub sink_of : {K : Type 0} → (K → Option (List ℕ)) → (K → ℕ) → SinkMembers K
sink_of given faults = record { given = given; faults = faults }

-- all of an output was given
pub record WritesAll {K : Type 0} (k : SinkMembers K) (output : List ℕ) (old new : K) : Type 0 where
  pub given : k.given new ≡ behind output (k.given old)
  pub no_fault : k.faults new ≡ k.faults old

-- a put failed after a front of an output, which isn't all of it
pub record FailsWriting {K : Type 0} (k : SinkMembers K) (output : List ℕ)
    (old new : K) : Type 0 where
  pub front : StopsInside k.given output old new
  pub rose : Rose (k.faults old) (k.faults new)

-- memory ran out after a front of an output
pub record StopsWriting {K : Type 0} (k : SinkMembers K) (output : List ℕ)
    (old new : K) : Type 0 where
  pub written : ℕ
  pub given : k.given new ≡ behind (take written output) (k.given old)
  pub no_fault : k.faults new ≡ k.faults old

-- how the writing of an output ends
abbrev pub WriteEnds : {K : Type 0} → SinkMembers K → List ℕ → Status → K → K → Type 0
WriteEnds k output Done old new = WritesAll k output old new
WriteEnds k output WriteFault old new = FailsWriting k output old new
WriteEnds k output Memory old new = StopsWriting k output old new
WriteEnds k output Usage old new = ⊥
WriteEnds k output ReadFault old new = ⊥
WriteEnds k output TooLong old new = ⊥

-- the writing of an output, which is a session of the input, ended so
pub record WritesSession {K : Type 0} (k : SinkMembers K) (input : List ℕ) (status : Status)
    (old new : K) : Type 0 where
  pub output : List ℕ
  pub session : Session input output
  pub written : WriteEnds k output status old new

-- how the answering of an input ends: memory may run out before there is an output
abbrev pub AnswerEnds : {K : Type 0} → SinkMembers K → List ℕ → Status → K → K → Type 0
AnswerEnds k input Memory old new = (new ≡ old) ⊎ WritesSession k input Memory old new
AnswerEnds k input Done old new = WritesSession k input Done old new
AnswerEnds k input WriteFault old new = WritesSession k input WriteFault old new
AnswerEnds k input Usage old new = ⊥
AnswerEnds k input ReadFault old new = ⊥
AnswerEnds k input TooLong old new = ⊥

module _ {S K : Type 0} (s : SourceMembers S) (k : SinkMembers K) where
  -- the input was read to its end, and its answering ended so
  pub record AnswersInput (status : Status) (source source' : S) (sink sink' : K) : Type 0 where
    pub input : List ℕ
    pub read : ReadsToTheEnd s.left s.faults s.ended source source' input
    pub answered : AnswerEnds k input status sink sink'

  -- what each status says of the source and the sink, before and after
  abbrev pub RunEnds : Status → S → S → K → K → Type 0
  RunEnds Done source source' sink sink' = AnswersInput Done source source' sink sink'
  RunEnds Usage source source' sink sink' = (source' ≡ source) × (sink' ≡ sink)
  RunEnds ReadFault source source' sink sink' =
      StopsAtFault s.left s.faults source source' × (sink' ≡ sink)
  RunEnds WriteFault source source' sink sink' = AnswersInput WriteFault source source' sink sink'
  RunEnds TooLong source source' sink sink' =
      StopsTooLong s.left s.faults source source' × (sink' ≡ sink)
  RunEnds Memory source source' sink sink' =
      (StopsWithoutMemory s.left s.faults source source' × (sink' ≡ sink))
      ⊎ AnswersInput Memory source source' sink sink'

  -- no fault was counted
  pub record IsFaultless (source source' : S) (sink sink' : K) : Type 0 where
    pub reading : Stayed (s.faults source) (s.faults source')
    pub writing : Stayed (k.faults sink) (k.faults sink')

-- where nothing fails, an input within the limit ends the run as done, and a longer one as too
-- long; either may run out of memory
pub record EndsByLength (status : Status) (left : Option (List ℕ)) : Type 0 where
  pub within : IsSomeAnd left (λ input. length input ≤ MOST_INPUT_BYTES)
      → (status ≡ Done) ⊎ (status ≡ Memory)
  pub over : IsSomeAnd left (λ input. MOST_INPUT_BYTES < length input)
      → (status ≡ TooLong) ⊎ (status ≡ Memory)
