-- What is read of fields that were read or refused, one after another.
use Rattle.std.proofs.Common.{◌≡◌, ℕ, Bool, true, false, List, sym, ap, ◌∙◌, subst}
use Rattle.std.specs.Prelude.{Result, Ok, Err, if◌then◌else◌}
use Rattle.std.specs.Result.{IsErrAnd}
use Rattle.std.specs.Int.{Width, byte_len, from_be_bytes}
use Rattle.seg_bytes.specs.declared.error.ReadError.{ReadError}
use Rattle.seg_bytes.specs.declared.error.ReadError.TheVariants.{Bad, Memory}
use Rattle.seg_bytes.specs.declared.field.Field.{Field}
use Rattle.seg_bytes.specs.Answers.{Refuses, Reads, Takes}
use Rattle.seg_bytes.specs.Fields.{Reading, Reader, reads, broken, then_read, part_at, number_at}
use Rattle.seg_bytes.specs.Fields.{text_at, tested}

-- the next goes on where the first ends
pub then_is : {A B : Type 0} (given : Reading A) (x : A) (end : ℕ) (next : A → ℕ → Reading B)
    → given ≡ reads x end → then_read given next ≡ next x end
then_is given x end next h = ap (λ r. then_read r next) h

-- where the first is refused, both are
pub then_refused : {A B : Type 0} (given : Reading A) (next : A → ℕ → Reading B) (e : ReadError)
    → Refuses given e → Refuses (then_read given next) e
then_refused given next (Bad at) h = ap (λ r. then_read r next) h
then_refused given next Memory h = tt

-- where the first is read and the next refused, both are refused
pub next_refused : {A B : Type 0} (given : Reading A) (x : A) (end : ℕ) (next : A → ℕ → Reading B)
    (e : ReadError) → given ≡ reads x end → Refuses (next x end) e
    → Refuses (then_read given next) e
next_refused given x end next e h r =
    subst (λ g. Refuses g e) (sym (then_is given x end next h)) r

-- a refusal that is handed on
pub refusal : {A X : Type 0} (view : X → A) (given : Reading A) (r : Result (Field X) ReadError)
    (e : ReadError) → IsErrAnd r (λ y. y ≡ e) → Refuses given e → Reads view given r
refusal view given (Ok x) e h k = absurd h
refusal view given (Err y) e h k = subst (Refuses given) (sym h) k

-- a number from its part
pub number_is : (w : Width) (bytes : List ℕ) (at : ℕ) (field : List ℕ) (end : ℕ) (n : ℕ)
    → part_at at (byte_len w) bytes at ≡ reads field end → n ≡ from_be_bytes w field
    → number_at w bytes at ≡ reads n end
unfolding number_at
number_is w bytes at field end n h is =
    then_is (part_at at (byte_len w) bytes at) field end _ h ∙ ap (λ m. reads m end) (sym is)

pub number_refused : (w : Width) (bytes : List ℕ) (at : ℕ) (e : ReadError)
    → Refuses (part_at at (byte_len w) bytes at) e → Refuses (number_at w bytes at) e
unfolding number_at
number_refused w bytes at e h = then_refused (part_at at (byte_len w) bytes at) _ e h

-- bytes behind their length, from both
pub text_reads : {X : Type 0} (view : X → List ℕ) (w : Width) (bytes : List ℕ) (at n from : ℕ)
    (r : Result (Field X) ReadError) → number_at w bytes at ≡ reads n from
    → Reads view (part_at at n bytes from) r → Reads view (text_at w bytes at) r
unfolding text_at
text_reads view w bytes at n from r h k =
    subst (λ g. Reads view g r) (sym (then_is (number_at w bytes at) n from _ h)) k

pub text_refused : (w : Width) (bytes : List ℕ) (at : ℕ) (e : ReadError)
    → Refuses (number_at w bytes at) e → Refuses (text_at w bytes at) e
unfolding text_at
text_refused w bytes at e h = then_refused (number_at w bytes at) _ e h

-- a field that passes its test
pub tested_is : {A : Type 0} (test : A → Bool) (read : Reader A) (bytes : List ℕ) (at : ℕ) (x : A)
    (end : ℕ) → read bytes at ≡ reads x end → test x ≡ true
    → tested test read bytes at ≡ reads x end
unfolding tested
tested_is test read bytes at x end h passes =
    then_is (read bytes at) x end _ h
    ∙ ap (λ b. if b then reads x end else broken at) passes

-- and one that doesn't
pub tested_broken : {A : Type 0} (test : A → Bool) (read : Reader A) (bytes : List ℕ) (at : ℕ)
    (x : A) (end : ℕ) → read bytes at ≡ reads x end → test x ≡ false
    → tested test read bytes at ≡ broken at
unfolding tested
tested_broken test read bytes at x end h fails =
    then_is (read bytes at) x end _ h
    ∙ ap (λ b. if b then reads x end else broken at) fails

pub tested_refused : {A : Type 0} (test : A → Bool) (read : Reader A) (bytes : List ℕ) (at : ℕ)
    (e : ReadError) → Refuses (read bytes at) e → Refuses (tested test read bytes at) e
unfolding tested
tested_refused test read bytes at e h = then_refused (read bytes at) _ e h

-- what is taken of a field
pub taken_is : {A : Type 0} (test : A → Bool) (read : Reader A) (bytes : List ℕ) (at : ℕ)
    (x y : A) (end : ℕ) → read bytes at ≡ reads x end → (test x ≡ true) × (y ≡ x)
    → tested test read bytes at ≡ reads y end
taken_is test read bytes at x y end h t =
    tested_is test read bytes at x end h t.0 ∙ ap (λ z. reads z end) (sym t.1)

pub taken_refused : {A : Type 0} (test : A → Bool) (read : Reader A) (bytes : List ℕ) (at : ℕ)
    (x : A) (end : ℕ) (e : ReadError) → read bytes at ≡ reads x end → Takes test x at (Err e)
    → Refuses (tested test read bytes at) e
taken_refused test read bytes at x end (Bad k) h t =
    tested_broken test read bytes at x end h t.0 ∙ ap broken (sym t.1)
taken_refused test read bytes at x end Memory h t = tt

-- for parts, numbers and bytes behind their length
pub ruleset field_steps = (refusal, number_is, number_refused, text_reads, text_refused)

-- for fields with a test
pub ruleset test_steps =
    (refusal, tested_is, tested_broken, tested_refused, taken_is, taken_refused)
