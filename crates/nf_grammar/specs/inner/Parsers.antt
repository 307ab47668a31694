-- Parsers: readers as functions on states. Contracts of private functions say that they are these; the laws of proofs/Public say that these read what the parts have.
use Rattle.std.specs.Prelude.{◌≡◌, ℕ, zero, suc, Bool, List, [], ◌∷◌, length, if◌then◌else◌, Option, Some, None, Result, Ok, Err}
use Rattle.nf_grammar.specs.State.{State, state, next}
use Rattle.nf_grammar.specs.declared.fault.Fault.{Fault}
use Rattle.nf_grammar.specs.declared.fault.Fault.TheVariants as fault
use Rattle.nf_grammar.specs.declared.fault.Halt.{Halt}
use Rattle.nf_grammar.specs.declared.fault.Halt.TheVariants as halt

-- what is read with the state behind it, or a fault
abbrev pub Outcome : Type 0 → Type 0 → Type 0
Outcome W A = Result (A × State W) Fault

abbrev pub Parser : Type 0 → Type 0 → Type 0
Parser W A = State W → Outcome W A

-- how many words are left at a fault
abbrev pub place_of : Fault → ℕ
place_of (fault.Grammar n) = n
place_of (fault.TooDeep n) = n

-- how many words are left where a reading ends, by itself or at a fault
abbrev pub place : {W A : Type 0} → Outcome W A → ℕ
place (Ok read) = length read.1.words
place (Err f) = place_of f

-- the next word doesn't fit
abbrev pub refuse : {W A : Type 0} → Parser W A
refuse s = Err (fault.Grammar (length s.words))

-- the next word passes a limit
abbrev pub too_deep : {W A : Type 0} → Parser W A
too_deep s = Err (fault.TooDeep (length s.words))

-- one parser after another, which may look at what the first one read
abbrev pub bind : {W A B : Type 0} → Outcome W A → (A → Parser W B) → Outcome W B
bind (Ok read) k = k read.0 read.1
bind (Err f) k = Err f

abbrev pub and_then : {W A B : Type 0} → Parser W A → (A → Parser W B) → Parser W B
and_then p k s = bind (p s) k

-- nothing is read
abbrev pub done : {W A : Type 0} → A → Parser W A
done x s = Ok (x, s)

-- what a table has for the next word
abbrev pub in_table : {W A : Type 0} → (W → Option A) → Option W → Option A
in_table table None = None
in_table table (Some word) = table word

-- the state behind the next word
abbrev pub tail_of : {W : Type 0} → List W → List W
tail_of [] = []
tail_of (word ∷ words) = words

abbrev pub behind : {W : Type 0} → State W → State W
behind s = state s.room (tail_of s.words)

-- one word, of which a table says what it gives
abbrev pub given : {W A : Type 0} → Option A → Parser W A
given None s = refuse s
given (Some x) s = Ok (x, behind s)

unfoldable pub token : {W A : Type 0} → (W → Option A) → Parser W A
token table s = given (in_table table (next s)) s

-- one counted word, of which a table says what it gives
abbrev pub use_up : {W A : Type 0} → A → ℕ → List W → Outcome W A
use_up x zero words = too_deep (state zero words)
use_up x (suc n) words = Ok (x, state n (tail_of words))

abbrev pub counting : {W A : Type 0} → Option A → Parser W A
counting None s = refuse s
counting (Some x) s = use_up x s.room s.words

unfoldable pub counted : {W A : Type 0} → (W → Option A) → Parser W A
counted table s = counting (in_table table (next s)) s

-- where what is nested may go no deeper: a word that would begin it is too deep, and every other one doesn't fit
unfoldable pub nowhere : {W A : Type 0} → (Option W → Bool) → Parser W A
nowhere test s = if test (next s) then too_deep s else refuse s

-- one parser where the next word passes a test, else the other one
unfoldable pub choose : {W A : Type 0} → (Option W → Bool) → Parser W A → Parser W A → Parser W A
choose test p q s = if test (next s) then p s else q s

-- an item in front of those that were read
abbrev pub in_list : {W A : Type 0} → A → Outcome W (List A) → Outcome W (List A)
in_list x (Ok read) = Ok (x ∷ read.0, read.1)
in_list x (Err f) = Err f

-- a part as long as the next word passes a test, in at most so many turns
unfoldable pub repeated_from : {W A : Type 0} → (Option W → Bool) → Parser W A → ℕ
    → Parser W (List A)
repeated_from test p zero s = Ok ([], s)
repeated_from test p (suc turns) s =
    if test (next s) then bind (p s) (λ x t. in_list x (repeated_from test p turns t))
    else Ok ([], s)

-- each turn takes a word
unfoldable pub repeated : {W A : Type 0} → (Option W → Bool) → Parser W A → Parser W (List A)
repeated test p s = repeated_from test p (length s.words) s

-- a part by itself: what stands behind it may have as many counted words
abbrev pub restored : {W A : Type 0} → ℕ → Outcome W A → Outcome W A
restored n (Ok read) = Ok (read.0, state n read.1.words)
restored n (Err f) = Err f

unfoldable pub alone : {W A : Type 0} → Parser W A → Parser W A
alone p s = restored s.room (p s)

-- a call that reads as a parser says: it leaves the parser's state, or stops at its fault; want of memory is free
abbrev pub Reads : {W A : Type 0} → Outcome W A → Result A Halt → State W → Type 0
Reads outcome (Ok x) new = outcome ≡ Ok (x, new)
Reads outcome (Err halt.NoMemory) new = Unit {0}
Reads outcome (Err (halt.At f)) new = outcome ≡ Err f

-- a call that stops as a parser does; want of memory is free
abbrev pub Stops : {W A : Type 0} → Outcome W A → Halt → Type 0
Stops outcome halt.NoMemory = Unit {0}
Stops outcome (halt.At f) = outcome ≡ Err f
