-- Where words that are no text stop being one.
use Rattle.std.specs.Prelude.{ℕ, ◌-◌, ◌<◌, ◌≤◌, List, [], drop, length, Result, Ok, Err}
use Rattle.nf_grammar.specs.State.{state}
use Rattle.nf_grammar.specs.Parts.{Part}
use Rattle.nf_grammar.specs.declared.fault.Fault.{Fault}
use Rattle.nf_grammar.specs.declared.fault.Fault.TheVariants as fault

-- the limits of a grammar: how deep what is nested may be, and how many counted tokens an expression may have
pub record Limits : Type 0 where
  pub depth : ℕ
  pub room : ℕ

-- a grammar has a part for each depth, the whole texts in which nothing is nested deeper
module _ {W A : Type 0} (texts : ℕ → Part W A) where
  -- some words are a text within the limits, which gives this
  pub record IsText (limits : Limits) (words : List W) (x : A) : Type 0 where
    pub left : ℕ
    pub word : (texts limits.depth).word (state limits.room words) x (state left [])

  -- the first so many of some words are a front of a text within the limits
  pub record IsFront (limits : Limits) (words : List W) (count : ℕ) : Type 0 where
    pub within : count ≤ length words
    pub left : ℕ
    pub front : (texts limits.depth).front (state limits.room words) (state left (drop count words))

  -- so many of some words, and no more, are a front of a text within the limits
  pub record GoesTo (limits : Limits) (words : List W) (count : ℕ) : Type 0 where
    pub front : IsFront limits words count
    pub no_more : (more : ℕ) → count < more → IsFront limits words more → ⊥

  -- under other limits more words are a front of a text
  pub record GoesFurther (words : List W) (count : ℕ) : Type 0 where
    pub other : Limits
    pub more : ℕ
    pub further : count < more
    pub front : IsFront other words more

  -- the answer to some words within limits. They are a text, or they go so far. Where they go further under other limits, the next word is TooDeep; else it is Grammar. Where all of them are a front, and under no limits a text, the end is Grammar. A place is told by how many words are left
  pub data Answers (limits : Limits) (words : List W) : Result A Fault → Type 0 where
    text : {x : A} → IsText limits words x → Answers limits words (Ok x)
    too_deep : {count : ℕ} → GoesTo limits words count → GoesFurther words count
        → Answers limits words (Err (fault.TooDeep (length words - count)))
    grammar : {count : ℕ} → GoesTo limits words count → count < length words
        → (GoesFurther words count → ⊥)
        → Answers limits words (Err (fault.Grammar (length words - count)))
    ends : GoesTo limits words (length words)
        → ((other : Limits) (x : A) → IsText other words x → ⊥)
        → Answers limits words (Err (fault.Grammar 0))
