-- Words of combined parts, made of the words of their parts.
use Rattle.std.proofs.Common.{◌≡◌, inl, inr, ℕ, suc, List, [], ◌∷◌, ◌++◌, refl, Option, Some, None}
use Rattle.nf_grammar.specs.Parts.{IsToken, IsCounted, IsRepeated, and_then, done, repeated, after, between, optional, separated}
use Rattle.nf_grammar.specs.Parts as part
use Rattle.nf_grammar.specs.State.{state}
use denote.Enum.Bare.{true_same}
use Rattle.nf_core.specs.declared.operators.BinOp.{BinOp}
use Rattle.nf_parse.specs.contracts.symbol.Sym.{the_type}
use Rattle.nf_parse.specs.declared.level.Level.{Level}
use Rattle.nf_parse.specs.declared.symbol.Sym.{Sym}
use Rattle.nf_parse.specs.State.{Word, State, of_kind}
use Rattle.nf_parse.specs.Grammar.{Production, op_at}

-- a word of a kind
abbrev pub Token : Sym → State → List ℕ → State → Type 0
Token k = IsToken (of_kind k)

-- an operator of a level
abbrev pub Operator : Level → State → BinOp → State → Type 0
Operator l = IsCounted (λ (word : Word). op_at l word.0)

-- a counted word
pub record Counted (s t : State) : Type 0 where
  pub token : Word
  pub words : s.words ≡ token ∷ t.words
  pub room : s.room ≡ suc t.room

-- a word of a kind that stands first
pub token_word : (k : Sym) (n m : ℕ) (bytes : List ℕ) (rest : List Word) → m ≡ n
    → Token k (state n ((k, bytes) ∷ rest)) bytes (state m rest)
token_word k n m bytes rest h = record { token = (k, bytes); first = refl; gives = let e = true_same the_type k k refl in rw e refl; room = h }

-- a part, and then nothing, which gives something of what the part gives
pub done_word : {A B : Type 0} (p : Production A) (f : A → B) (s t : State) (x : A) → p.word s x t
    → (and_then p (λ a. done (f a))).word s (f x) t
done_word p f s t x w = record { given = x; middle = t; first = w; rest = record { gives = refl; stays = refl } }

-- a part between two words
pub between_word : {A B C : Type 0} (opening : Word → Option B) (p : Production A) (closing : Word → Option C) (s m n t : State) (b : B) (x : A) (c : C)
    → IsToken opening s b m → p.word m x n → IsToken closing n c t
    → (between opening p closing).word s x t
between_word opening p closing s m n t b x c a w z = record {
  given = b;
  middle = m;
  first = a;
  rest = record { given = x; middle = n; first = w; rest = record { given = c; middle = t; first = z; rest = record { gives = refl; stays = refl } } };
}

-- [ part ]
pub present : {A : Type 0} (p : Production A) (s t : State) (x : A) → p.word s x t
    → (optional p).word s (Some x) t
present p s t x w = inl (done_word p (λ y. Some y) s t x w)

pub absent : {A : Type 0} (p : Production A) (s : State) → (optional p).word s None s
absent p s = inr (record { gives = refl; stays = refl })

-- part { separator part }
pub separated_word : {A B : Type 0} (separator : Word → Option B) (p : Production A) (s m t : State) (x : A) (xs : List A)
    → p.word s x m → IsRepeated (after separator p) m xs t
    → (separated separator p).word s (x ∷ xs) t
separated_word separator p s m t x xs w later = record { given = x; middle = m; first = w; rest = done_word (repeated (after separator p)) (λ xs. x ∷ xs) m t xs later }

-- a repetition goes on
pub repeated_push : {A : Type 0} (p : Production A) (s t u : State) (xs : List A) (x : A)
    → IsRepeated p s xs t → p.word t x u → IsRepeated p s (xs ++ x ∷ []) u
repeated_push p s t u _ x part.none w = part.more w part.none
repeated_push p s t u _ x (part.more {t = m} {x = y} {xs} v later) w = part.more v (repeated_push p m t u xs x later w)
