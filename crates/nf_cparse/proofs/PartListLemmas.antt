-- Lists of parts as a loop reads them, item by item.
use Rattle.std.proofs.Common.{◌≡◌, ℕ, zero, suc, ◌<◌, ◌≤◌, Bool, true, false, List, [], ◌∷◌, ◌++◌, length, refl, sym, ap, ◌∙◌, arith, append_assoc, Option, None, Ok, Err}
use Rattle.std.proofs.lemmas.List.{append-nil}
use Rattle.nf_cparse.specs.declared.symbol.Sym.{Sym}
use Rattle.nf_grammar.specs.State.{next, next_of}
use Rattle.nf_grammar.specs.declared.fault.Fault.{Fault}
use Rattle.nf_grammar.specs.inner.Parsers.{bind, and_then, done, in_list, repeated_from, repeated}
use Rattle.nf_cparse.specs.Lexing.{Word}
use Rattle.nf_cparse.specs.inner.Parsers.{State, Outcome, Parser, is_kind, after, separated, IsWithin}

-- items that were found before those of an outcome
abbrev pub found_before : {A : Type 0} → List A → Outcome (List A) → Outcome (List A)
found_before found (Ok read) = Ok (found ++ read.0, read.1)
found_before found (Err f) = Err f

-- a list of parts of which some were found: reading on from here gives the whole outcome
pub record IsListAt {A : Type 0} (test : Option Word → Bool) (p : Parser A) (whole : Outcome (List A)) (found : List A) (now : State) : Type 0 where
  pub turns : ℕ
  pub enough : length now.words ≤ turns
  pub goes_on : found_before found (repeated_from test p turns now) ≡ whole

pub none_before : {A : Type 0} (o : Outcome (List A)) → found_before [] o ≡ o
none_before (Ok read) = refl
none_before (Err f) = refl

pub one_before : {A : Type 0} (found : List A) (x : A) (o : Outcome (List A))
    → found_before (found ++ x ∷ []) o ≡ found_before found (in_list x o)
one_before found x (Ok read) = ap (λ xs. Ok (xs, read.1)) (append_assoc found (x ∷ []) read.0)
one_before found x (Err f) = refl

pub one_alone : {A : Type 0} (x : A) (o : Outcome (List A)) → found_before (x ∷ []) o ≡ in_list x o
one_alone x (Ok read) = refl
one_alone x (Err f) = refl

module _ {A : Type 0} (test : Option Word → Bool) (p : Parser A) where
  pub list_start : (s : State) → IsListAt test p (repeated test p s) [] s
  unfolding repeated
  list_start s = record { turns = length s.words; enough = omega arith; goes_on = none_before (repeated_from test p (length s.words) s) }

  pub no_words : (test_none : test None ≡ false) (s : State) → test (next s) ≡ true
      → 0 < length s.words
  no_words n s h = go s.words h
    where
      go : (ws : List Word) → test (next_of ws) ≡ true → 0 < length ws
      go [] h = let e = sym n ∙ h in cc
      go (w ∷ ws) h = omega arith

  pub turn_read : (turns : ℕ) (s t : State) (x : A) → test (next s) ≡ true → p s ≡ Ok (x, t)
      → repeated_from test p (suc turns) s ≡ in_list x (repeated_from test p turns t)
  unfolding repeated_from
  turn_read turns s t x h e = rw (h, e) refl

  pub turn_stop : (turns : ℕ) (s : State) (f : Fault) → test (next s) ≡ true → p s ≡ Err f
      → repeated_from test p (suc turns) s ≡ Err f
  unfolding repeated_from
  turn_stop turns s f h e = rw (h, e) refl

  pub turn_end : (turns : ℕ) (s : State) → test (next s) ≡ false
      → repeated_from test p turns s ≡ Ok ([], s)
  unfolding repeated_from
  turn_end zero s h = refl
  turn_end (suc turns) s h = rw h refl

  pub list_more : (whole : Outcome (List A)) (found : List A) (s t : State) (x : A)
      → IsListAt test p whole found s → test (next s) ≡ true → p s ≡ Ok (x, t)
      → length t.words < length s.words
      → IsListAt test p whole (found ++ x ∷ []) t
  list_more whole found s t x at h e l = go at.turns at.enough at.goes_on
    where
      go : (turns : ℕ) → length s.words ≤ turns
          → found_before found (repeated_from test p turns s) ≡ whole
          → IsListAt test p whole (found ++ x ∷ []) t
      go zero k g = absurd (omega arith)
      go (suc turns) k g = record {
        turns = turns;
        enough = omega arith;
        goes_on = one_before found x (repeated_from test p turns t) ∙ ap (found_before found) (sym (turn_read turns s t x h e)) ∙ g;
      }

  pub list_stops : (whole : Outcome (List A)) (found : List A) (s : State) (f : Fault)
      → IsListAt test p whole found s → test None ≡ false → test (next s) ≡ true → p s ≡ Err f
      → whole ≡ Err f
  list_stops whole found s f at n h e = go at.turns at.enough at.goes_on
    where
      go : (turns : ℕ) → length s.words ≤ turns
          → found_before found (repeated_from test p turns s) ≡ whole → whole ≡ Err f
      go zero k g = absurd (omega (arith, no_words n s h))
      go (suc turns) k g = sym g ∙ ap (found_before found) (turn_stop turns s f h e)

  pub list_ends : (whole : Outcome (List A)) (found : List A) (s : State)
      → IsListAt test p whole found s → test (next s) ≡ false → whole ≡ Ok (found, s)
  list_ends whole found s at h = sym at.goes_on ∙ ap (found_before found) (turn_end at.turns s h) ∙ ap (λ xs. Ok (xs, s)) (append-nil found)

-- an item in front of those that are read behind it
listed : {A : Type 0} (x : A) (o : Outcome (List A)) → bind o (λ xs. done (x ∷ xs)) ≡ in_list x o
listed x (Ok read) = refl
listed x (Err f) = refl

module _ {A : Type 0} (separator : Sym) (p : Parser A) where
  pub separated_start : (s t : State) (x : A) → p s ≡ Ok (x, t)
      → IsListAt (is_kind separator) (after separator p) (separated separator p s) (x ∷ []) t
  unfolding repeated
  separated_start s t x e = record {
    turns = length t.words;
    enough = omega arith;
    goes_on = one_alone x (repeated_from (is_kind separator) (after separator p) (length t.words) t) ∙ sym (listed x (repeated_from (is_kind separator) (after separator p) (length t.words) t)) ∙ sym (ap (λ o. bind o (λ x. and_then (repeated (is_kind separator) (after separator p)) (λ xs. done (x ∷ xs)))) e);
  }

  pub separated_stops : (s : State) (f : Fault) → p s ≡ Err f → separated separator p s ≡ Err f
  separated_stops s f e = ap (λ o. bind o (λ x. and_then (repeated (is_kind separator) (after separator p)) (λ xs. done (x ∷ xs)))) e

pub within_more : (s t u : State) → IsWithin s t → IsWithin t u → IsWithin s u
within_more s t u a b = record { words = omega arith; room = omega arith }
