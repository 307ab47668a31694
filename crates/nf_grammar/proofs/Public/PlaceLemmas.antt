-- A reader of whole texts, within limits and within all larger ones, answers exactly where words stop being a text.
use Rattle.std.proofs.Common.{◌≡◌, ◌≤◌, ◌<◌, ◌-◌, ◌+◌, ◌⊎◌, inl, inr, ℕ, zero, suc, List, [], length, drop, refl, sym, ap, ◌∙◌, subst, arith, None, Result, Ok, Err}
use Rattle.std.proofs.lemmas.List.{length-drop, drop_all}
use Rattle.nf_grammar.specs.State.{State, state}
use Rattle.nf_grammar.specs.Parts.{Part}
use Rattle.nf_grammar.specs.Places.{Limits, IsText, IsFront, GoesTo, GoesFurther, Answers, text, too_deep, grammar, ends}
use Rattle.nf_grammar.specs.declared.fault.Fault.{Fault}
use Rattle.nf_grammar.specs.declared.fault.Fault.TheVariants as fault
use Rattle.nf_grammar.specs.inner.Parsers.{Outcome, Parser, place_of, place}
use Rattle.nf_grammar.proofs.Public.OutcomeLemmas.{ok_is, no_ok, err_is}
use Rattle.nf_grammar.proofs.Public.ReaderLemmas.{Next, IsAtFront, IsReader}
use Rattle.nf_grammar.proofs.Public.LimitLemmas.{IsLarger, IsLater}

-- what an outcome answers
abbrev pub result_of : {W A : Type 0} → Outcome W A → Result A Fault
result_of (Ok read) = Ok read.0
result_of (Err f) = Err f

-- readers of the whole texts of a grammar, one for each depth
pub record AreReaders {W A : Type 0} (p : ℕ → Parser W A) (texts : ℕ → Part W A) : Type 1 where
  pub begin : ℕ → Next W
  pub stop : ℕ → Next W
  pub reads : (d : ℕ) → IsReader (p d) (texts d) (begin d) (stop d)
  pub at_end : (d : ℕ) → stop d None
  pub to_end : (d : ℕ) (s t : State W) (x : A) → p d s ≡ Ok (x, t) → t.words ≡ []
  pub larger : (d m : ℕ) → 0 < m → IsLarger (p d) (p (d + m))

module _ {W A : Type 0} {p : ℕ → Parser W A} {texts : ℕ → Part W A} (are : AreReaders p texts) where
  -- the outcome within limits
  abbrev outcome : Limits → List W → Outcome W A
  outcome limits words = p limits.depth (state limits.room words)

  -- a front that ends with so many words left
  record IsFrontLeft (limits : Limits) (words : List W) (left : ℕ) : Type 0 where
    count : ℕ
    front : IsFront texts limits words count
    is : left ≡ length words - count

  front_left : (limits : Limits) (words : List W) (left : ℕ)
      → IsAtFront (texts limits.depth) (state limits.room words) left
      → IsFrontLeft limits words left
  front_left limits words left a =
      let b = (are.reads limits.depth).behind (state limits.room words) a.end a.front in
      record {
        count = b.count;
        front = record { within = b.few; left = a.end.room; front = subst (λ ws. (texts limits.depth).front (state limits.room words) (state a.end.room ws)) b.last a.front };
        is = sym a.here ∙ ap length b.last ∙ length-drop b.count words;
      }

  fault_front : (limits : Limits) (words : List W) (f : Fault) → outcome limits words ≡ Err f
      → IsFrontLeft limits words (place_of f)
  fault_front limits words f e = front_left limits words (place_of f) ((are.reads limits.depth).at (state limits.room words) f e)

  -- a reading goes as far as every front
  reached : (limits : Limits) (words : List W) (count : ℕ) → IsFront texts limits words count
      → place (outcome limits words) ≤ length words - count
  reached limits words count f =
      let r = (are.reads limits.depth).reach (state limits.room words) (state f.left (drop count words)) f.front in
      omega (arith, r, length-drop count words)

  whole_front : (limits : Limits) (words : List W) (x : A) → IsText texts limits words x
      → IsFront texts limits words (length words)
  whole_front limits words x w = record {
    within = omega arith;
    left = w.left;
    front = subst (λ ws. (texts limits.depth).front (state limits.room words) (state w.left ws)) (sym (drop_all (length words) words (omega arith))) ((are.reads limits.depth).whole (state limits.room words) (state w.left []) x w.word);
  }

  text_read : (limits : Limits) (words : List W) (x : A) (w : IsText texts limits words x)
      → outcome limits words ≡ Ok (x, state w.left [])
  text_read limits words x w = (are.reads limits.depth).complete (state limits.room words) (state w.left []) x w.word (are.at_end limits.depth)

  read_text : (limits : Limits) (words : List W) (read : A × State W)
      → outcome limits words ≡ Ok read → IsText texts limits words read.0
  read_text limits words read e = record {
    left = read.1.room;
    word = subst (λ ws. (texts limits.depth).word (state limits.room words) read.0 (state read.1.room ws)) (are.to_end limits.depth (state limits.room words) read.1 read.0 e) ((are.reads limits.depth).sound (state limits.room words) read.1 read.0 e);
  }

  -- limits above two others
  abbrev joined : Limits → Limits → Limits
  joined a b = record { depth = a.depth + suc b.depth; room = a.room + suc b.room }

  left_later : (a b : Limits) (words : List W)
      → IsLater (suc b.room) (outcome a words) (outcome (joined a b) words)
  left_later a b words = (are.larger a.depth (suc b.depth) (omega arith)).later (suc b.room) (state a.room words) (omega arith)

  right_later : (a b : Limits) (words : List W)
      → IsLater (suc a.room) (outcome b words) (outcome (joined a b) words)
  right_later a b words =
      let d : b.depth + suc a.depth ≡ a.depth + suc b.depth = omega arith in
      let r : b.room + suc a.room ≡ a.room + suc b.room = omega arith in
      subst (λ n. IsLater (suc a.room) (outcome b words) (p n (state (a.room + suc b.room) words))) d
      (subst (λ n. IsLater (suc a.room) (outcome b words) (p (b.depth + suc a.depth) (state n words))) r
      ((are.larger b.depth (suc a.depth) (omega arith)).later (suc a.room) (state b.room words) (omega arith)))

  -- what is refused as grammar is so within larger limits
  grammar_later : (a b : Limits) (words : List W) (n : ℕ) → outcome a words ≡ Err (fault.Grammar n)
      → outcome (joined a b) words ≡ Err (fault.Grammar n)
  unfolding IsLater
  grammar_later a b words n e = subst (λ o. IsLater (suc b.room) o (outcome (joined a b) words)) e (left_later a b words)

  -- and under any limits a reading goes no further
  no_further : (a b : Limits) (words : List W) (n : ℕ) → outcome a words ≡ Err (fault.Grammar n)
      → place (outcome b words) < n → ⊥
  unfolding IsLater
  no_further a b words n e l = go (outcome b words) refl (right_later a b words)
    where
      go : (o : Outcome W A) → outcome b words ≡ o
          → IsLater (suc a.room) o (outcome (joined a b) words) → ⊥
      go (Ok read) i h = no_ok _ _ (sym (grammar_later a b words n e) ∙ h)
      go (Err (fault.Grammar m)) i h =
          let same : m ≡ n = ap place_of (err_is {W = W} {A = A} _ _ (sym h ∙ grammar_later a b words n e)) in
          omega (arith, l, ap place i, same)
      go (Err (fault.TooDeep m)) i h = omega (arith, l, ap place i, h, ap place (grammar_later a b words n e))

  no_text : (a b : Limits) (words : List W) (n : ℕ) (x : A)
      → outcome a words ≡ Err (fault.Grammar n) → IsText texts b words x → ⊥
  unfolding IsLater
  no_text a b words n x e w =
      let h = subst (λ o. IsLater (suc a.room) o (outcome (joined a b) words)) (text_read b words x w) (right_later a b words) in
      no_ok _ _ (sym (grammar_later a b words n e) ∙ h)

  goes_to : (limits : Limits) (words : List W) (f : Fault) → outcome limits words ≡ Err f
      → (l : IsFrontLeft limits words (place_of f)) → GoesTo texts limits words l.count
  goes_to limits words f e l = record {
    front = l.front;
    no_more = λ more above front. omega (arith, above, reached limits words more front, ap place e, l.is, front.within);
  }

  -- where a limit was passed, more words are a front within larger limits
  further : (limits : Limits) (words : List W) (n : ℕ)
      → outcome limits words ≡ Err (fault.TooDeep n) → (l : IsFrontLeft limits words n)
      → GoesFurther texts words l.count
  unfolding IsLater
  further limits words n e l = go (outcome more words) refl
    where
      more : Limits
      more = record { depth = limits.depth + 1; room = limits.room + 1 }

      past : place (outcome more words) < n
      past = subst (λ o. IsLater 1 o (outcome more words)) e ((are.larger limits.depth 1 (omega arith)).later 1 (state limits.room words) (omega arith))

      go : (o : Outcome W A) → outcome more words ≡ o → GoesFurther texts words l.count
      go (Ok read) i = record {
        other = more;
        more = length words;
        further = omega (arith, past, l.is);
        front = whole_front more words read.0 (read_text more words read i);
      }
      go (Err f) i =
          let k = fault_front more words f i in
          record { other = more; more = k.count; further = omega (arith, past, l.is, k.is, ap place i, k.front.within, l.front.within); front = k.front }

  -- what is read is the answer
  pub answered : (limits : Limits) (words : List W)
      → Answers texts limits words (result_of (outcome limits words))
  answered limits words = go (outcome limits words) refl
    where
      by_count : (n : ℕ) → outcome limits words ≡ Err (fault.Grammar n)
          → (l : IsFrontLeft limits words n) → ◌⊎◌ (n ≡ 0) (0 < n)
          → Answers texts limits words (Err (fault.Grammar n))
      by_count n e l (inl zero_left) =
          let all : l.count ≡ length words = omega (arith, zero_left, l.is, l.front.within) in
          subst (λ m. Answers texts limits words (Err (fault.Grammar m))) (sym zero_left)
          (ends (subst (λ c. GoesTo texts limits words c) all (goes_to limits words (fault.Grammar n) e l)) (λ other x w. no_text limits other words n x e w))
      by_count n e l (inr some_left) =
          subst (λ m. Answers texts limits words (Err (fault.Grammar m))) (sym l.is)
          (grammar (goes_to limits words (fault.Grammar n) e l) (omega (arith, some_left, l.is))
          (λ g. no_further limits g.other words n e (omega (arith, reached g.other words g.more g.front, g.further, g.front.within, l.is))))

      split : (n : ℕ) → (n ≡ 0) ⊎ (0 < n)
      split zero = inl refl
      split (suc n) = inr (omega arith)

      go : (o : Outcome W A) → outcome limits words ≡ o → Answers texts limits words (result_of o)
      go (Ok read) e = text (read_text limits words read e)
      go (Err (fault.Grammar n)) e = by_count n e (fault_front limits words (fault.Grammar n) e) (split n)
      go (Err (fault.TooDeep n)) e =
          let l = fault_front limits words (fault.TooDeep n) e in
          subst (λ m. Answers texts limits words (Err (fault.TooDeep m))) (sym l.is) (too_deep (goes_to limits words (fault.TooDeep n) e l) (further limits words n e l))

  -- words go so far in one way
  one_count : (limits : Limits) (words : List W) (m n : ℕ) → GoesTo texts limits words m
      → GoesTo texts limits words n → m ≡ n
  one_count limits words m n a b = go (order m n)
    where
      order : (m n : ℕ) → (m < n) ⊎ ((n < m) ⊎ (m ≡ n))
      order m n = grind arith

      go : (m < n) ⊎ ((n < m) ⊎ (m ≡ n)) → m ≡ n
      go (inl l) = absurd (a.no_more n l b.front)
      go (inr (inl l)) = absurd (b.no_more m l a.front)
      go (inr (inr e)) = e

  -- where more words are a front under some limits, not all were one
  not_all : (words : List W) (count : ℕ) → GoesFurther texts words count → count < length words
  not_all words count g = omega (arith, g.further, g.front.within)

  text_goes : (limits : Limits) (words : List W) (x : A) (count : ℕ) → IsText texts limits words x
      → GoesTo texts limits words count → count < length words → ⊥
  text_goes limits words x count w g l = g.no_more (length words) l (whole_front limits words x w)

  -- words have one answer
  pub one_answer : (limits : Limits) (words : List W) (a b : Result A Fault)
      → Answers texts limits words a → Answers texts limits words b → a ≡ b
  one_answer limits words _ _ (text {x} v) (text {x = y} w) = ap (λ (r : A × State W). Ok r.0) (ok_is _ _ (outcome limits words) (text_read limits words x v) (text_read limits words y w))
  one_answer limits words _ _ (text {x} v) (too_deep {count} g h) = absurd (text_goes limits words x count v g (not_all words count h))
  one_answer limits words _ _ (text {x} v) (grammar {count} g l h) = absurd (text_goes limits words x count v g l)
  one_answer limits words _ _ (text {x} v) (ends g none) = absurd (none limits x v)
  one_answer limits words _ _ (too_deep {count} g h) (text {x} w) = absurd (text_goes limits words x count w g (not_all words count h))
  one_answer limits words _ _ (too_deep {count = m} g h) (too_deep {count = n} i j) = ap (λ c. Err (fault.TooDeep (length words - c))) (one_count limits words m n g i)
  one_answer limits words _ _ (too_deep {count = m} g h) (grammar {count = n} i l none) = absurd (none (subst (λ c. GoesFurther texts words c) (one_count limits words m n g i) h))
  one_answer limits words _ _ (too_deep {count = m} g h) (ends i none) = absurd (omega (arith, not_all words m h, one_count limits words m (length words) g i))
  one_answer limits words _ _ (grammar {count} g l h) (text {x} w) = absurd (text_goes limits words x count w g l)
  one_answer limits words _ _ (grammar {count = m} g l none) (too_deep {count = n} i j) = absurd (none (subst (λ c. GoesFurther texts words c) (one_count limits words n m i g) j))
  one_answer limits words _ _ (grammar {count = m} g l h) (grammar {count = n} i k j) = ap (λ c. Err (fault.Grammar (length words - c))) (one_count limits words m n g i)
  one_answer limits words _ _ (grammar {count = m} g l h) (ends i none) = absurd (omega (arith, l, one_count limits words m (length words) g i))
  one_answer limits words _ _ (ends g none) (text {x} w) = absurd (none limits x w)
  one_answer limits words _ _ (ends g none) (too_deep {count = n} i j) = absurd (omega (arith, not_all words n j, one_count limits words n (length words) i g))
  one_answer limits words _ _ (ends g none) (grammar {count = n} i l h) = absurd (omega (arith, l, one_count limits words n (length words) i g))
  one_answer limits words _ _ (ends g none) (ends i j) = refl
