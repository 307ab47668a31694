-- The answers to a source.
use Rattle.std.proofs.Common.{◌≡◌, ◌⊎◌, inl, inr, ◌≤◌, ◌<◌, ◌+◌, ◌-◌, ℕ, zero, suc, List, [], ◌∷◌, map, length, take, drop, refl, sym, ap, ◌∙◌, subst, arith, Option, Some, None, Result, Ok, Err}
use Rattle.std.specs.Prelude.{slice_get, MatchOption}
use Rattle.std.proofs.lemmas.List.{take_at, length-drop, length-append}
use Rattle.std.proofs.lemmas.List.Elements.{All-nil, All-cons}
use Rattle.nf_grammar.specs.State.{next_of}
use Rattle.nf_grammar.specs.Places.{IsText, Answers, text, too_deep, grammar, ends}
use Rattle.nf_grammar.specs.declared.fault.Fault.{Fault}
use Rattle.nf_cast.specs.declared.manifests.CManifest.{CManifest}
use Rattle.nf_cast.specs.declared.placed.PlacedItem.{PlacedItem}
use Rattle.nf_cast.specs.declared.rules.Breach.{Breach}
use Rattle.nf_cast.specs.Placed.{strip_item}
use Rattle.nf_cast.specs.Program.{Program, program_from, needs_of}
use Rattle.nf_cast.specs.Rules.{breach_of}
use Rattle.nf_cast.specs.Text.{manifest_text}
use Rattle.nf_cparse.specs.declared.fault.CFault.{CFault}
use Rattle.nf_cparse.specs.declared.fault.CFault.TheVariants as fault
use Rattle.std.specs.Result.{IsErr, IsErrAnd}
use Rattle.nf_cparse.specs.Manifests.{BeginsWith}
use Rattle.nf_cparse.specs.Lexing as lexing
use Rattle.nf_cparse.specs.Lexing.{Word, word_at, in_front, Lexes, LexesText, line_behind}
use Rattle.nf_cparse.specs.inner.Readings.{IsRefused}
use Rattle.nf_cparse.specs.inner.Tokens.{IsToken}
use Rattle.nf_cparse.specs.Grammar.{c_text_grammar}
use Rattle.nf_cparse.specs.Reading.{Reads, no_manifest, lexical, refused, broken, program, HasWords, HasItems, limits, last_line, fault_at}
use Rattle.nf_cparse.proofs.ManifestLemmas.{one_manifest}
use Rattle.nf_cparse.proofs.TokenLemmas.{text_one}
use Rattle.nf_cparse.proofs.AnswerLemmas.{answered_once}
use Rattle.nf_cparse.proofs.FormLemmas.{AreTokens}
use Rattle.nf_cparse.proofs.StatementFormLemmas.{CanBeWritten, text_can_be_written}

-- want of memory, or the answer to a source
abbrev pub Answer : Type 0
Answer = Result Program CFault

abbrev pub OrNoMemory : List ℕ → Answer → Type 0
OrNoMemory source answer = (answer ≡ Err fault.NoMemory) ⊎ Reads source answer

-- the tokens of bytes have their form
abbrev AreTokensOf : lexing.Answer → Type 0
AreTokensOf (Ok words) = AreTokens words
AreTokensOf (Err line) = Unit

with_front : (w : Word) (rest : lexing.Answer) → IsToken w.sym w.text → AreTokensOf rest → AreTokensOf (in_front w rest)
with_front w (Ok words) t h = All-cons (λ (w : Word). IsToken w.sym w.text) w words t h
with_front w (Err line) t h = tt

lexed_tokens : (line : ℕ) (bytes : List ℕ) (answer : lexing.Answer) → Lexes line bytes answer → AreTokensOf answer
lexed_tokens line bytes _ (lexing.ends e) = All-nil (λ (w : Word). IsToken w.sym w.text)
lexed_tokens line bytes answer (lexing.skips some piece later) = lexed_tokens _ _ answer later
lexed_tokens line bytes answer (lexing.takes {n} {s} {rest} some piece later e) =
    subst AreTokensOf (sym e) (with_front (word_at s (take n bytes) line) rest (record { bytes = bytes; count = n; piece = piece; is = refl }) (lexed_tokens _ _ rest later))
lexed_tokens line bytes _ (lexing.fails some piece) = tt

text_tokens : (line : ℕ) (bytes : List ℕ) (answer : lexing.Answer) → LexesText line bytes answer → AreTokensOf answer
text_tokens line bytes answer (lexing.text {rest} e l) = lexed_tokens (line + 1) rest answer l
text_tokens line bytes _ (lexing.no_include f) = tt

-- the text of a manifest is what stands before what is behind it
module _ (source : List ℕ) (m : CManifest) (place : ℕ) (within : place ≤ length source) (begins : BeginsWith source m (drop place source)) where
  manifest_length : length (manifest_text m) ≡ place
  manifest_length =
      let n : length source ≡ length (manifest_text m) + length (drop place source) = ap length begins.text ∙ length-append (manifest_text m) (drop place source) in
      omega (arith, n, length-drop place source, within)

  pub manifest_before : take place source ≡ manifest_text m
  manifest_before = ap (λ n. take n source) (sym manifest_length) ∙ ap (take (length (manifest_text m))) begins.text ∙ take_at (manifest_text m) (drop place source) (length (manifest_text m)) refl

  pub lexed_behind : (line : ℕ) (answer : lexing.Answer) → line ≡ line_behind 1 (take place source) → LexesText line (drop place source) answer → HasWords source m answer
  lexed_behind line answer e l = record {
    rest = drop place source;
    manifest = begins;
    lexed = subst (λ n. LexesText n (drop place source) answer) (e ∙ ap (line_behind 1) manifest_before) l;
  }

-- words that are answered with items are a text
is_text : (words : List Word) (r : Result (List PlacedItem) Fault) (items : List PlacedItem)
    → Answers c_text_grammar limits words r → r ≡ Ok items → IsText c_text_grammar limits words items
is_text words _ items (text {x} t) e = let h : x ≡ items = cc in subst (λ m. IsText c_text_grammar limits words m) h t
is_text words _ items (too_deep g h) e = absurd (cc)
is_text words _ items (grammar g l h) e = absurd (cc)
is_text words _ items (ends g h) e = absurd (cc)

module _ (source : List ℕ) (m : CManifest) (words : List Word) (has : HasWords source m (Ok words)) where
  pub tokens_sound : AreTokens words
  tokens_sound = text_tokens (line_behind 1 (manifest_text m)) has.rest (Ok words) has.lexed

  module _ (items : List PlacedItem) (answer : Answers c_text_grammar limits words (Ok items)) where
    pub has_items : HasItems source m items
    has_items = record { words = words; tokens = has; text = is_text words (Ok items) items answer refl }

    pub can_be_written : CanBeWritten items
    can_be_written = text_can_be_written words items tokens_sound (is_text words (Ok items) items answer refl)

    pub broken_answer : (breach : Breach) → breach_of (needs_of m) (last_line source) items ≡ Some breach → OrNoMemory source (Err (fault.Rule breach.line breach.rule))
    broken_answer breach e = inr (broken has_items e)

    pub program_answer : breach_of (needs_of m) (last_line source) items ≡ None → OrNoMemory source (Ok (program_from m (map strip_item items)))
    program_answer e = inr (program has_items e)

  pub refused_answer : (at : Fault) → Answers c_text_grammar limits words (Err at) → OrNoMemory source (Err (fault_at (last_line source) words at))
  refused_answer at a = inr (refused has a)

-- the token where so many are left
next_drop : (words : List Word) (n : ℕ) → next_of (drop n words) ≡ slice_get words n
next_drop [] zero = refl
next_drop [] (suc n) = refl
next_drop (w ∷ ws) zero = refl
next_drop (w ∷ ws) (suc n) = next_drop ws n

-- some tokens were gone past, no more than stand before the one where so many are left
pub record IsPastSome (words : List Word) (left : ℕ) (now : List Word) : Type 0 where
  pub count : ℕ
  pub few : count ≤ length words - left
  pub is : now ≡ drop count words

pub past_none : (words : List Word) (left : ℕ) → IsPastSome words left words
past_none words left = record { count = 0; few = omega arith; is = refl }

drop_more : (n : ℕ) (words later : List Word) (w : Word) → drop n words ≡ w ∷ later → later ≡ drop (suc n) words
drop_more zero [] later w e = absurd (cc)
drop_more zero (v ∷ words) later w e = cc
drop_more (suc n) [] later w e = absurd (cc)
drop_more (suc n) (v ∷ words) later w e = drop_more n words later w e

pub past_more : (words : List Word) (left : ℕ) (now later : List Word) (w : Word) → IsPastSome words left now → left < length now → now ≡ w ∷ later → IsPastSome words left later
past_more words left now later w p l e =
    let n : length now ≡ length words - p.count = ap length p.is ∙ length-drop p.count words in
    record { count = suc p.count; few = omega (arith, p.few, l, n); is = drop_more p.count words later w (sym p.is ∙ e) }

-- the next one was gone past
pub past_next : {T : Type 0} (f : T → Word) (r : Option T) (words : List Word) (left : ℕ) (now later : List Word) → IsPastSome words left now → left < length now
    → MatchOption r ((now ≡ []) × (later ≡ [])) (λ t. now ≡ f t ∷ later) → IsPastSome words left later
past_next f None words left now later p l h = absurd (omega (arith, ap length h.0, l))
past_next f (Some t) words left now later p l h = past_more words left now later (f t) p l h

pub past_all : (words : List Word) (left : ℕ) (now : List Word) → IsPastSome words left now → length now ≤ left → next_of now ≡ slice_get words (length words - left)
past_all words left now p l =
    let n : length now ≡ length words - p.count = ap length p.is ∙ length-drop p.count words in
    let c : p.count ≡ length words - left = omega (arith, p.few, l, n) in
    ap next_of p.is ∙ next_drop words p.count ∙ ap (slice_get words) c

-- a source has one answer
module _ (source : List ℕ) where
  words_same : (m n : CManifest) (a b : lexing.Answer) → HasWords source m a → HasWords source n b → (m ≡ n) × (a ≡ b)
  words_same m n a b v w =
      let same = one_manifest source m n v.rest w.rest v.manifest w.manifest in (
        same.0,
        text_one (line_behind 1 (manifest_text n)) w.rest a b
            (subst (λ k. LexesText (line_behind 1 (manifest_text k)) w.rest a) same.0 (subst (λ bytes. LexesText (line_behind 1 (manifest_text m)) bytes a) same.1 v.lexed)) w.lexed,
      )

  apart : (a b : List Word) (line : ℕ) → ◌≡◌ {A = lexing.Answer} (Ok a) (Err line) → ⊥
  apart a b line e = cc

  ok_same : (a b : List Word) → ◌≡◌ {A = lexing.Answer} (Ok a) (Ok b) → a ≡ b
  ok_same a b e = cc

  err_same : (a b : ℕ) → ◌≡◌ {A = lexing.Answer} (Err a) (Err b) → a ≡ b
  err_same a b e = cc

  answers_same : (m n : CManifest) (v w : List Word) (r q : Result (List PlacedItem) Fault) → HasWords source m (Ok v) → HasWords source n (Ok w)
      → Answers c_text_grammar limits v r → Answers c_text_grammar limits w q → r ≡ q
  answers_same m n v w r q a b c d =
      let same = ok_same v w (words_same m n (Ok v) (Ok w) a b).1 in
      answered_once w r q (subst (λ ws. Answers c_text_grammar limits ws r) same c) d

  items_same : (m n : CManifest) (xs ys : List PlacedItem) → HasItems source m xs → HasItems source n ys → (m ≡ n) × (xs ≡ ys)
  items_same m n xs ys a b = ((words_same m n (Ok a.words) (Ok b.words) a.tokens b.tokens).0, go xs ys (answers_same m n a.words b.words (Ok xs) (Ok ys) a.tokens b.tokens (text a.text) (text b.text)))
    where
      go : (xs ys : List PlacedItem) → ◌≡◌ {A = Result (List PlacedItem) Fault} (Ok xs) (Ok ys) → xs ≡ ys
      go xs ys e = cc

  no_items : (m n : CManifest) (words : List Word) (at : Fault) (items : List PlacedItem) → HasWords source m (Ok words) → Answers c_text_grammar limits words (Err at) → HasItems source n items → ⊥
  no_items m n words at items a c b = go at items (answers_same m n words b.words (Err at) (Ok items) a b.tokens c (text b.text))
    where
      go : (at : Fault) (items : List PlacedItem) → ◌≡◌ {A = Result (List PlacedItem) Fault} (Err at) (Ok items) → ⊥
      go at items e = cc

  refused_same : (m n : CManifest) (v w : List Word) (f g : Fault) → HasWords source m (Ok v) → Answers c_text_grammar limits v (Err f) → HasWords source n (Ok w) → Answers c_text_grammar limits w (Err g)
      → fault_at (last_line source) v f ≡ fault_at (last_line source) w g
  refused_same m n v w f g a c b d =
      ap (λ ws. fault_at (last_line source) ws f) (ok_same v w (words_same m n (Ok v) (Ok w) a b).1) ∙ ap (fault_at (last_line source) w) (go f g (answers_same m n v w (Err f) (Err g) a b c d))
    where
      go : (f g : Fault) → ◌≡◌ {A = Result (List PlacedItem) Fault} (Err f) (Err g) → f ≡ g
      go f g e = cc

  breaches_same : (m n : CManifest) (xs ys : List PlacedItem) → HasItems source m xs → HasItems source n ys
      → breach_of (needs_of m) (last_line source) xs ≡ breach_of (needs_of n) (last_line source) ys
  breaches_same m n xs ys a b =
      let same = items_same m n xs ys a b in
      ap (λ k. breach_of (needs_of k) (last_line source) xs) same.0 ∙ ap (breach_of (needs_of n) (last_line source)) same.1

  breach_is : (o : Option Breach) (a b : Breach) → o ≡ Some a → o ≡ Some b → a ≡ b
  breach_is o a b e f = cc

  breach_not : (o : Option Breach) (a : Breach) → o ≡ Some a → o ≡ None → ⊥
  breach_not o a e f = cc

  pub one_answer : (a b : Answer) → Reads source a → Reads source b → a ≡ b
  one_answer _ _ (no_manifest f) (no_manifest g) = refl
  one_answer _ _ (no_manifest f) (lexical {m} w) = absurd (f m w.rest w.manifest)
  one_answer _ _ (no_manifest f) (refused {m} w a) = absurd (f m w.rest w.manifest)
  one_answer _ _ (no_manifest f) (broken {m} i e) = absurd (f m i.tokens.rest i.tokens.manifest)
  one_answer _ _ (no_manifest f) (program {m} i e) = absurd (f m i.tokens.rest i.tokens.manifest)
  one_answer _ _ (lexical {m} w) (no_manifest f) = absurd (f m w.rest w.manifest)
  one_answer _ _ (lexical {m} {line} v) (lexical {m = n} {line = other} w) = ap (λ k. Err (fault.Lex k)) (err_same line other (words_same m n (Err line) (Err other) v w).1)
  one_answer _ _ (lexical {m} {line} v) (refused {m = n} {words} w a) = absurd (apart words words line (words_same n m (Ok words) (Err line) w v).1)
  one_answer _ _ (lexical {m} {line} v) (broken {m = n} i e) = absurd (apart i.words i.words line (words_same n m (Ok i.words) (Err line) i.tokens v).1)
  one_answer _ _ (lexical {m} {line} v) (program {m = n} i e) = absurd (apart i.words i.words line (words_same n m (Ok i.words) (Err line) i.tokens v).1)
  one_answer _ _ (refused {m} w a) (no_manifest f) = absurd (f m w.rest w.manifest)
  one_answer _ _ (refused {m} {words} w a) (lexical {m = n} {line} v) = absurd (apart words words line (words_same m n (Ok words) (Err line) w v).1)
  one_answer _ _ (refused {m} {words = v} {at = f} a c) (refused {m = n} {words = w} {at = g} b d) = ap Err (refused_same m n v w f g a c b d)
  one_answer _ _ (refused {m} {words} {at} w a) (broken {m = n} {items} i e) = absurd (no_items m n words at items w a i)
  one_answer _ _ (refused {m} {words} {at} w a) (program {m = n} {items} i e) = absurd (no_items m n words at items w a i)
  one_answer _ _ (broken {m} i e) (no_manifest f) = absurd (f m i.tokens.rest i.tokens.manifest)
  one_answer _ _ (broken {m} i e) (lexical {m = n} {line} v) = absurd (apart i.words i.words line (words_same m n (Ok i.words) (Err line) i.tokens v).1)
  one_answer _ _ (broken {m} {items} i e) (refused {m = n} {words} {at} w a) = absurd (no_items n m words at items w a i)
  one_answer _ _ (broken {m} {items = xs} {breach = p} i e) (broken {m = n} {items = ys} {breach = q} j d) =
      ap (λ (b : Breach). Err (fault.Rule b.line b.rule)) (breach_is (breach_of (needs_of n) (last_line source) ys) p q (sym (breaches_same m n xs ys i j) ∙ e) d)
  one_answer _ _ (broken {m} {items = xs} {breach = p} i e) (program {m = n} {items = ys} j d) = absurd (breach_not (breach_of (needs_of n) (last_line source) ys) p (sym (breaches_same m n xs ys i j) ∙ e) d)
  one_answer _ _ (program {m} i e) (no_manifest f) = absurd (f m i.tokens.rest i.tokens.manifest)
  one_answer _ _ (program {m} i e) (lexical {m = n} {line} v) = absurd (apart i.words i.words line (words_same m n (Ok i.words) (Err line) i.tokens v).1)
  one_answer _ _ (program {m} {items} i e) (refused {m = n} {words} {at} w a) = absurd (no_items n m words at items w a i)
  one_answer _ _ (program {m} {items = xs} i e) (broken {m = n} {items = ys} {breach = q} j d) = absurd (breach_not (breach_of (needs_of m) (last_line source) xs) q (breaches_same m n xs ys i j ∙ d) e)
  one_answer _ _ (program {m} {items = xs} i e) (program {m = n} {items = ys} j d) =
      let same = items_same m n xs ys i j in
      ap (λ k. Ok (program_from k (map strip_item xs))) same.0 ∙ ap (λ zs. Ok (program_from n (map strip_item zs))) same.1

pub only_answer : (source : List ℕ) (result : Answer) → OrNoMemory source result → (answer : Answer) → Reads source answer → (result ≡ answer) ⊎ (result ≡ Err fault.NoMemory)
only_answer source result (inl e) answer w = inr e
only_answer source result (inr v) answer w = inl (one_answer source result answer v w)

-- an error that is passed on
pub passed_on : (r : Answer) (e : CFault) → IsErr r × IsErrAnd r (λ f. f ≡ e) → r ≡ Err e
passed_on (Ok p) e h = absurd (cc)
passed_on (Err f) e h = ap Err h.1

-- why a source has no manifest
pub manifest_answer : (source : List ℕ) (r : Answer) (e : CFault) → r ≡ Err e → IsRefused (BeginsWith source) e → OrNoMemory source r
manifest_answer source r e is (inl h) = inl (is ∙ ap Err h)
manifest_answer source r e is (inr h) = inr (subst (Reads source) (sym (is ∙ ap Err h.0)) (no_manifest h.1))
