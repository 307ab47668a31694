-- How the tokens of a source lie in it.
use Rattle.std.proofs.Common.{◌≡◌, ℕ, ◌+◌, ◌-◌, ◌<◌, ◌≤◌, Bool, true, false, cond, List, ◌∷◌, ◌++◌, length, take, drop, refl, sym, ap, ◌∙◌, ⊎_elim, ◌⊎◌, inl, inr, ◌||◌, ◌&&◌, ltb, ◌^◌, subst, arith, Option, Some, None, Ok, Err, option_map, slice_range, IfOk}
use Rattle.std.proofs.lemmas.List.{length-drop, take_rest, drop-drop, append-nil, append_assoc}
use Rattle.std.proofs.lemmas.Bool.{or_left, or_right}
use Rattle.std.proofs.Math.Seq.{take-add}
use Rattle.nf_lex.specs.declared.token.TokenKind.{TokenKind}
use Rattle.nf_lex.specs.declared.token.Token.{Token}
use Rattle.nf_lex.specs.Words as words
use Rattle.nf_lex.specs.Words.{IsWord, Gap, Form, kind_of, form_at, is_separator, is_comment, is_gap, opens_line, opens_block}
use Rattle.nf_lex.specs.Division.{Answer, token_at, in_front, Divides, ends, skips, takes, fails}
use Rattle.nf_lex.specs.Layout.{AreGaps, none, more, IsTokenOf, AreLaidOut, end, next}
use Rattle.nf_text.specs.Value.{is_plain}
use Rattle.std.specs.Str.{is_utf8}
use Rattle.std.specs.Str.Parse.{digits_value}
use Rattle.std.specs.List.{All}
use Rattle.std.proofs.lemmas.List.Elements.{All-nil, All-cons}
use Rattle.nf_lex.specs.declared.token.TokenKind.TheVariants.{Ident, Keyword, Number, Text, Mark}
use Rattle.nf_lex.specs.declared.fault.LexFault.{LexFault}
use Rattle.nf_lex.specs.declared.fault.LexFault.TheVariants.{BadText, BigNumber}
use Rattle.nf_lex.specs.Faults.{fault_of, line_at, body_of}
use Rattle.nf_lex.proofs.WordFormLemmas.{word_some}
use Rattle.nf_lemmas.proofs.BoolLemmas.{choose_first, passed_where_none}

-- a word that is taken as a gap is one, and one that is taken as a token has its kind
gap_chosen : (o s c : Bool) (k : Option TokenKind) → cond o (cond c (Some Gap) None) (cond s (Some Gap) (option_map words.Token k)) ≡ Some Gap → (s ≡ true) ⊎ (c ≡ true)
gap_chosen true s true k e = inr refl
gap_chosen true s false k e = absurd cc
gap_chosen false true c k e = inl refl
gap_chosen false false c None e = absurd cc
gap_chosen false false c (Some k) e = absurd cc

token_chosen : (o s c : Bool) (k : Option TokenKind) (kind : TokenKind) → cond o (cond c (Some Gap) None) (cond s (Some Gap) (option_map words.Token k)) ≡ Some (words.Token kind) → k ≡ Some kind
token_chosen true s true k kind e = absurd cc
token_chosen true s false k kind e = absurd cc
token_chosen false true c k kind e = absurd cc
token_chosen false false c None kind e = absurd cc
token_chosen false false c (Some k) kind e = cc

pub gap_word : (bytes w : List ℕ) → form_at bytes w ≡ Some Gap → is_gap w ≡ true
unfolding form_at
gap_word bytes w e = ⊎_elim (λ s. or_left (is_separator w) (is_comment w) s) (λ c. or_right (is_separator w) (is_comment w) c)
    (gap_chosen (opens_line bytes || opens_block bytes) (is_separator w) (is_comment w) (kind_of w) e)

pub token_word : (bytes w : List ℕ) (kind : TokenKind) → form_at bytes w ≡ Some (words.Token kind) → kind_of w ≡ Some kind
unfolding form_at
token_word bytes w kind e = token_chosen (opens_line bytes || opens_block bytes) (is_separator w) (is_comment w) (kind_of w) kind e

-- one more gap
gaps_push : (xs gap : List ℕ) → AreGaps xs → is_gap gap ≡ true → AreGaps (xs ++ gap)
gaps_push _ gap none g = subst AreGaps (append-nil gap) (more gap g none)
gaps_push _ gap (more first {rest} h gaps) g = subst AreGaps (sym (append_assoc first rest gap)) (more first h (gaps_push rest gap gaps g))

-- a longer range
range_more : (xs : List ℕ) (start place n : ℕ) → start ≤ place → slice_range xs start (place + n) ≡ slice_range xs start place ++ take n (drop place xs)
range_more xs start place n h =
    let e : place - start + n ≡ place + n - start = omega arith in
    let f : start + (place - start) ≡ place = omega arith in
    ap (λ k. take k (drop start xs)) (sym e) ∙ take-add (place - start) n (drop start xs)
    ∙ ap (λ ys. take (place - start) (drop start xs) ++ take n ys) (drop-drop (place - start) start xs ∙ ap (λ k. drop k xs) f)

range_token : (xs : List ℕ) (place n : ℕ) → slice_range xs place (place + n) ≡ take n (drop place xs)
range_token xs place n = let e : place + n - place ≡ n = omega arith in ap (λ k. take k (drop place xs)) e

range_none : (xs : List ℕ) (place : ℕ) → AreGaps (slice_range xs place place)
range_none xs place = let e : 0 ≡ place - place = omega arith in subst (λ k. AreGaps (take k (drop place xs))) e none

-- an answer behind a token
laid_front : (source : List ℕ) (start : ℕ) (token : Token) (rest : Answer) → ((tokens : List Token) → AreLaidOut source token.span.stop tokens → AreLaidOut source start (token ∷ tokens))
    → IfOk rest (AreLaidOut source token.span.stop) → IfOk (in_front token rest) (AreLaidOut source start)
laid_front source start token (Ok tokens) step h = step tokens h
laid_front source start token (Err fault) step h = tt

-- from a start on, with gaps up to a place
pub laid_out : (source : List ℕ) (place : ℕ) (answer : Answer) → Divides source place answer → (start : ℕ) → start ≤ place → place ≤ length source
    → AreGaps (slice_range source start place) → IfOk answer (AreLaidOut source start)
laid_out source place _ (ends l) start h k gaps =
    let e : place ≡ length source = omega arith in
    end (subst AreGaps (ap (λ n. take (n - start) (drop start source)) e ∙ take_rest source start) gaps)
laid_out source place answer (skips {n} w d) start h k gaps =
    let room : place + n ≤ length source = omega (arith, w.within, length-drop place source) in
    laid_out source (place + n) answer d start (omega arith) room
    (subst AreGaps (sym (range_more source start place n h)) (gaps_push (slice_range source start place) (take n (drop place source)) gaps (gap_word (drop place source) (take n (drop place source)) w.front)))
laid_out source place answer (takes {n} {kind} {rest} w f d e) start h k gaps =
    let room : place + n ≤ length source = omega (arith, w.within, length-drop place source) in
    let some : place < place + n = omega (arith, word_some (drop place source) (words.Token kind) n w) in
    let kind_is = ap kind_of (range_token source place n) ∙ token_word (drop place source) (take n (drop place source)) kind w.front in
    subst (λ a. IfOk a (AreLaidOut source start)) (sym e)
    (laid_front source start (token_at kind place (place + n)) rest (λ tokens t. next h some room gaps kind_is t)
    (laid_out source (place + n) rest d (place + n) (omega arith) room (range_none source (place + n))))
laid_out source place _ (fails f) start h k gaps = tt

-- a token without fault at one line has none at any
none_chosen : (b : Bool) (f g : LexFault) → cond b None (Some f) ≡ None → cond b None (Some g) ≡ None
none_chosen b f g e = choose_first b None (Some g) (passed_where_none b f e)

any_line : (kind : TokenKind) (word : List ℕ) (line other : ℕ) → fault_of kind word line ≡ None → fault_of kind word other ≡ None
unfolding fault_of
any_line Ident word line other e = refl
any_line Keyword word line other e = refl
any_line Number word line other e = none_chosen (ltb (digits_value 10 word) (2 ^ 63)) (BigNumber line) (BigNumber other) e
any_line Text word line other e = none_chosen (is_utf8 (body_of word) && is_plain (body_of word)) (BadText line) (BadText other) e
any_line Mark word line other e = refl

each_front : (source : List ℕ) (token : Token) (rest : Answer) → IsTokenOf source token → IfOk rest (All (IsTokenOf source)) → IfOk (in_front token rest) (All (IsTokenOf source))
each_front source token (Ok tokens) t h = All-cons (IsTokenOf source) token tokens t h
each_front source token (Err fault) t h = tt

pub each_token : (source : List ℕ) (place : ℕ) (answer : Answer) → Divides source place answer → place ≤ length source → IfOk answer (All (IsTokenOf source))
each_token source place _ (ends l) k = All-nil (IsTokenOf source)
each_token source place answer (skips {n} w d) k = each_token source (place + n) answer d (omega (arith, w.within, length-drop place source))
each_token source place answer (takes {n} {kind} {rest} w f d e) k =
    let room : place + n ≤ length source = omega (arith, w.within, length-drop place source) in
    let text = range_token source place n in
    subst (λ a. IfOk a (All (IsTokenOf source))) (sym e)
    (each_front source (token_at kind place (place + n)) rest
    (record {
      some = omega (arith, word_some (drop place source) (words.Token kind) n w);
      within = room;
      kind = ap kind_of text ∙ token_word (drop place source) (take n (drop place source)) kind w.front;
      sound = λ line. ap (λ t. fault_of kind t line) text ∙ any_line kind (take n (drop place source)) (line_at source place) line f;
    })
    (each_token source (place + n) rest d room))
each_token source place _ (fails f) k = tt
