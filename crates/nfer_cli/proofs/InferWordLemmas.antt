-- The word of a trace behind the file words of `infer`.
use Rattle.std.proofs.Common.{◌≡◌, ℕ, ◌+◌, ◌-◌, ◌<◌, refl, sym, ◌∙◌, ap, arith, true, false, ◌&&◌, List, [], ◌∷◌, ◌++◌, length, take, get_or, length-append, Some, None}
use Rattle.std.specs.List.{slice_get}
use Rattle.std.proofs.Math.Seq.{take-append_seam, get_or-append_seam}
use Rattle.std.proofs.lemmas.List.{take_more, take_all}
use Rattle.std.proofs.lemmas.Option.{slice_get-get_or, slice_get_within, get_or_from_slice_get}
use Rattle.nfer_cli.specs.Words.{Options, no_options, follow_options, are_file_words, is_trace_word, Infer}
use Rattle.nfer_cli.specs.inner.Options.{taken}
use Rattle.nfer_cli.specs.inner.Commands.{infer_of, infer_with}

-- the last word is that of the trace
pub infer_last : (options : Options) (words files : List (List ℕ)) (trace : List ℕ) → words ≡ files ++ trace ∷ [] → infer_of (Some (options, words)) ≡ infer_with options files (Some trace)
infer_last options words files trace is =
    let count : length words ≡ length files + 1 = ap length is ∙ length-append files (trace ∷ []) in
    let last : length words - 1 ≡ length files = omega (arith, count) in
    let low : length files < length words = omega (arith, count) in
    let front : take (length words - 1) words ≡ files = ap (λ n. take n words) last ∙ ap (take (length files)) is ∙ take-append_seam files (trace ∷ []) in
    let end : slice_get words (length words - 1) ≡ Some trace =
    ap (slice_get words) last ∙ slice_get-get_or words (length files) [] low ∙ ap (λ (ws : List (List ℕ)). Some (get_or ws (length files) [])) is ∙ ap Some (get_or-append_seam files trace [] []) in
    ap (λ (front : List (List ℕ)). infer_with options front (slice_get words (length words - 1))) front ∙ ap (infer_with options files) end

-- and stands behind the others
pub last_behind : (words : List (List ℕ)) (trace : List ℕ) → slice_get words (length words - 1) ≡ Some trace → words ≡ take (length words - 1) words ++ trace ∷ []
last_behind words trace is =
    let low : length words - 1 < length words = slice_get_within words (length words - 1) trace is in
    let count : length words - 1 + 1 ≡ length words = omega (arith, low) in
    sym (take_all (length words) words (omega arith)) ∙ ap (λ n. take n words) (sym count) ∙ take_more words (length words - 1) [] low
    ∙ ap (λ (word : List ℕ). take (length words - 1) words ++ word ∷ []) (get_or_from_slice_get words (length words - 1) trace [] is)

-- what words ask of `infer`, from the options and the words behind them as the code takes them
pub infer_read : (words rest files : List (List ℕ)) (options : Options) (trace : List ℕ) → Some (options, rest) ≡ taken follow_options no_options words → rest ≡ files ++ trace ∷ []
    → infer_of (taken follow_options no_options words) ≡ infer_with options files (Some trace)
infer_read words rest files options trace from is = ap infer_of (sym from) ∙ infer_last options rest files trace is

pub infer_refused : (options : Options) (files : List (List ℕ)) (trace : List ℕ) → (are_file_words files && is_trace_word trace) ≡ false → infer_with options files (Some trace) ≡ None
infer_refused options files trace refused = rw refused refl

pub infer_taken : (options : Options) (files : List (List ℕ)) (trace : List ℕ) → (are_file_words files && is_trace_word trace) ≡ true → infer_with options files (Some trace) ≡ Some (Infer options files trace)
infer_taken options files trace taken = rw taken refl
