-- What holds of some texts holds of them each once.
use Rattle.std.proofs.Common.{ℕ, Bool, true, false, List, [], ◌∷◌, ◌++◌, fold, All, if◌then◌else◌}
use Rattle.std.specs.List.{list_any}
use Rattle.std.proofs.lemmas.List.Elements.{All-nil, All-cons, All-append, All-head, All-tail}
use Rattle.nf_core.specs.Texts.{text_eq}
use Rattle.nf_core.specs.Written.{each_once}

-- a text after others, if it isn't among them
abbrev pub with_text : List (List ℕ) → List ℕ → List (List ℕ)
with_text all text = if list_any (text_eq text) all then all else all ++ text ∷ []

All-with_text : (P : List ℕ → Type 0) (all : List (List ℕ)) (x : List ℕ) → All P all → P x → All P (with_text all x)
All-with_text P all x h p = at (list_any (text_eq x) all)
  where
    at : (b : Bool) → All P (if b then all else all ++ x ∷ [])
    at true = h
    at false = All-append P all (x ∷ []) h (All-cons P x [] p (All-nil P))

All-with_texts : (P : List ℕ → Type 0) (texts all : List (List ℕ)) → All P texts → All P all → All P (fold with_text all texts)
All-with_texts P [] all t h = h
All-with_texts P (x ∷ texts) all t h = All-with_texts P texts (with_text all x) (All-tail P x texts t) (All-with_text P all x h (All-head P x texts t))

pub All-each_once : (P : List ℕ → Type 0) (texts : List (List ℕ)) → All P texts → All P (each_once texts)
All-each_once P texts t = All-with_texts P texts [] t (All-nil P)
