-- The lines that ended stay what they are, whatever comes behind.
use Rattle.std.proofs.Common.{◌≡◌, ◌<◌, ◌≤◌, ℕ, Bool, true, List, [], ◌∷◌, ◌++◌, length, map, refl, sym, ap, ◌∙◌, arith, append_assoc, ⊎_elim}
use Rattle.std.proofs.lemmas.Bool.{cases_lt, lt-ltb}
use Rattle.std.proofs.lemmas.List.{map-append}
use Rattle.nf_line.specs.Lines.{cut, cut_off, line_limit, is_too_long, with_last}
use Rattle.nf_line.specs.Line.{Line, line}
use Rattle.nf_line.proofs.CutLemmas.{parts_of, is_some, IsSome, some, some_part, last-append, long_last-append, counts_stays, long_counts, long_is_some, goes_on, kept_no_feed, first_part}
use Rattle.nf_line.proofs.CutLineLemmas.{meaning_beyond}

-- the last part of some, behind the others
pub record HasLast (parts : List (List ℕ)) : Type 0 where
  pub pieces : List (List ℕ)
  pub kept : List ℕ
  pub are : parts ≡ pieces ++ kept ∷ []

last_behind : (part : List ℕ) (parts : List (List ℕ)) → HasLast (part ∷ parts)
last_behind part [] = record { pieces = []; kept = part; are = refl }
last_behind part (next ∷ parts) = let h = last_behind next parts in record { pieces = part ∷ h.pieces; kept = h.kept; are = ap {B = List (List ℕ)} (λ rest. part ∷ rest) h.are }

last_of_some : (parts : List (List ℕ)) → IsSome parts → HasLast parts
last_of_some _ (some part parts) = last_behind part parts

pub last_part : (bytes : List ℕ) → HasLast (parts_of bytes)
last_part bytes = last_of_some (parts_of bytes) (some_part bytes)

-- a last part that is too long is a piece
pub long_alone : (kept : List ℕ) → line_limit < length kept → with_last is_too_long (kept ∷ []) ≡ kept ∷ []
unfolding with_last
long_alone kept h = let e = lt-ltb line_limit (length kept) h in rw e refl

-- the last part counts at least where it is too long
module _ (counts : List ℕ → Bool) (long : (part : List ℕ) → line_limit < length part → counts part ≡ true) where
  -- where the last part so far is too long its line stays, and else it is no line so far
  behind : (kept first : List ℕ) (others : List (List ℕ)) → length kept ≤ length first → (rest : List Line) × (map line (with_last counts (first ∷ others)) ≡ map line (with_last is_too_long (kept ∷ [])) ++ rest)
  behind kept first others longer = ⊎_elim
      (λ beyond.
      let piece = counts_stays counts first others (long first (omega (arith, beyond, longer))) in
      let same : line first ≡ line kept = meaning_beyond first (omega (arith, beyond, longer)) ∙ sym (meaning_beyond kept beyond) in
      (map line piece.0, ap (map line) piece.1 ∙ ap {B = List Line} (λ one. one ∷ map line piece.0) same ∙ ap (λ pieces. map line pieces ++ map line piece.0) (sym (long_alone kept beyond))))
      (λ within. (map line (with_last counts (first ∷ others)), ap (λ pieces. map line pieces ++ map line (with_last counts (first ∷ others))) (sym (long_last-append [] kept within))))
      (cases_lt line_limit (length kept))

  pub ended_stay : (bytes more : List ℕ) → (rest : List Line) × (map line (with_last counts (parts_of (bytes ++ more))) ≡ map line (cut_off bytes) ++ rest)
  ended_stay bytes more =
      let last = last_part bytes in
      let first = first_part last.kept more (kept_no_feed bytes last.pieces last.kept last.are) in
      let later = behind last.kept first.first first.others first.longer in
      let ended = map line last.pieces in
      let now : map line (with_last counts (parts_of (bytes ++ more))) ≡ ended ++ map line (with_last counts (first.first ∷ first.others)) =
      ap (λ parts. map line (with_last counts parts)) (goes_on more bytes last.pieces last.kept last.are ∙ ap (λ parts. last.pieces ++ parts) first.are)
      ∙ ap (map line) (last-append counts last.pieces first.first first.others) ∙ map-append line last.pieces (with_last counts (first.first ∷ first.others)) in
      let so_far : map line (cut_off bytes) ≡ ended ++ map line (with_last is_too_long (last.kept ∷ [])) =
      ap (λ parts. map line (with_last is_too_long parts)) last.are
      ∙ ap (map line) (last-append is_too_long last.pieces last.kept []) ∙ map-append line last.pieces (with_last is_too_long (last.kept ∷ [])) in
      (later.0, now ∙ ap (λ lines. ended ++ lines) later.1 ∙ sym (append_assoc ended (map line (with_last is_too_long (last.kept ∷ []))) later.0) ∙ ap (λ lines. lines ++ later.0) (sym so_far))

pub whole : (bytes more : List ℕ) → (rest : List Line) × (map line (cut (bytes ++ more)) ≡ map line (cut_off bytes) ++ rest)
whole = ended_stay is_some long_is_some

pub broken_off : (bytes more : List ℕ) → (rest : List Line) × (map line (cut_off (bytes ++ more)) ≡ map line (cut_off bytes) ++ rest)
broken_off = ended_stay is_too_long long_counts
