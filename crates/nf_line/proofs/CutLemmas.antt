-- Bytes between their LF bytes, and the cut of them.
use Rattle.std.proofs.Common.{◌≡◌, ◌<◌, ◌≢◌, ℕ, ◌≤◌, Bool, true, false, cond, not, eqb, List, [], ◌∷◌, ◌++◌, length, refl, ap, ◌∙◌, arith, ⊎_elim}
use Rattle.std.specs.List.{onto_first}
use Rattle.std.proofs.lemmas.Bool.{or_parts, ne_eqb, lt-ltb, le-ltb, not-true, not_from_false, cases_Bool}
use Rattle.std.proofs.lemmas.List.{append-nil}
use Rattle.nf_text.specs.Fields.{fields_of}
use Rattle.nf_line.specs.Lines.{is_empty, is_too_long, with_last, cut, line_limit}
use Rattle.nf_line.specs.Cutting.{has_feed}
use Rattle.nf_line.proofs.PlainTextLemmas.{parts_lack_mark, all_last}

-- the parts of bytes between their LF bytes; the last one is what stands behind the last LF
abbrev pub parts_of : List ℕ → List (List ℕ)
parts_of bytes = fields_of 10 bytes

-- there is always a part
pub data IsSome : List (List ℕ) → Type 0 where
  some : (part : List ℕ) (parts : List (List ℕ)) → IsSome (part ∷ parts)

onto_some : (byte : ℕ) (parts : List (List ℕ)) → IsSome (onto_first byte parts)
onto_some byte [] = some (byte ∷ []) []
onto_some byte (part ∷ parts) = some (byte ∷ part) parts

either_some : (b : Bool) (byte : ℕ) (parts : List (List ℕ)) → IsSome (cond b ([] ∷ parts) (onto_first byte parts))
either_some true byte parts = some [] parts
either_some false byte parts = onto_some byte parts

pub some_part : (bytes : List ℕ) → IsSome (parts_of bytes)
some_part [] = some [] []
some_part (byte ∷ bytes) = either_some (eqb byte 10) byte (parts_of bytes)

-- whether a piece isn't empty
abbrev pub is_some : List ℕ → Bool
is_some piece = not (is_empty piece)

some_byte : (byte : ℕ) (piece : List ℕ) → is_some (byte ∷ piece) ≡ true
some_byte byte piece = not_from_false _ (ne_eqb (length (byte ∷ piece)) 0 (λ e. absurd (omega arith)))

-- the pieces of a cut, byte by byte
last_onto : (byte : ℕ) (parts : List (List ℕ)) → IsSome parts → with_last is_some (onto_first byte parts) ≡ onto_first byte (with_last is_some parts)
unfolding with_last
last_onto byte _ (some [] []) = refl
last_onto byte _ (some (x ∷ part) []) = rw (some_byte byte (x ∷ part), some_byte x part) refl
last_onto byte _ (some part (next ∷ parts)) = refl

last_after : (parts : List (List ℕ)) → IsSome parts → with_last is_some ([] ∷ parts) ≡ [] ∷ with_last is_some parts
unfolding with_last
last_after _ (some part parts) = refl

pub cut_more : (byte : ℕ) (bytes : List ℕ) → cut (byte ∷ bytes) ≡ cond (eqb byte 10) ([] ∷ cut bytes) (onto_first byte (cut bytes))
cut_more byte bytes = here (eqb byte 10)
  where
    here : (b : Bool) → with_last is_some (cond b ([] ∷ parts_of bytes) (onto_first byte (parts_of bytes))) ≡ cond b ([] ∷ cut bytes) (onto_first byte (cut bytes))
    here true = last_after (parts_of bytes) (some_part bytes)
    here false = last_onto byte (parts_of bytes) (some_part bytes)

-- the last of some parts behind others
abbrev pub last_piece : List ℕ → List (List ℕ)
last_piece kept = cond (is_some kept) (kept ∷ []) []

pub last-append : (counts : List ℕ → Bool) (pieces : List (List ℕ)) (part : List ℕ) (parts : List (List ℕ)) → with_last counts (pieces ++ part ∷ parts) ≡ pieces ++ with_last counts (part ∷ parts)
unfolding with_last
last-append counts [] part parts = refl
last-append counts (piece ∷ []) part parts = refl
last-append counts (piece ∷ next ∷ pieces) part parts = ap {B = List (List ℕ)} (λ rest. piece ∷ rest) (last-append counts (next ∷ pieces) part parts)

pub some_last-append : (pieces : List (List ℕ)) (kept : List ℕ) → with_last is_some (pieces ++ kept ∷ []) ≡ pieces ++ last_piece kept
unfolding with_last
some_last-append pieces kept = last-append is_some pieces kept []

pub long_last-append : (pieces : List (List ℕ)) (kept : List ℕ) → length kept ≤ line_limit → with_last is_too_long (pieces ++ kept ∷ []) ≡ pieces
unfolding with_last
long_last-append pieces kept h =
    let e = le-ltb line_limit (length kept) h in last-append is_too_long pieces kept [] ∙ rw e (append-nil pieces)

-- a first part that counts stays, also as the last one
pub counts_stays : (counts : List ℕ → Bool) (part : List ℕ) (parts : List (List ℕ)) → counts part ≡ true → (rest : List (List ℕ)) × (with_last counts (part ∷ parts) ≡ part ∷ rest)
unfolding with_last
counts_stays counts part [] h = ([], rw h refl)
counts_stays counts part (next ∷ parts) h = (with_last counts (next ∷ parts), refl)

-- and so does one that is too long, in the cut and where the bytes are broken off
pub long_counts : (part : List ℕ) → line_limit < length part → is_too_long part ≡ true
long_counts part h = lt-ltb line_limit (length part) h

pub long_is_some : (part : List ℕ) → line_limit < length part → is_some part ≡ true
long_is_some part h = not_from_false _ (ne_eqb (length part) 0 (λ e. absurd (omega arith)))

-- what stands behind goes on from the last part
no_more : (pieces : List (List ℕ)) (kept : List ℕ) → [] ≢ pieces ++ kept ∷ []
no_more [] kept e = cc
no_more (piece ∷ pieces) kept e = cc

module _ (more : List ℕ) where
  abbrev GoesOn : List ℕ → Type 0
  GoesOn bytes = (pieces : List (List ℕ)) (kept : List ℕ) → parts_of bytes ≡ pieces ++ kept ∷ [] → parts_of (bytes ++ more) ≡ pieces ++ parts_of (kept ++ more)

  none_left : (parts : List (List ℕ)) → IsSome parts → parts ≡ [] → ⊥
  none_left _ (some part parts) e = cc

  at_feed : (bytes : List ℕ) → GoesOn bytes → (pieces : List (List ℕ)) (kept : List ℕ) → [] ∷ parts_of bytes ≡ pieces ++ kept ∷ [] → [] ∷ parts_of (bytes ++ more) ≡ pieces ++ parts_of (kept ++ more)
  at_feed bytes later [] kept e = absurd (none_left (parts_of bytes) (some_part bytes) cc)
  at_feed bytes later (piece ∷ pieces) kept e =
      let rest : parts_of bytes ≡ pieces ++ kept ∷ [] = cc in
      let is = later pieces kept rest in cc

  at_other : (byte : ℕ) (bytes : List ℕ) → eqb byte 10 ≡ false → GoesOn bytes → (parts : List (List ℕ)) → IsSome parts → parts_of bytes ≡ parts → (pieces : List (List ℕ)) (kept : List ℕ)
      → onto_first byte parts ≡ pieces ++ kept ∷ [] → onto_first byte (parts_of (bytes ++ more)) ≡ pieces ++ parts_of (kept ++ more)
  at_other byte bytes other later _ (some part parts) is [] kept e =
      let kept_is : kept ≡ byte ∷ part = cc in
      let alone : parts_of bytes ≡ part ∷ [] = cc in
      let rest = later [] part alone in
      rw (kept_is, other) (ap (onto_first byte) rest)
  at_other byte bytes other later _ (some part parts) is (piece ∷ pieces) kept e =
      let piece_is : byte ∷ part ≡ piece = cc in
      let behind : parts_of bytes ≡ part ∷ (pieces ++ kept ∷ []) = cc in
      let rest = later (part ∷ pieces) kept behind in
      rw rest (ap {B = List (List ℕ)} (λ first. first ∷ (pieces ++ parts_of (kept ++ more))) piece_is)

  pub goes_on : (bytes : List ℕ) (pieces : List (List ℕ)) (kept : List ℕ) → parts_of bytes ≡ pieces ++ kept ∷ [] → parts_of (bytes ++ more) ≡ pieces ++ parts_of (kept ++ more)
  goes_on [] [] kept e = let kept_is : kept ≡ [] = cc in rw kept_is refl
  goes_on [] (piece ∷ pieces) kept e = absurd (no_more pieces kept cc)
  goes_on (byte ∷ bytes) pieces kept e = ⊎_elim
      (λ h. rw h (at_feed bytes (goes_on bytes) pieces kept (rw h at e)))
      (λ h. rw h (at_other byte bytes h (goes_on bytes) (parts_of bytes) (some_part bytes) refl pieces kept (rw h at e)))
      (cases_Bool (eqb byte 10))

-- the kept bytes hold no LF
pub kept_no_feed : (bytes : List ℕ) (pieces : List (List ℕ)) (kept : List ℕ) → parts_of bytes ≡ pieces ++ kept ∷ [] → has_feed kept ≡ false
kept_no_feed bytes pieces kept e =
    let all = parts_lack_mark (λ byte. eqb byte 10) bytes in
    not-true _ (all_last (λ part. not (has_feed part)) pieces kept (rw e at all))

-- bytes without LF, and then others, begin with a part that is no shorter
pub record HasFirst (bytes : List ℕ) (parts : List (List ℕ)) : Type 0 where
  pub first : List ℕ
  pub others : List (List ℕ)
  pub are : parts ≡ first ∷ others
  pub longer : length bytes ≤ length first

first_of_some : (parts : List (List ℕ)) → IsSome parts → HasFirst [] parts
first_of_some _ (some part parts) = record { first = part; others = parts; are = refl; longer = omega arith }

onto_longer : (byte : ℕ) (bytes : List ℕ) (parts : List (List ℕ)) → HasFirst bytes parts → HasFirst (byte ∷ bytes) (onto_first byte parts)
onto_longer byte bytes parts h = record { first = byte ∷ h.first; others = h.others; are = ap (onto_first byte) h.are; longer = omega (arith, h.longer) }

pub first_part : (bytes more : List ℕ) → has_feed bytes ≡ false → HasFirst bytes (parts_of (bytes ++ more))
first_part [] more h = first_of_some (parts_of more) (some_part more)
first_part (byte ∷ bytes) more h =
    let sides = or_parts (eqb byte 10) (has_feed bytes) h in
    let other = sides.0 in
    rw other (onto_longer byte bytes (parts_of (bytes ++ more)) (first_part bytes more sides.1))
