-- The values of a line hold no separators.
use Rattle.std.proofs.Common.{◌≡◌, ℕ, Bool, true, false, cond, not, ◌&&◌, ◌||◌, eqb, List, [], ◌∷◌, ◌++◌, reverse, refl, subst, Option, Some, None, bytes_eq}
use Rattle.std.specs.List.{list_all, list_any, slice_split, onto_first, zip}
use Rattle.std.specs.Map.{lookup}
use Rattle.std.specs.Option.{IfSome}
use Rattle.std.specs.Str.{is_utf8}
use Rattle.std.proofs.lemmas.Bool.{and_parts, and_from, or_parts, or_from, not-true, not-false}
use Rattle.nf_text.specs.Fields.{fields_of}
use Rattle.nf_text.specs.Value.{is_separator}
use Rattle.nf_line.specs.Lines.{is_empty}
use Rattle.nf_line.specs.Line.{Parts, holds_bar, parts_of, is_text, keys_in, values_in, texts_in}
use Rattle.nf_line.specs.Cutting.{has_feed}
use Rattle.nf_line.specs.inner.Plain.{holds_mark}
use Rattle.nf_line.proofs.LastPairLemmas.{last_looked_up, last_holds}

-- a text without separators
abbrev pub is_bare : List ℕ → Bool
is_bare text = not (list_any is_separator text)

-- the parts of bytes that hold none of some, between marks, hold none of these and no mark
module _ (mark some both : ℕ → Bool) (covers : (byte : ℕ) → mark byte ≡ false → some byte ≡ false → both byte ≡ false) where
  none_more : (byte : ℕ) (parts : List (List ℕ)) → both byte ≡ false → list_all (λ part. not (list_any both part)) parts ≡ true → list_all (λ part. not (list_any both part)) (onto_first byte parts) ≡ true
  none_more byte [] s h = rw s refl
  none_more byte (part ∷ parts) s h = rw s h

  pub parts_hold_none : (text : List ℕ) → list_any some text ≡ false → list_all (λ part. not (list_any both part)) (slice_split mark text) ≡ true
  parts_hold_none [] h = refl
  parts_hold_none (byte ∷ text) h =
      let sides = or_parts (some byte) (list_any some text) h in here (mark byte) refl sides.0 (parts_hold_none text sides.1)
    where
      here : (b : Bool) → mark byte ≡ b → some byte ≡ false → list_all (λ part. not (list_any both part)) (slice_split mark text) ≡ true
          → list_all (λ part. not (list_any both part)) (cond b ([] ∷ slice_split mark text) (onto_first byte (slice_split mark text))) ≡ true
      here true e m later = later
      here false e m later = none_more byte (slice_split mark text) (covers byte e m) later

nothing_in : (text : List ℕ) → list_any (λ byte. false) text ≡ false
nothing_in [] = refl
nothing_in (byte ∷ text) = nothing_in text

-- no part between marks holds a mark
pub parts_lack_mark : (mark : ℕ → Bool) (text : List ℕ) → list_all (λ part. not (list_any mark part)) (slice_split mark text) ≡ true
parts_lack_mark mark text = parts_hold_none mark (λ byte. false) mark (λ byte a b. a) text (nothing_in text)

either_none : (one other : ℕ → Bool) (text : List ℕ) → list_any one text ≡ false → list_any other text ≡ false → list_any (λ byte. one byte || other byte) text ≡ false
either_none one other [] a b = refl
either_none one other (byte ∷ text) a b =
    let x = or_parts (one byte) (list_any one text) a in
    let y = or_parts (other byte) (list_any other text) b in
    or_from _ _ (or_from _ _ x.0 y.0) (either_none one other text x.1 y.1)

marks_covered : (byte : ℕ) → eqb byte 124 ≡ false → (eqb byte 13 || eqb byte 10) ≡ false → (eqb byte 124 || eqb byte 13 || eqb byte 10) ≡ false
marks_covered byte a b = let sides = or_parts (eqb byte 13) (eqb byte 10) b in or_from _ _ (or_from _ _ a sides.0) sides.1

-- a test that all of some texts pass is passed by the last one
pub all_last : (test : List ℕ → Bool) (pieces : List (List ℕ)) (kept : List ℕ) → list_all test (pieces ++ kept ∷ []) ≡ true → test kept ≡ true
all_last test [] kept h = (and_parts (test kept) true h).0
all_last test (piece ∷ pieces) kept h = all_last test pieces kept (and_parts (test piece) (list_all test (pieces ++ kept ∷ [])) h).1

-- the values' field of fields that hold no mark holds none
abbrev IsUnmarked : Option Parts → Type 0
IsUnmarked None = Unit {0}
IsUnmarked (Some parts) = holds_mark parts.values ≡ false

unmarked_in : (fields : List (List ℕ)) → list_all (λ part. not (holds_mark part)) fields ≡ true → IsUnmarked (parts_of fields)
unmarked_in [] h = tt
unmarked_in (a ∷ []) h = tt
unmarked_in (a ∷ b ∷ []) h = refl
unmarked_in (a ∷ b ∷ c ∷ []) h = tt
unmarked_in (a ∷ b ∷ c ∷ d ∷ []) h = not-true _ (all_last (λ part. not (holds_mark part)) (a ∷ b ∷ c ∷ []) d h)
unmarked_in (a ∷ b ∷ c ∷ d ∷ e ∷ []) h = not-true _ (all_last (λ part. not (holds_mark part)) (a ∷ b ∷ c ∷ d ∷ []) e h)
unmarked_in (a ∷ b ∷ c ∷ d ∷ e ∷ f ∷ fields) h = tt

-- the values of a line that is text and has no LF hold no mark
pub unmarked : (line : List ℕ) (parts : Parts) → not (is_text line) ≡ false → has_feed line ≡ false → parts_of (fields_of 124 line) ≡ Some parts → holds_mark parts.values ≡ false
unmarked line parts text feed is =
    let both = and_parts (is_utf8 line) (not (list_any (λ byte. eqb byte 13) line)) (not-false _ text) in
    let none = either_none (λ byte. eqb byte 13) (λ byte. eqb byte 10) line (not-true _ both.1) feed in
    let all = parts_hold_none (λ byte. eqb byte 124) (λ byte. eqb byte 13 || eqb byte 10) (λ byte. eqb byte 124 || eqb byte 13 || eqb byte 10) marks_covered line none in
    subst IsUnmarked is (unmarked_in (fields_of 124 line) all)

pub values_unmarked : (line name start stop keys values : List ℕ) → not (is_text line) ≡ false → has_feed line ≡ false
    → parts_of (fields_of 124 line) ≡ Some (record { name = name; start = start; stop = stop; keys = keys; values = values }) → holds_mark values ≡ false
values_unmarked line name start stop keys values = unmarked line (record { name = name; start = start; stop = stop; keys = keys; values = values })

-- no field of a line holds a bar, so its name has none
IsUnbarred : Option Parts → Type 0
IsUnbarred None = Unit {0}
IsUnbarred (Some parts) = holds_bar parts.name ≡ false

first_unbarred : (name : List ℕ) (fields : List (List ℕ)) → list_all (λ part. not (holds_bar part)) (name ∷ fields) ≡ true → holds_bar name ≡ false
first_unbarred name fields h = not-true _ (and_parts (not (holds_bar name)) (list_all (λ part. not (holds_bar part)) fields) h).0

unbarred_in : (fields : List (List ℕ)) → list_all (λ part. not (holds_bar part)) fields ≡ true → IsUnbarred (parts_of fields)
unfolding IsUnbarred
unbarred_in [] h = tt
unbarred_in (a ∷ []) h = tt
unbarred_in (a ∷ b ∷ []) h = first_unbarred a (b ∷ []) h
unbarred_in (a ∷ b ∷ c ∷ []) h = tt
unbarred_in (a ∷ b ∷ c ∷ d ∷ []) h = first_unbarred a (b ∷ c ∷ d ∷ []) h
unbarred_in (a ∷ b ∷ c ∷ d ∷ e ∷ []) h = first_unbarred a (b ∷ c ∷ d ∷ e ∷ []) h
unbarred_in (a ∷ b ∷ c ∷ d ∷ e ∷ f ∷ fields) h = tt

pub unbarred : (line : List ℕ) (parts : Parts) → parts_of (fields_of 124 line) ≡ Some parts → holds_bar parts.name ≡ false
unfolding IsUnbarred
unbarred line parts is = subst IsUnbarred is (unbarred_in (fields_of 124 line) (parts_lack_mark (λ byte. eqb byte 124) line))

pub name_unbarred : (line name start stop keys values : List ℕ) → parts_of (fields_of 124 line) ≡ Some (record { name = name; start = start; stop = stop; keys = keys; values = values }) → holds_bar name ≡ false
name_unbarred line name start stop keys values = unbarred line (record { name = name; start = start; stop = stop; keys = keys; values = values })

separators_covered : (byte : ℕ) → eqb byte 59 ≡ false → (eqb byte 124 || eqb byte 13 || eqb byte 10) ≡ false → is_separator byte ≡ false
separators_covered byte a b =
    let one = or_parts (eqb byte 124 || eqb byte 13) (eqb byte 10) b in
    let two = or_parts (eqb byte 124) (eqb byte 13) one.0 in
    or_from _ _ (or_from _ _ (or_from _ _ two.0 a) two.1) one.1

-- the parts between `;` of bytes without other separators have none
parts_bare : (text : List ℕ) → holds_mark text ≡ false → list_all is_bare (fields_of 59 text) ≡ true
parts_bare = parts_hold_none (λ byte. eqb byte 59) (λ byte. eqb byte 124 || eqb byte 13 || eqb byte 10) is_separator separators_covered

pub values_bare : (keys values : List ℕ) → holds_mark values ≡ false → list_all is_bare (values_in keys values) ≡ true
values_bare keys values h = here (is_empty keys && is_empty values)
  where
    here : (b : Bool) → list_all is_bare (cond b [] (fields_of 59 values)) ≡ true
    here true = refl
    here false = parts_bare values h

pub zip_bare : (keys values : List (List ℕ)) → list_all is_bare values ≡ true → list_all (λ (pair : List ℕ × List ℕ). is_bare pair.1) (zip keys values) ≡ true
zip_bare [] values h = refl
zip_bare (key ∷ keys) [] h = refl
zip_bare (key ∷ keys) (value ∷ values) h =
    let both = and_parts (is_bare value) (list_all is_bare values) h in and_from _ _ both.0 (zip_bare keys values both.1)

-- the value of the last pair with a key has no separators
pub found_bare : (key keys values : List ℕ) → holds_mark values ≡ false → IfSome (lookup (bytes_eq key) (reverse (texts_in keys values))) (λ value. is_bare value ≡ true)
found_bare key keys values h =
    rw (← last_looked_up key (texts_in keys values))
    (last_holds key is_bare (texts_in keys values) None (zip_bare (keys_in keys) (values_in keys values) (values_bare keys values h)) (record {}))

pub found_without_separators : (key keys values text : List ℕ) → holds_mark values ≡ false → lookup (bytes_eq key) (reverse (texts_in keys values)) ≡ Some text → list_any is_separator text ≡ false
found_without_separators key keys values text h e = not-true _ (rw e at (found_bare key keys values h))
