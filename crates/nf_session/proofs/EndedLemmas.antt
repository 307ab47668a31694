-- How many lines ended in bytes, and what stands behind them.
use Rattle.std.proofs.Common.{◌≡◌, ◌<◌, ℕ, ◌+◌, Bool, not, true, false, cond, eqb, List, [], ◌∷◌, ◌++◌, ◌||◌, length, refl, sym, ◌∙◌, ap, arith}
use Rattle.std.specs.List.{onto_first}
use Rattle.std.proofs.lemmas.List.Folds.{list_any-append}
use Rattle.std.proofs.lemmas.List.Splits.{length-slice_split}
use Rattle.std.proofs.lemmas.List.Sums.{sum_by-append}
use Rattle.nf_text.specs.Fields.{fields_of}
use Rattle.nf_line.specs.Lines.{cut, ended_lines, is_empty, last_of, unended, with_last}
use Rattle.nf_line.specs.Cutting.{before_feed, has_feed}
use Rattle.nf_session.proofs.StepLemmas.{behind_feed, ended_line, fields_alone, last_more, none_before, piece_parts, some_fields, unended_none}

pub ended_more : (bytes more : List ℕ) → ended_lines (bytes ++ more) ≡ ended_lines bytes + ended_lines more
ended_more bytes more = sum_by-append (λ byte. cond (eqb byte 10) 1 0) bytes more

-- what stands behind the last LF has none
last_step : (b : Bool) (byte : ℕ) (fields : List (List ℕ)) → eqb byte 10 ≡ b → 0 < length fields → has_feed (last_of fields) ≡ false → has_feed (last_of (cond b ([] ∷ fields) (onto_first byte fields))) ≡ false
last_step true byte fields e some h = ap has_feed (last_more [] fields some) ∙ h
last_step false byte [] e some h = absurd (omega arith)
last_step false byte (field ∷ []) e some h = ap (λ b. b || has_feed field) e ∙ h
last_step false byte (field ∷ next ∷ fields) e some h = h

pub unended_fed : (bytes : List ℕ) → has_feed (unended bytes) ≡ false
unended_fed [] = refl
unended_fed (byte ∷ bytes) = last_step (eqb byte 10) byte (fields_of 10 bytes) refl (some_fields bytes) (unended_fed bytes)

-- a byte before bytes that have an LF then
two_fields : (byte : ℕ) (fields : List (List ℕ)) → 1 < length fields → last_of (onto_first byte fields) ≡ last_of fields
two_fields byte [] h = absurd (omega arith)
two_fields byte (field ∷ []) h = absurd (omega arith)
two_fields byte (field ∷ next ∷ fields) h = refl

fed_fields : (bytes : List ℕ) → has_feed bytes ≡ true → 1 < length (fields_of 10 bytes)
fed_fields bytes feed = omega (arith, length-slice_split (λ byte. eqb byte 10) bytes, ap ended_lines (piece_parts bytes feed), ended_line (before_feed bytes) (behind_feed bytes) (none_before bytes))

unended_behind : (byte : ℕ) (bytes : List ℕ) → has_feed (byte ∷ bytes) ≡ true → unended (byte ∷ bytes) ≡ unended bytes
unended_behind byte bytes feed = by (eqb byte 10) refl
  where
    by : (b : Bool) → eqb byte 10 ≡ b → last_of (cond b ([] ∷ fields_of 10 bytes) (onto_first byte (fields_of 10 bytes))) ≡ last_of (fields_of 10 bytes)
    by true e = last_more [] (fields_of 10 bytes) (some_fields bytes)
    by false e = two_fields byte (fields_of 10 bytes) (fed_fields bytes (sym (ap (λ b. b || has_feed bytes) e) ∙ feed))

-- more bytes go on from what stands behind the last LF
more_behind : (byte : ℕ) (bytes more : List ℕ) → unended (unended bytes ++ more) ≡ unended (bytes ++ more) → (b : Bool) → has_feed (byte ∷ bytes) ≡ b → unended (unended (byte ∷ bytes) ++ more) ≡ unended (byte ∷ (bytes ++ more))
more_behind byte bytes more later true feed =
    let still : has_feed (byte ∷ (bytes ++ more)) ≡ true = list_any-append (λ b. eqb b 10) (byte ∷ bytes) more ∙ ap (λ b. b || has_feed more) feed in
    ap (λ rest. unended (rest ++ more)) (unended_behind byte bytes feed) ∙ later ∙ sym (unended_behind byte (bytes ++ more) still)
more_behind byte bytes more later false none = ap (λ rest. unended (rest ++ more)) (unended_none (byte ∷ bytes) none)

pub unended_more : (bytes more : List ℕ) → unended (unended bytes ++ more) ≡ unended (bytes ++ more)
unended_more [] more = refl
unended_more (byte ∷ bytes) more = more_behind byte bytes more (unended_more bytes more) (has_feed (byte ∷ bytes)) refl

-- the pieces of the cut are those that ended, and what stands behind them
counts_last : (counts : List ℕ → Bool) (field : List ℕ) (fields : List (List ℕ)) → length (with_last counts (field ∷ fields)) ≡ length fields + length (with_last counts (last_of (field ∷ fields) ∷ []))
unfolding with_last
counts_last counts field [] = omega arith
counts_last counts field (next ∷ fields) = omega (arith, counts_last counts next fields)

counts_fields : (counts : List ℕ → Bool) (fields : List (List ℕ)) → 0 < length fields → length (with_last counts fields) + 1 ≡ length fields + length (with_last counts (last_of fields ∷ []))
counts_fields counts [] h = absurd (omega arith)
counts_fields counts (field ∷ fields) h = omega (arith, counts_last counts field fields)

pub cut_count : (bytes : List ℕ) → length (cut bytes) ≡ ended_lines bytes + length (cut (unended bytes))
cut_count bytes =
    let counts : List ℕ → Bool = λ piece. not (is_empty piece) in
    let alone : cut (unended bytes) ≡ with_last counts (unended bytes ∷ []) = ap (with_last counts) (fields_alone (unended bytes) (unended_fed bytes)) in
    let parts = counts_fields counts (fields_of 10 bytes) (some_fields bytes) in
    omega (arith, parts, length-slice_split (λ byte. eqb byte 10) bytes, ap length alone)
