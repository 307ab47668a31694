-- Joined texts are split into these texts, and split texts are joined to the text.
use Rattle.std.proofs.Common.{◌≡◌, ◌≢◌, ◌==◌, ℕ, false, List, [], ◌∷◌, ◌++◌, All, refl, sym, ap, subst, ◌∙◌, inl, inr}
use Rattle.std.specs.List.{AllByRecursion, onto_first, join_with_byte}
use Rattle.std.proofs.lemmas.Bool.{eq-eqb, ne_eqb}
use Rattle.std.proofs.lemmas.Bool.Decides.{eqb_tells}
use Rattle.std.proofs.lemmas.List.Splits.{slice_split_none, slice_split_at, slice_split-cons_yes, slice_split-cons_no, join_with_byte-slice_split}
use Rattle.std.proofs.lemmas.List.Elements.{All-from_recursion}
use Rattle.nf_text.specs.Fields.{fields_of}
use Rattle.nf_announce.specs.Announcements.{joined}
use Rattle.nf_announce.proofs.Public.DistinctItemLemmas.{each_weaker}
use Rattle.nf_announce.proofs.Public.LineBackLemmas.{Without}

unmarked : (mark : ℕ) (text : List ℕ) → Without mark text → All (λ byte. (byte == mark) ≡ false) text
unmarked mark text h =
    All-from_recursion (λ byte. (byte == mark) ≡ false) text (each_weaker (λ byte. byte ≢ mark) (λ byte. (byte == mark) ≡ false) (λ byte other. ne_eqb byte mark other) text h)

-- a text without the mark is its only field
pub one_field : (mark : ℕ) (text : List ℕ) → Without mark text → fields_of mark text ≡ text ∷ []
one_field mark text h = slice_split_none (λ byte. byte == mark) text (unmarked mark text h)

-- a text without the mark is the first field before one
pub first_field : (mark : ℕ) (text rest : List ℕ) → Without mark text → fields_of mark (text ++ mark ∷ rest) ≡ text ∷ fields_of mark rest
first_field mark text rest h = slice_split_at (λ byte. byte == mark) text mark rest (unmarked mark text h) (eq-eqb mark mark refl)

-- joined texts are split into these
pub split_joined : (text : List ℕ) (texts : List (List ℕ)) → AllByRecursion (Without 59) (text ∷ texts) → fields_of 59 (joined (text ∷ texts)) ≡ text ∷ texts
split_joined text [] h = one_field 59 text h.0
split_joined text (next ∷ texts) h = first_field 59 text (joined (next ∷ texts)) h.0 ∙ ap (λ rest. text ∷ rest) (split_joined next texts h.1)

-- and split ones joined to the text
joined_is : (texts : List (List ℕ)) → joined texts ≡ join_with_byte 59 texts
joined_is [] = refl
joined_is (text ∷ []) = refl
joined_is (text ∷ next ∷ texts) = ap (λ rest. text ++ 59 ∷ rest) (joined_is (next ∷ texts))

pub joined_split : (text : List ℕ) → joined (fields_of 59 text) ≡ text
joined_split text = joined_is (fields_of 59 text) ∙ join_with_byte-slice_split 59 text

-- a field holds no mark
onto_unmarked : (mark byte : ℕ) (parts : List (List ℕ)) → byte ≢ mark → AllByRecursion (Without mark) parts → AllByRecursion (Without mark) (onto_first byte parts)
onto_unmarked mark byte [] other h = ((other, tt), tt)
onto_unmarked mark byte (part ∷ parts) other h = ((other, h.0), h.1)

pub fields_unmarked : (mark : ℕ) (text : List ℕ) → AllByRecursion (Without mark) (fields_of mark text)
fields_unmarked mark [] = (tt, tt)
fields_unmarked mark (byte ∷ text) = elim (eqb_tells byte mark) [
  | inl is ↦ subst (AllByRecursion (Without mark)) (sym (slice_split-cons_yes (λ b. b == mark) byte text is.0)) (tt, fields_unmarked mark text)
  | inr other ↦ subst (AllByRecursion (Without mark)) (sym (slice_split-cons_no (λ b. b == mark) byte text other.0)) (onto_unmarked mark byte (fields_of mark text) other.1 (fields_unmarked mark text))
]

-- the text of its fields
pub fields_joined : (mark : ℕ) (text : List ℕ) → join_with_byte mark (fields_of mark text) ≡ text
fields_joined = join_with_byte-slice_split
