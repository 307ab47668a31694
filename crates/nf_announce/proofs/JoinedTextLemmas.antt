-- The lists of keys and values, cell by cell.
use Rattle.std.proofs.Common.{◌≡◌, ℕ, suc, ◌+◌, ◌<◌, ◌≤◌, Bool, true, false, ◌&&◌, List, [], ◌∷◌, ◌++◌, length, get_or, drop, map, flat_map, refl, sym, ap, ◌∙◌, add-one, append_assoc, arith, Option, Some, None, slice_get, is_none, min, ⊎_elim}
use Rattle.std.proofs.Math.Seq.{drop-cons}
use Rattle.std.proofs.Math.ListN.{drop_of_length-le}
use Rattle.std.proofs.lemmas.Bool.{cases_lt}
use Rattle.std.proofs.lemmas.List.{append-nil}
use Rattle.std.proofs.lemmas.Option.{get_or_from_slice_get}
use Rattle.nf_core.specs.declared.values.Value as value
use Rattle.nf_announce.specs.declared.data_text.Part.{Part}
use Rattle.nf_announce.specs.Announcements.{joined, present, text_of_value}
use Rattle.nf_announce.specs.inner.Cells.{part_of, cell_text, joined_after}

-- a text before others
joined_first : (text : List ℕ) (texts : List (List ℕ)) → joined (text ∷ texts) ≡ text ++ flat_map (λ text. 59 ∷ text) texts
joined_first text [] = sym (append-nil text)
joined_first text (next ∷ texts) = ap (λ rest. text ++ (59 ∷ rest)) (joined_first next texts)

-- what a cell adds, before what the cells behind it add
cell_before : (which : Part) (first : Bool) (key : List ℕ) (cell : Option value.Value) (keys : List (List ℕ)) (row : List (Option value.Value))
    → joined_after first (map (part_of which) (present (key ∷ keys) (cell ∷ row))) ≡ cell_text first which key cell ++ joined_after (first && is_none cell) (map (part_of which) (present keys row))
cell_before which true key None keys row = refl
cell_before which false key None keys row = refl
cell_before which true key (Some v) keys row = joined_first (part_of which (key, text_of_value v)) (map (part_of which) (present keys row))
cell_before which false key (Some v) keys row = refl

-- no cell is left past the end of the keys or of the row
no_cells : (keys : List (List ℕ)) → present keys [] ≡ []
no_cells [] = refl
no_cells (key ∷ keys) = refl

none_left : (keys : List (List ℕ)) (row : List (Option value.Value)) (n : ℕ) → n ≡ min (length keys) (length row) → present (drop n keys) (drop n row) ≡ []
none_left keys row n e = ⊎_elim
    (λ (more : n < length keys).
    let row_ends : drop n row ≡ [] = drop_of_length-le row (omega arith) in
    rw row_ends (no_cells (drop n keys)))
    (λ (past : length keys ≤ n).
    let keys_end : drop n keys ≡ [] = drop_of_length-le keys past in
    rw keys_end refl)
    (cases_lt n (length keys))

-- what the cells from a place on add
abbrev pub left : Part → Bool → List (List ℕ) → List (Option value.Value) → List ℕ
left which first keys row = joined_after first (map (part_of which) (present keys row))

-- the step of a loop over the cells
pub cell_more : (which : Part) (first : Bool) (keys : List (List ℕ)) (row : List (Option value.Value)) (place : ℕ) (key : List ℕ) (cell : Option value.Value) (next : Bool) (before after whole : List ℕ)
    → place < length keys → place < length row → slice_get keys place ≡ Some key → cell ≡ get_or row place None
    → after ≡ before ++ cell_text first which key cell → next ≡ (first && is_none cell)
    → before ++ left which first (drop place keys) (drop place row) ≡ whole
    → after ++ left which next (drop (place + 1) keys) (drop (place + 1) row) ≡ whole
cell_more which first keys row place key cell next before after whole h g k c a n e =
    let keys_are : drop place keys ≡ key ∷ drop (suc place) keys = drop-cons keys place key h ∙ ap (λ x. x ∷ drop (suc place) keys) (get_or_from_slice_get keys place key key k) in
    let row_is : drop place row ≡ cell ∷ drop (suc place) row = drop-cons row place None g ∙ ap (λ x. x ∷ drop (suc place) row) (sym c) in
    let split : left which first (drop place keys) (drop place row) ≡ cell_text first which key cell ++ left which (first && is_none cell) (drop (suc place) keys) (drop (suc place) row) =
    rw (keys_are, row_is) (cell_before which first key cell (drop (suc place) keys) (drop (suc place) row)) in
    rw (a, n, add-one, append_assoc) (ap (λ text. before ++ text) (sym split) ∙ e)

-- the end of that loop
nothing : (which : Part) (first : Bool) → joined_after first (map (part_of which) []) ≡ []
nothing which true = refl
nothing which false = refl

pub cells_end : (which : Part) (first : Bool) (keys : List (List ℕ)) (row : List (Option value.Value)) (n : ℕ) (before whole : List ℕ)
    → n ≡ min (length keys) (length row) → before ++ left which first (drop n keys) (drop n row) ≡ whole → before ≡ whole
cells_end which first keys row n before whole h e =
    let is_nothing : left which first (drop n keys) (drop n row) ≡ [] = rw (none_left keys row n h) (nothing which first) in
    sym (append-nil before) ∙ ap (λ text. before ++ text) (sym is_nothing) ∙ e
