-- How many bytes sources have together.
use Rattle.std.proofs.Common.{◌≡◌, ℕ, ◌+◌, ◌<◌, ◌≤◌, List, [], ◌∷◌, ◌++◌, length, get_or, take, drop, sym, ap, ◌∙◌, arith}
use Rattle.std.specs.Prelude.{sum, map}
use Rattle.std.proofs.lemmas.List.{take_more, take-append-drop, map-append}
use Rattle.std.proofs.lemmas.List.Sums.{sum_by-append, sum_by-cons}
use Rattle.nf_spec.specs.Sources.{total}

pub total_cons : (source : List ℕ) (sources : List (List ℕ)) → total (source ∷ sources) ≡ length source + total sources
total_cons source sources = sum_by-cons (λ x. x) (length source) (map length sources)

-- sources behind others
pub total_append : (before after : List (List ℕ)) → total (before ++ after) ≡ total before + total after
total_append before after = ap sum (map-append length before after) ∙ sum_by-append (λ x. x) (map length before) (map length after)

pub total_more : (sources : List (List ℕ)) (source : List ℕ) → total (sources ++ source ∷ []) ≡ total sources + length source
total_more sources source = total_append sources (source ∷ []) ∙ omega (arith, total_cons source [])

-- the sources up to a place and the one there
pub total_next : (sources : List (List ℕ)) (place : ℕ) (source : List ℕ) → place < length sources → source ≡ get_or sources place [] → total (take (place + 1) sources) ≡ total (take place sources) + length source
total_next sources place source low at =
    ap total (take_more sources place [] low ∙ ap (λ s. take place sources ++ s ∷ []) (sym at)) ∙ total_more (take place sources) source

-- the first of some sources have no more bytes than all
pub total_first : (sources : List (List ℕ)) (n : ℕ) → total (take n sources) ≤ total sources
total_first sources n =
    let all : total (take n sources ++ drop n sources) ≡ total sources = ap total (take-append-drop n sources) in
    omega (arith, all, total_append (take n sources) (drop n sources))
