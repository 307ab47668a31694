use Rattle.std.proofs.Common.{◌≡◌, ℕ, ◌+◌, ◌-◌, ◌≤◌, ◌++◌, ◌∙◌, ap, List, Option, length, take, drop, arith, length-drop}
use Rattle.std.proofs.lemmas.List.{take_all, take-append-le}
use Rattle.std.proofs.Math.Seq.{take-add, take-append-add}
use Rattle.nf_io.specs.Bytes.{Took}
use Rattle.nf_io.proofs.Public.{Took-join}

-- the slice from a place on, up to the end, is what is left from that place on
pub rest_of_slice : (bytes : List ℕ) (from : ℕ) → take (length bytes - from) (drop from bytes) ≡ drop from bytes
rest_of_slice bytes from = take_all _ _ (omega (arith, length-drop from bytes))

-- a first part, and then n bytes of what is left
pub Took-next : (first before now : Option (List ℕ)) (bytes : List ℕ) (from n : ℕ) → Took first before (take from bytes) → Took before now (take n (take (length bytes - from) (drop from bytes))) → Took first now (take (from + n) bytes)
Took-next first before now bytes from n front piece =
    let next : Took before now (take n (drop from bytes)) = rw (rest_of_slice bytes from) at piece in
    rw (take-add from n bytes) (Took-join first before now (take from bytes) (take n (drop from bytes)) front next)

-- n bytes of what is left end within the whole
pub next_within : (bytes : List ℕ) (from n : ℕ) → from ≤ length bytes → n ≤ length (take (length bytes - from) (drop from bytes)) → from + n ≤ length bytes
next_within bytes from n within piece =
    let inside : n ≤ length (drop from bytes) = rw (rest_of_slice bytes from) at piece in
    omega (arith, length-drop from bytes)

-- the first used places stay, and n places after them hold the first n of these bytes
pub take-append_copied : (front middle after bytes : List ℕ) (used n : ℕ) → length front ≡ used → n ≤ length middle → take n middle ≡ take n bytes → take (used + n) (front ++ (middle ++ after)) ≡ front ++ take n bytes
take-append_copied front middle after bytes used n is_used within copied =
    let at_front : take (length front + n) (front ++ (middle ++ after)) ≡ front ++ take n bytes = take-append-add front (middle ++ after) n ∙ ap (λ t. front ++ t) (take-append-le n middle after within ∙ copied) in
    rw is_used at at_front
