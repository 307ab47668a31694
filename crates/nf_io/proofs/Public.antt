use Rattle.std.specs.Prelude.{ℕ, ◌+◌, ◌<◌, ◌≤◌, List, [], ◌++◌, length, take, min, Option, None, Some}
use Rattle.std.proofs.Common.{sym, ◌∙◌, ap, append_assoc, inl, inr, arith, length-append}
use Rattle.std.proofs.lemmas.List.{append-nil, take_min, take-append-le}
use Rattle.std.proofs.Math.Seq.{take-append_seam, take-append-add}
use Rattle.std.proofs.Math.Nat.{min-le_right}
use Rattle.nf_io.specs.Bytes.{Took, TookPart, TookPrefix}
use Rattle.nf_io.specs.Causes.{Rose}

-- nothing was taken
pub Took-none : (told : Option (List ℕ)) → Took told told []
Took-none None = tt
Took-none (Some first) = sym (append-nil first)

-- one piece, and then another
pub Took-join : (first before now : Option (List ℕ)) (x y : List ℕ) → Took first before x → Took before now y → Took first now (x ++ y)
Took-join first before None x y p q = tt
Took-join first None (Some after) x y p q = absurd q
Took-join None (Some middle) (Some after) x y p q = absurd p
Took-join (Some start) (Some middle) (Some after) x y p q =
    q ∙ ap (λ t. t ++ y) p ∙ append_assoc start x y

-- nothing was taken of any text
pub TookPrefix-none : (told : Option (List ℕ)) (text : List ℕ) → TookPrefix told told text
TookPrefix-none None text = tt
TookPrefix-none (Some first) text = (0, sym (append-nil first))

-- a whole text is a prefix of itself followed by any other
pub TookPrefix-whole : (before now : Option (List ℕ)) (x y : List ℕ) → Took before now x → TookPrefix before now (x ++ y)
TookPrefix-whole before None x y p = tt
TookPrefix-whole None (Some after) x y p = absurd p
TookPrefix-whole (Some first) (Some after) x y p =
    (length x, p ∙ ap (λ t. first ++ t) (sym (take-append_seam x y)))

-- a prefix of a text is a prefix of the text followed by any other
pub TookPrefix-more : (before now : Option (List ℕ)) (x y : List ℕ) → TookPrefix before now x → TookPrefix before now (x ++ y)
TookPrefix-more before None x y p = tt
TookPrefix-more None (Some after) x y p = absurd p
TookPrefix-more (Some first) (Some after) x y p = (
  min p.0 (length x),
  p.1 ∙ ap (λ t. first ++ t) (sym (take-append-le (min p.0 (length x)) x y (min-le_right p.0 (length x)) ∙ take_min p.0 x)),
)

-- a whole piece, and then a prefix of a second, is a prefix of both followed by any other
pub TookPrefix-after : (first before now : Option (List ℕ)) (x y z : List ℕ) → Took first before x → TookPrefix before now y → TookPrefix first now (x ++ (y ++ z))
TookPrefix-after first before None x y z p q = tt
TookPrefix-after first None (Some after) x y z p q = absurd q
TookPrefix-after None (Some middle) (Some after) x y z p q = absurd p
TookPrefix-after (Some start) (Some middle) (Some after) x y z p q =
    let more : TookPrefix (Some middle) (Some after) (y ++ z) = TookPrefix-more (Some middle) (Some after) y z q in (
      length x + more.0,
      more.1 ∙ ap (λ t. t ++ take more.0 (y ++ z)) p ∙ append_assoc start x (take more.0 (y ++ z)) ∙ ap (λ t. start ++ t) (sym (take-append-add x (y ++ z) more.0)),
    )

-- the first k bytes of a text are a prefix of it
pub TookPrefix-take : (before now : Option (List ℕ)) (k : ℕ) (text : List ℕ) → Took before now (take k text) → TookPrefix before now text
TookPrefix-take before None k text p = tt
TookPrefix-take None (Some after) k text p = absurd p
TookPrefix-take (Some first) (Some after) k text p = (k, p)

-- the first k bytes of a text that has more of them are a part of it
pub TookPart-take : (before now : Option (List ℕ)) (k : ℕ) (text : List ℕ) → k < length text → Took before now (take k text) → TookPart before now text
TookPart-take before None k text few p = tt
TookPart-take None (Some after) k text few p = absurd p
TookPart-take (Some first) (Some after) k text few p = (k, few, p)

-- a part of a text is a part of the text followed by any other
pub TookPart-more : (before now : Option (List ℕ)) (x y : List ℕ) → TookPart before now x → TookPart before now (x ++ y)
TookPart-more before None x y p = tt
TookPart-more None (Some after) x y p = absurd p
TookPart-more (Some first) (Some after) x y p =
    (p.0, omega (arith, length-append x y), p.2 ∙ ap (λ t. first ++ t) (sym (take-append-le p.0 x y (omega arith))))

-- a whole piece, and then a part of a second, is a part of both
pub TookPart-after : (first before now : Option (List ℕ)) (x y : List ℕ) → Took first before x → TookPart before now y → TookPart first now (x ++ y)
TookPart-after first before None x y p q = tt
TookPart-after first None (Some after) x y p q = absurd q
TookPart-after None (Some middle) (Some after) x y p q = absurd p
TookPart-after (Some start) (Some middle) (Some after) x y p q = (
  length x + q.0,
  omega (arith, length-append x y),
  q.2 ∙ ap (λ t. t ++ take q.0 y) p ∙ append_assoc start x (take q.0 y) ∙ ap (λ t. start ++ t) (sym (take-append-add x y q.0)),
)

-- a count that rose and never fell afterwards has risen in all
pub Rose-then_later : (first before now : ℕ) → first ≤ before → Rose first before → before ≤ now → Rose first now
Rose-then_later first before now was (inl rose) later = inl (omega arith)
Rose-then_later first before now was (inr at_limit) later = grind arith

-- a count that never fell before it rose has risen in all
pub later-then_Rose : (first before now : ℕ) → first ≤ before → Rose before now → Rose first now
later-then_Rose first before now later (inl rose) = inl (omega arith)
later-then_Rose first before now later (inr at_limit) = inr at_limit
