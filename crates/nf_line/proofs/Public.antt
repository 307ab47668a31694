-- What other crates cite of the cut.
use Rattle.std.proofs.Common.{◌≡◌, ◌≢◌, ℕ, List, [], ◌∷◌, ◌++◌, ap, ◌∙◌}
use Rattle.std.specs.List.{AllByRecursion, onto_first}
use Rattle.std.proofs.lemmas.Bool.{ne_eqb}
use Rattle.nf_line.specs.Lines.{cut}
use Rattle.nf_line.proofs.CutLemmas.{cut_more}

-- a line and its LF are a piece of the cut, before those of what comes behind
pub cut_line : (text rest : List ℕ) → AllByRecursion (λ byte. byte ≢ 10) text → cut (text ++ 10 ∷ rest) ≡ text ∷ cut rest
cut_line [] rest h = cut_more 10 rest
cut_line (byte ∷ text) rest h = cut_more byte (text ++ 10 ∷ rest) ∙ rw (ne_eqb byte 10 h.0) (ap (onto_first byte) (cut_line text rest h.1))
