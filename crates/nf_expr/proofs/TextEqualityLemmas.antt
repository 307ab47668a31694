-- Two texts are equal where their comparison says so.
use Rattle.std.proofs.Common.{◌≡◌, ℕ, List, rules}
use Rattle.std.specs.Ordering.{is_eq}
use Rattle.std.specs.Cmp.Rules.{comparing}
use Rattle.nf_core.specs.Texts.{text_cmp, text_eq}

pub text_eq_is : (s t : List ℕ) → text_eq s t ≡ is_eq (text_cmp s t)
text_eq_is s t = search (comparing, rules)
