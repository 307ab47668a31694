-- A demand doesn't change what names stand for.
use Rattle.std.proofs.Common.{◌≡◌, ℕ, Bool, true, false, List, Option, refl, ◌∙◌}
use Rattle.std.specs.Prelude.{is_some}
use Rattle.nf_cast.specs.declared.rules.CRule.{CRule}
use Rattle.nf_cast.specs.declared.rules.CRule.TheVariants as rule
use Rattle.nf_cast.specs.declared.placed.PlacedName.{PlacedName}
use Rattle.nf_cast.specs.Book.{Book, Seen, demand, look, used}

pub look_demand : (line : ℕ) (r : CRule) (m : Bool) (b : Book) (x : List ℕ) → look (demand line r m b) x ≡ look b x
look_demand line r true b x = refl
look_demand line r false b x = refl

-- a name stands for the same behind a use of it
pub look_used : (test : Option Seen → Bool) (at : PlacedName) (b : Book) (x : List ℕ) → look (used test at b) x ≡ look b x
look_used test at b x =
    look_demand at.line rule.Form (test (look b at.name)) (demand at.line rule.Unknown (is_some (look b at.name)) b) x
    ∙ look_demand at.line rule.Unknown (is_some (look b at.name)) b x

pub ruleset look_laws = (look_demand, look_used)
