-- What functions do, by their names.
use Rattle.std.proofs.Common.{◌≡◌, List, [], ◌∷◌, ◌++◌, refl}
use Rattle.nf_cast.specs.declared.objects.CItem.{CItem}
use Rattle.nf_cast.specs.declared.objects.CItem.TheVariants as item
use Rattle.nf_csemantics.specs.Statements.{Calls}
use Rattle.nf_csemantics.specs.Functions.{with_function, calls_of}

-- items before others are known to them
pub calls_behind : (calls : Calls) (before items : List CItem) → calls_of calls (before ++ items) ≡ calls_of (calls_of calls before) items
calls_behind calls [] items = refl
calls_behind calls (item.Object o ∷ before) items = calls_behind calls before items
calls_behind calls (item.Func f ∷ before) items = calls_behind (with_function calls f) before items
