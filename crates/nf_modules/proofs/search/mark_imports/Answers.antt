use Rattle.std.proofs.Common.{List, ℕ, get_or, subst, OnOk}
use Rattle.std.proofs.lemmas.Option.{slice_get-get_or}
use Rattle.nf_modules.specs.inner.Places.{number_in}
use Rattle.nf_modules.specs.inner.Search.{Marks, IsPlaceOf}
use Rattle.nf_modules.proofs.MarkLemmas.{marks_of_module}
use Rattle.nf_modules.proofs.search.mark_imports.Goals as goal

pub returns : goal.returns
returns c =
    marks_of_module (number_in c.args.places.now) c.args.modules.now c.args.place (get_or c.args.modules.now c.args.place c.index-modules-place.result) c.args.search.now c.mark_all.new.search c.mark_all.result
    (slice_get-get_or c.args.modules.now c.args.place c.index-modules-place.result c.requires.place)
    (subst (λ (names : List (List ℕ)). OnOk c.mark_all.result (Marks c.args.search.now c.mark_all.new.search (IsPlaceOf (number_in c.args.places.now) names))) c.as_slice.ensures c.mark_all.ensures)
