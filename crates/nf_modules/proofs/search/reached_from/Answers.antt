use Rattle.std.proofs.Common.{◌≡◌, length, arith, refl}
use Rattle.nf_modules.specs.inner.Places.{number_in}
use Rattle.nf_modules.specs.declared.search.Search.{Search}
use Rattle.nf_modules.proofs.ListLemmas.{empty_list}
use Rattle.nf_modules.proofs.WalkLemmas.{open_within, numbers_within, long_replicate, none_marked, searched_start, searched_more, searched_all}
use Rattle.nf_modules.proofs.search.reached_from.Goals as goal

pub open-init : goal.open-init
open-init c =
    let items = c.in_ok-vec.ensures.items_if_clones_equal (λ b e. e) in
    searched_start (number_in c.args.places.now) c.args.modules.now c.args.root.now c.requires _ c.mark.new.search (long_replicate _ _ _ items) (none_marked _ _ items) c.new.ensures.items c.in_ok-mark.ensures

pub mark_imports-requires-clause-place : goal.mark_imports-requires-clause-place
mark_imports-requires-clause-place c = open_within (number_in c.args.places.now) c.args.modules.now c.args.root.now c.open.search c.pop.new.self.items c.in-Some.place c.open.invariant c.in-Some.ensures.items

pub mark_imports-requires-clause-numbers : goal.mark_imports-requires-clause-numbers
mark_imports-requires-clause-numbers c = numbers_within (number_in c.args.places.now) c.args.modules.now _ c.requires c.open.invariant.long

pub open-preserved : goal.open-preserved
open-preserved c =
    let popped : Search = record { reached = c.open.search.reached; «open» = c.pop.new.self } in
    let marks = c.in_ok-mark_imports.ensures in
    searched_more (number_in c.args.places.now) c.args.modules.now c.args.root.now c.requires c.open.search popped c.mark_imports.new.search c.pop.new.self.items c.in-Some.place marks.0 c.open.invariant c.in-Some.ensures.items refl refl marks.1 marks.2

pub returns : goal.returns
returns c =
    let none : length c.open.search.open.items ≡ 0 = omega (arith, c.in_default.ensures.cases.0) in
    searched_all (number_in c.args.places.now) c.args.modules.now c.args.root.now c.requires c.open.search c.open.invariant (empty_list c.open.search.open.items none)
