use Rattle.std.proofs.Common.{◌≡◌, map, drop}
use Rattle.nf_cast.specs.Book.{steps}
use Rattle.nf_cast.specs.Rules.{item_rules}
use Rattle.nf_cast.proofs.book.Book.items.Given as goal

abbrev pub invariant-loop-item : goal.invariant-loop-item
invariant-loop-item l = steps (map (item_rules l.needs) (drop l.item-index l.items)) l.self ≡ steps (map (item_rules l.needs) l.items) l.initial.self
