-- The new block is the last one.
use Rattle.std.proofs.Common.{[], ◌∷◌, ◌++◌, ap, ◌∙◌}
use Rattle.std.proofs.lemmas.List.{append-nil}
use Rattle.nf_blocks.specs.inner.Flat.{flat}
use Rattle.nf_blocks.proofs.BlockLemmas.{flat-append}
use Rattle.nf_blocks.proofs.filling.add_block.Goals as goal

pub returns-in-Ok-clause-ok : goal.returns-in-Ok-clause-ok
returns-in-Ok-clause-ok g c =
    let old = c.args.blocks.now.items in
    let block = c.push_reserved.new.self in
    ap flat c.push_reserved-in-Ok.ensures.items
    ∙ flat-append c.reserve.new.self.items (block ∷ [])
    ∙ ap (λ bs. flat bs ++ (block.items ++ [])) c.reserve.ensures.items
    ∙ ap (λ xs. flat old ++ xs) (append-nil block.items ∙ c.push_reserved.ensures.items ∙ ap (λ xs. xs ++ c.args.value ∷ []) c.in-Ok.ensures.items)
