use Rattle.std.proofs.Common.{◌≡◌, [], ◌∷◌, codes, pos, take}
use Rattle.nf_core.specs.Plan.{keys_of}
use Rattle.nf_core.specs.declared.values.Value.TheVariants.{Int}
use Rattle.nf_line.specs.Rows.{row_of}
use Rattle.nf_session.proofs.making.made_row.Given as goal

-- the cells of the first keys
abbrev pub invariant-loop-place : goal.invariant-loop-place
invariant-loop-place l =
    l.row ≡ row_of (take l.place (keys_of l.plan l.name)) ((codes "k", Int (pos l.bit)) ∷ [])
