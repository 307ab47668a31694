use Rattle.nfer_cases.proofs.memory.run_difference.Given as goal

-- the ledger of the counter of one run
abbrev pub ghosts-run_into : goal.ghosts-run_into
ghosts-run_into a = record { name = a.blank.name; parts = a.blank.parts }
