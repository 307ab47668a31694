use Rattle.nfer.proofs.main.Given as goal

-- the ledger of the counter that main makes
abbrev pub ghosts-run_over_real : goal.ghosts-run_over_real
ghosts-run_over_real a = record { name = a.blank.name; parts = a.blank.parts }
