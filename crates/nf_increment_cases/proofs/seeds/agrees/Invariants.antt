use Rattle.nf_increment_cases.proofs.seeds.agrees.Given as goal

-- the ledger is that of the blank
abbrev pub ghosts-agrees_counted : goal.ghosts-agrees_counted
ghosts-agrees_counted a = record { name = a.blank.name; parts = a.blank.parts }
