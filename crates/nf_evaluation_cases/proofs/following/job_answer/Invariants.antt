use Rattle.nf_evaluation_cases.proofs.following.job_answer.Given as goal

-- the ledger is that of the blank
abbrev pub ghosts-counted : goal.ghosts-counted
ghosts-counted a = record { name = a.blank.name; parts = a.blank.parts }
