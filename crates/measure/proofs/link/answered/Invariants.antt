use Rattle.measure.proofs.link.answered.Given as goal

-- the desk that was just opened
abbrev pub ghosts-served : goal.ghosts-served
ghosts-served g a = record { desk = a.desk.book }
