use Rattle.page_worker.proofs.tests.serves.Given as goal

-- the desk that was just opened
abbrev pub ghosts-end_at : goal.ghosts-end_at
ghosts-end_at g a = record { desk = a.desk.book }
