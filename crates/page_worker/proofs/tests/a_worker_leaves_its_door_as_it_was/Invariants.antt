use Rattle.page_worker.proofs.tests.a_worker_leaves_its_door_as_it_was.Given as goal

-- the desk that was just opened
abbrev pub ghosts-door_at : goal.ghosts-door_at
ghosts-door_at g a = record { desk = a.desk.book }
