use Rattle.set_publisher.proofs.tests.numbers_rise_in_threads.Given as goal

-- the desk that was just opened
abbrev pub ghosts-run_all : goal.ghosts-run_all
ghosts-run_all g a = record { desk = a.desk.book }
