use Rattle.page_server.proofs.tests.counting.count_cases.Given as goal

-- the desk that was just opened
abbrev pub ghosts-count_all : goal.ghosts-count_all
ghosts-count_all g a = record { desk = a.desk.book }
