use Rattle.page_server.proofs.tests.serve_cases.Given as goal

-- the desk that was just opened
abbrev pub ghosts-are_served : goal.ghosts-are_served
ghosts-are_served g a = record { desk = a.desk.book }
