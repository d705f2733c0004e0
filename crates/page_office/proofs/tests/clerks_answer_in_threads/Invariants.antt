use Rattle.page_office.proofs.tests.clerks_answer_in_threads.Given as goal

-- the desk that was just opened
abbrev pub ghosts-reload_beside : goal.ghosts-reload_beside
ghosts-reload_beside g a = record { desk = a.desk.book }
