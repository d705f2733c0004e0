use Rattle.page_office.proofs.tests.broken_sets_change_nothing.Given as goal

-- the desk that was just opened
abbrev pub ghosts-reload_at : goal.ghosts-reload_at
ghosts-reload_at g a = record { desk = a.desk.book }
