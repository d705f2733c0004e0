use Rattle.page_office.proofs.tests.a_viewer_has_seen_what_was_published.Given as goal

-- the desk that was just opened
abbrev pub ghosts-reload_short : goal.ghosts-reload_short
ghosts-reload_short g a = record { desk = a.desk.book }
