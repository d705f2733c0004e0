use Rattle.page_server.proofs.threads.a_hundred_thousand_replies_are_by_published_sets.Given as goal

-- the desk that was just opened
abbrev pub ghosts-serve_and_publish : goal.ghosts-serve_and_publish
ghosts-serve_and_publish g a = record { desk = a.desk.book }
