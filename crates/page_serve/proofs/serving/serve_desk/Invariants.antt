use Rattle.page_serve.proofs.serving.serve_desk.Given as goal

-- the desk that was just opened
abbrev pub ghosts-serve_named : goal.ghosts-serve_named
ghosts-serve_named g a = record { desk = a.desk.book }
