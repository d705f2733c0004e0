use Rattle.html_scan.proofs.errors.in_quotes.Goals as goal

pub returns-in-Bare : goal.returns-in-Bare
returns-in-Bare c t = rw c.in-Bare.is (c.in_bare.ensures t)
