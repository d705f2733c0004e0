use Rattle.page_datum.proofs.legible_text.+prefix.Given as goal

abbrev pub decreases-prefix : goal.decreases-prefix
decreases-prefix l = l.most
