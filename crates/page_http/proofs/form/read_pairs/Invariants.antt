use Rattle.std.proofs.Common.{◌≡◌}
use Rattle.form_urlencoded.specs.Parse.{raw_pairs_left}
use Rattle.page_datum.specs.View.{entries_view}
use Rattle.page_http.specs.Forms.{followed_by, form_pairs, pair_entries}
use Rattle.page_http.proofs.form.read_pairs.Given as goal

abbrev pub invariant-loop-name : goal.invariant-loop-name
invariant-loop-name l =
    followed_by (entries_view l.pairs.items) (pair_entries (raw_pairs_left l.name-iterator)) ≡ form_pairs l.form
