use Rattle.std.proofs.Common.{ℕ, get_or, option_map, ap, ◌∙◌, []}
use Rattle.page_datum.specs.View.{view}
use Rattle.page_datum.specs.declared.datum.Datum.TheVariants as datum
use Rattle.page_datum.proofs.Lookup.{Pair, have_ascending, value_at-numbered}
use Rattle.page_datum.proofs.datum.Entries.get.Goals as goal

pub number_of_key-requires : goal.number_of_key-requires
number_of_key-requires c =
    have_ascending c.as_slice-entries.result.now (rw c.as_slice-entries.ensures.value c.self.invariant)

pub returns-in-Some : goal.returns-in-Some
returns-in-Some c =
    let entry : Pair = c.index-entries-at.result in
    rw (← c.self.view_is, ← c.as_slice-entries.ensures.value) (ap (option_map (λ (i : ℕ). view (get_or c.as_slice-entries.result.now i entry).1)) c.in-Some.ensures.number
    ∙ value_at-numbered c.args.key.now c.as_slice-entries.result.now entry)

pub returns-in-None : goal.returns-in-None
returns-in-None c =
    let entry : Pair = ([], datum.Null) in
    rw (← c.self.view_is, ← c.as_slice-entries.ensures.value) (ap (option_map (λ (i : ℕ). view (get_or c.as_slice-entries.result.now i entry).1)) c.in-None.ensures.number
    ∙ value_at-numbered c.args.key.now c.as_slice-entries.result.now entry)
