use Rattle.std.proofs.Common.{rules, sym}
use Rattle.std.proofs.lemmas.Fn.{always_returns_same}
use Rattle.page_io.proofs.Ascending.{cmp, comparisons_rise, key_number-found, key_number-absent}
use Rattle.page_io.proofs.keys.number_of_key.Goals as goal

pub returns-in-Ok-clause-number : goal.returns-in-Ok-clause-number
returns-in-Ok-clause-number g c =
    let at_key = c.in-Ok.ensures.position (λ e. cmp e.0 c.args.key.now) (always_returns_same _ _ _ (λ a r g called. search rules)) in
    sym (key_number-found c.args.key.now c.args.entries.now c.in-Ok.at c.requires c.in-Ok.ensures.bound at_key)

pub returns-in-Err-clause-number : goal.returns-in-Err-clause-number
returns-in-Err-clause-number g c =
    let parted = c.in-Err.ensures.position (λ e. cmp e.0 c.args.key.now) (always_returns_same _ _ _ (λ a r g called. search rules)) in
    sym (key_number-absent c.args.key.now c.args.entries.now c.in-Err.field-0 (parted (comparisons_rise c.args.key.now c.args.entries.now c.requires)))
