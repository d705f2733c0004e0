use Rattle.std.proofs.Common.{sym, ap, ◌∙◌, ◌++◌, ℕ, List, string_bytes, encode_utf8}
use Rattle.esc_table.proofs.KeptRuns.{first_written}
use Rattle.esc_table.proofs.replacing.push_first.Goals as goal

pub returns-in_ok-push_written-in-Some-clause-written :
    goal.returns-in_ok-push_written-in-Some-clause-written
returns-in_ok-push_written-in-Some-clause-written g c =
    first_written c.args.table.now c.args.text.now c.as_str.result.now (string_bytes c.args.out.now) (string_bytes c.push_written.new.out) c.in-Some.character c.utf8.text
    (sym c.chars-characters.ensures.rest ∙ c.in-Some.ensures.steps.0 ∙ ap (λ (bytes : List ℕ). encode_utf8 c.in-Some.character ++ bytes) (sym c.as_str.ensures))
    c.in_ok-push_written-in-Some.ensures
