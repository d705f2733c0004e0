use Rattle.std.proofs.Common.{◌≡◌, ◌++◌, subst, ℕ, List, IfOk, string_bytes, arith}
use Rattle.esc_table.specs.Replaced.{replaced}
use Rattle.esc_table.proofs.KeptRuns.{cut_behind, run_by, run_written}
use Rattle.esc_table.proofs.replacing.push_run.Goals as goal

pub split_at-requires : goal.split_at-requires
split_at-requires g c =
    let run = run_by c.args.table.now c.args.kept.now c.as_bytes.result.now c.args.text.now c.run_len.result c.run_len.ensures.len c.as_bytes.ensures.value c.requires.kept in
    cut_behind c.args.table.now c.args.text.now c.run_len.result run (omega (arith, c.run_len.ensures.bound, c.as_bytes.ensures.len))

pub returns-clause-written : goal.returns-clause-written
returns-clause-written g c =
    let run = run_by c.args.table.now c.args.kept.now c.as_bytes.result.now c.args.text.now c.run_len.result c.run_len.ensures.len c.as_bytes.ensures.value c.requires.kept in
    let whole = run_written c.args.table.now c.args.text.now c.run_len.result (string_bytes c.args.out.now) c.split_at.result.0.now c.split_at.result.1.now (string_bytes c.push_str.new.self) c.utf8.text run (omega (arith, c.run_len.ensures.bound, c.as_bytes.ensures.len)) c.split_at.ensures.front c.split_at.ensures.back c.in_ok-push_str.ensures.bytes in
    subst (λ (total : List ℕ). IfOk c.push_first.result (λ rest. string_bytes c.push_first.new.out ++ replaced c.args.table.now rest.now ≡ total)) whole c.push_first.ensures.written
