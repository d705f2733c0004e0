use Rattle.esc_table.specs.Kept.{is_kept_byte}
use Rattle.san_url.proofs.Runs.{run-ascii, run-found}
use Rattle.san_url.proofs.run.push_kept.Goals as goal

pub push_run-requires-clause-ascii : goal.push_run-requires-clause-ascii
push_run-requires-clause-ascii c =
    let p = is_kept_byte c.args.table.now in
    run-ascii p c.args.text.now c.args.start _ (run-found p c.as_bytes.result.now c.args.text.now c.args.start c.run_len.result c.as_bytes.ensures.value c.run_len.ensures.len) c.requires.ascii (λ i. (c.type_inv.text i).fits)
