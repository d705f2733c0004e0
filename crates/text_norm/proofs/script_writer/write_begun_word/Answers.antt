use Rattle.std.proofs.Common.{arith}
use Rattle.std.proofs.lemmas.Str.{IsCharBoundary-after_ascii}
use Rattle.text_norm.proofs.script_writer.write_begun_word.Goals as goal

pub push_run-requires-2-clause-from : goal.push_run-requires-2-clause-from
push_run-requires-2-clause-from c = IsCharBoundary-after_ascii c.args.text.now c.args.from c.utf8.text c.requires.inside (omega (arith, c.requires.less))
