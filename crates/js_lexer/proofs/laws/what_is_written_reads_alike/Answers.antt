use Rattle.js_lexer.proofs.WordsStand.{script-stands}
use Rattle.js_lexer.proofs.WrittenKeeps.{again-as, begins-as, bytes-read, comment-ends, comment-goes, escaped-reads, line-as, word-reads}
use Rattle.js_lexer.proofs.laws.what_is_written_reads_alike.Goals as goal

pub returns : goal.returns
returns c = record {
  bytes = bytes-read;
  word = word-reads;
  escaped = escaped-reads;
  begins = begins-as;
  goes = comment-goes;
  again = again-as;
  ends = comment-ends;
  line = line-as;
  stands = script-stands (λ e. e);
}
