use Rattle.std.proofs.Common.{arith, sym}
use Rattle.std.proofs.lemmas.List.{take_all}
use Rattle.page_http.proofs.read.head_part.Goals as goal

pub returns-then-bytes-le-MAX_HEAD : goal.returns-then-bytes-le-MAX_HEAD
returns-then-bytes-le-MAX_HEAD c = sym (take_all 16384 c.args.bytes.now (omega (arith, c.if-bytes-le-MAX_HEAD.true)))
