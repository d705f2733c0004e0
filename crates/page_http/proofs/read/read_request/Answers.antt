use Rattle.std.proofs.Common.{rules, arith, inl}
use Rattle.page_http.specs.Requests.{long}
use Rattle.page_http.proofs.Heads.{part_of, many_of, malformed_of}
use Rattle.page_http.proofs.read.read_request.Goals as goal

pub returns-then-bytes-lt-MAX_HEAD-clause-answers : goal.returns-then-bytes-lt-MAX_HEAD-clause-answers
returns-then-bytes-lt-MAX_HEAD-clause-answers c =
    inl (
      part_of _ _ c.head_part-front.ensures (rw c.in-Ok-Partial.field-0-is at c.in-Ok-Partial.ensures.partial)
          (rw c.in-Ok-Partial.field-0-is at c.in-Ok-Partial.ensures.unfinished),
      omega (arith, c.if-bytes-lt-MAX_HEAD.true),
    )

pub returns-else-bytes-lt-MAX_HEAD-clause-answers : goal.returns-else-bytes-lt-MAX_HEAD-clause-answers
returns-else-bytes-lt-MAX_HEAD-clause-answers c =
    long (omega (arith, c.if-bytes-lt-MAX_HEAD.false)) (part_of _ _ c.head_part-front.ensures
    (rw c.in-Ok-Partial.field-0-is at c.in-Ok-Partial.ensures.partial)
    (rw c.in-Ok-Partial.field-0-is at c.in-Ok-Partial.ensures.unfinished))

pub returns-in-Err-TooManyHeaders-clause-answers : goal.returns-in-Err-TooManyHeaders-clause-answers
returns-in-Err-TooManyHeaders-clause-answers c =
    many_of _ _ c.head_part-front.ensures c.in-Err-TooManyHeaders.ensures.no_room
    (c.in-Err-TooManyHeaders.ensures.too_many (search rules))

pub returns-in-Err-clause-answers : goal.returns-in-Err-clause-answers
returns-in-Err-clause-answers c = malformed_of _ _ c.head_part-front.ensures (c.in-Err.ensures.invalid (search rules))
