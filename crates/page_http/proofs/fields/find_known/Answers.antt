use Rattle.std.proofs.Common.{arith, ◌+◌, ℕ, List, map, drop, subst}
use Rattle.httparse.specs.Spans.{header_bytes}
use Rattle.page_http.specs.Fields.{KnownSoFar}
use Rattle.page_http.proofs.KnownFields.{next_field}
use Rattle.page_http.proofs.fields.find_known.Goals as goal

pub loop-header-preserved : goal.loop-header-preserved
loop-header-preserved c =
    let all = map (header_bytes c.args.buf.now) c.args.headers.now in
    let rest = map (header_bytes c.args.buf.now) (drop (c.loop-header.header-index + 1) c.args.headers.now) in
    let next =
    next_field c.args.buf.now c.args.headers.now c.loop-header.header-index record { name = record { start = 0; end = 0 }; value = record { start = 0; end = 0 } } _ _
    (omega (arith, c.loop-header-test.true)) c.of.ensures c.of-in-loop-header.ensures in
    c.known_after-known.ensures all rest
    (subst (λ (z : List (List ℕ × List ℕ)). KnownSoFar all z c.loop-header.known) next c.loop-header.invariant)
