use Rattle.std.proofs.Common.{drop, map}
use Rattle.httparse.specs.Spans.{header_bytes}
use Rattle.page_http.specs.Fields.{KnownSoFar}
use Rattle.page_http.proofs.fields.find_known.Given as goal

abbrev pub invariant-loop-header : goal.invariant-loop-header
invariant-loop-header l =
    KnownSoFar (map (header_bytes l.buf) l.headers) (map (header_bytes l.buf) (drop l.header-index l.headers)) l.known
