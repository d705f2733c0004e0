use Rattle.std.proofs.Common.{◌≡◌, drop, map, codes}
use Rattle.std.specs.List.{list_any}
use Rattle.httparse.specs.Spans.{header_bytes}
use Rattle.page_http.specs.Fields.{values}
use Rattle.page_http.specs.Closing.{lists_close}
use Rattle.page_http.proofs.connection.asks_close.Given as goal

abbrev pub invariant-loop-header : goal.invariant-loop-header
invariant-loop-header l =
    list_any lists_close (values (codes "connection") (map (header_bytes l.buf) (drop l.header-index l.headers)))
    ≡ list_any lists_close (values (codes "connection") (map (header_bytes l.buf) l.headers))
