use Rattle.std.proofs.Common.{codes}
use Rattle.page_http.specs.Fields.{values}
use Rattle.page_http.proofs.fields.known_after.Goals as goal

pub returns : goal.returns
returns c = λ all rest h. record {
  transfer_encoding =
      c.found_after.ensures (values (codes "transfer-encoding") all) (values (codes "transfer-encoding") rest) h.transfer_encoding;
  content_length =
      c.found_after-2.ensures (values (codes "content-length") all) (values (codes "content-length") rest) h.content_length;
  content_type =
      c.found_after-3.ensures (values (codes "content-type") all) (values (codes "content-type") rest) h.content_type;
  set_at_least =
      c.found_after-4.ensures (values (codes "set-at-least") all) (values (codes "set-at-least") rest) h.set_at_least;
}
