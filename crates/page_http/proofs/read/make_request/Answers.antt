use Rattle.std.proofs.Common.{rules, ◌∙◌}
use Rattle.page_http.proofs.KnownFields.{least_of, kind_of}
use Rattle.page_http.proofs.read.make_request.Goals as goal

pub returns-clause-says : goal.returns-clause-says
returns-clause-says c = record {
  method_is = search rules;
  path = search rules;
  query = search rules;
  at_least = c.at_least.ensures ∙ least_of _ _ c.requires.known.set_at_least;
  body_kind = c.body_kind.ensures ∙ kind_of _ _ c.requires.known.content_type;
  close = search rules;
}
