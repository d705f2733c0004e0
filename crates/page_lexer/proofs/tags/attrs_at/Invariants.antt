use Rattle.std.proofs.Common.{◌≡◌, ◌++◌, drop}
use Rattle.page_lexer.specs.Tags.{attrs_at as attrs_of}
use Rattle.page_lexer.proofs.tags.attrs_at.Given as goal

abbrev pub invariant-loop-place : goal.invariant-loop-place
invariant-loop-place l = l.attrs ++ attrs_of l.page l.element (drop l.place-index l.places) ≡ attrs_of l.fn.page l.fn.element l.fn.places
