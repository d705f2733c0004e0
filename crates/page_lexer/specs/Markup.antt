-- Text, comments and doctypes: what a byte does in each state (HTML Standard, sections 13.2.5.1, 13.2.5.6, 13.2.5.7 and 13.2.5.41 to 13.2.5.53; of a doctype
-- only its end matters here). `here` is the place of the byte, and `next` the place behind it.
use Rattle.std.specs.Prelude.{ℕ, Bool, true, false, List, if◌then◌else◌}
use Rattle.place_core.specs.page.Comments.{Declaration, OpensComment, OpensDoctype, Undecided, OpensNothing, declared_by}
use Rattle.page_lexer.specs.Parts.{part}
use Rattle.page_lexer.specs.Reading.{goes_to, text_ended, markup_ended, tag_begun, comment_goes_on}
use Rattle.page_lexer.specs.declared.class.PageClass.{PageClass}
use Rattle.page_lexer.specs.declared.class.PageClass.TheVariants as class
use Rattle.page_lexer.specs.declared.state.CommentState.{CommentState}
use Rattle.page_lexer.specs.declared.state.CommentState.TheVariants as comment_at
use Rattle.page_lexer.specs.declared.state.Reading.{Reading}
use Rattle.page_lexer.specs.declared.state.Where.TheVariants as at
use Rattle.page_lexer.specs.declared.token.What.TheVariants as what

-- data state
abbrev pub text : PageClass → ℕ → Reading → Reading
text class.LessThan here r = record r { less = here; at = at.TagOpen }
text c here r = r

-- bogus comment state
abbrev pub bogus_comment : PageClass → ℕ → Reading → Reading
bogus_comment class.GreaterThan next r = markup_ended next what.Comment r
bogus_comment c next r = goes_to at.BogusComment r

-- tag open state
abbrev pub tag_open : PageClass → ℕ → ℕ → Reading → Reading
tag_open class.Letter here next r = tag_begun here false r
tag_open class.Solidus here next r = goes_to at.EndTagOpen r
tag_open class.ExclamationMark here next r = record (text_ended r) { name = next; at = at.DeclarationOpen }
tag_open class.QuestionMark here next r = goes_to at.BogusComment (text_ended r)
tag_open class.LessThan here next r = record r { less = here }
tag_open c here next r = goes_to at.Text r

-- end tag open state
abbrev pub end_tag_open : PageClass → ℕ → ℕ → Reading → Reading
end_tag_open class.Letter here next r = tag_begun here true r
end_tag_open c here next r = bogus_comment c next (text_ended r)

-- markup declaration open state, by what the bytes since `<!` open
abbrev pub declaration : Declaration → PageClass → ℕ → Reading → Reading
declaration OpensComment c next r = goes_to (at.Comment comment_at.Started) r
declaration OpensDoctype c next r = goes_to at.Doctype r
declaration Undecided c next r = r
declaration OpensNothing c next r = bogus_comment c next r

abbrev pub in_declaration_open : List ℕ → PageClass → ℕ → Reading → Reading
in_declaration_open page c next r = declaration (declared_by (part page r.name next)) c next r

-- whether a `>` ends a comment: after `<!--`, `<!---`, `--` and `--!`
abbrev pub ends_comment : CommentState → Bool
ends_comment comment_at.Inside = false
ends_comment comment_at.Dash = false
ends_comment s = true

-- comment states
abbrev pub comment : CommentState → PageClass → ℕ → Reading → Reading
comment s class.GreaterThan next r = if ends_comment s then markup_ended next what.Comment r else goes_to (at.Comment comment_at.Inside) r
comment s c next r = goes_to (at.Comment (comment_goes_on s c)) r

-- doctype states
abbrev pub doctype : PageClass → ℕ → Reading → Reading
doctype class.GreaterThan next r = markup_ended next what.Doctype r
doctype c next r = r
