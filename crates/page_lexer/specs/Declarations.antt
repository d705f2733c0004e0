-- What bytes after `<!` open, as the code has it.
use Rattle.place_core.specs.page.Comments.{Declaration, OpensComment, OpensDoctype, Undecided, OpensNothing}
use Rattle.page_lexer.specs.declared.declaration.PageDeclaration.{PageDeclaration as Declared}
use Rattle.page_lexer.specs.declared.declaration.PageDeclaration.TheVariants as declared

abbrev pub page_declaration_at : Declared → Declaration
page_declaration_at declared.Comment = OpensComment
page_declaration_at declared.Doctype = OpensDoctype
page_declaration_at declared.Undecided = Undecided
page_declaration_at declared.Nothing = OpensNothing
