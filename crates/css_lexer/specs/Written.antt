-- What is written of a style in the element `style`: no comment of a template.
use Rattle.std.specs.Prelude.{ℕ, List, [], ◌∷◌, ◌++◌}
use Rattle.css_lexer.specs.Classes.{style_class}
use Rattle.css_lexer.specs.Escapes.{StyleEscape, AfterBackslash}
use Rattle.css_lexer.specs.States.{Outside, Between, AfterLessThan, Word, AfterSolidus, Comment, InString, BadUrl, BehindHole, SplitWord, SolidusAtCut, LessThanAtCut, StarAtCut, Style, Out, InUrl}
use Rattle.css_lexer.specs.Steps.{style_next, feed_style}
use Rattle.css_lexer.specs.UrlReading.{UrlReading}
use Rattle.css_lexer.specs.declared.class.StyleClass.{StyleClass}
use Rattle.css_lexer.specs.declared.class.StyleClass.TheVariants as class

-- What is written of the text of a node of the element: the text, but the part of a comment that stands in the node is one space. A `/`
-- is written when it is known to begin no comment. So what a byte writes depends on the states before and behind it.
abbrev pub written_byte : StyleClass → ℕ → List ℕ
written_byte class.Solidus b = []
written_byte c b = b ∷ []

abbrev pub written_behind_solidus : StyleClass → ℕ → List ℕ
written_behind_solidus class.Asterisk b = []
written_behind_solidus c b = 47 ∷ written_byte c b

-- the last byte of a comment writes the space of its part
abbrev pub written_in_comment : {U : Type 0} → Style U → List ℕ
written_in_comment (Out (Between k)) = 32 ∷ []
written_in_comment s = []

-- in a word, a byte that a backslash takes is written as it is
abbrev pub written_in_word : StyleEscape → StyleClass → ℕ → List ℕ
written_in_word AfterBackslash c b = b ∷ []
written_in_word e c b = written_byte c b

abbrev pub written_outside : {U : Type 0} → Outside → Style U → StyleClass → ℕ → List ℕ
written_outside (Between k) after c b = written_byte c b
written_outside AfterLessThan after c b = written_byte c b
written_outside (Word w e) after c b = written_in_word e c b
written_outside (AfterSolidus k) after c b = written_behind_solidus c b
written_outside (Comment star) after c b = written_in_comment after
written_outside (InString q e) after c b = b ∷ []
written_outside BadUrl after c b = b ∷ []
written_outside (BehindHole solidus less) after c b = written_byte c b
written_outside (SplitWord e) after c b = written_in_word e c b
written_outside (SolidusAtCut k) after c b = written_byte c b
written_outside LessThanAtCut after c b = written_byte c b
written_outside StarAtCut after c b = written_in_comment after

abbrev pub written_class : {U E : Type 0} → UrlReading U E → Style U → StyleClass → ℕ → List ℕ
written_class x (Out s) c b = written_outside s (style_next x (Out s) c b) c b
written_class x (InUrl f u) c b = b ∷ []

abbrev pub style_written : {U E : Type 0} → UrlReading U E → Style U → ℕ → List ℕ
style_written x s b = written_class x s (style_class b) b

-- the end of the node, or of the element: what waits is written, and the space of a comment that is open
abbrev pub style_written_at_cut : {U : Type 0} → Style U → List ℕ
style_written_at_cut (Out (AfterSolidus k)) = 47 ∷ []
style_written_at_cut (Out (Comment star)) = 32 ∷ []
style_written_at_cut (Out StarAtCut) = 32 ∷ []
style_written_at_cut s = []

abbrev pub style_written_text : {U E : Type 0} → UrlReading U E → Style U → List ℕ → List ℕ
style_written_text x s [] = style_written_at_cut s
style_written_text x s (b ∷ bs) = style_written x s b ++ style_written_text x (feed_style x s b) bs
