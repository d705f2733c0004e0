-- What is written of a template's text in a script element reads as the text does: word by word, and comment by comment.
use Rattle.std.specs.Prelude.{◌≡◌, ℕ, Bool, true, false, codes, List, [], ◌∷◌}
use Rattle.js_lexer.specs.Alike.{IsSame}
use Rattle.js_lexer.specs.Events.{ScriptEvent}
use Rattle.js_lexer.specs.Feeding.{feed_script, script_emits, ScriptReading, read_on, point_of}
use Rattle.js_lexer.specs.Holes.{paged, as_page}
use Rattle.js_lexer.specs.PageScripts.{ScriptStandsLaws}
use Rattle.js_lexer.specs.States.{Code, Slash, LineComment, BlockComment, point, ScriptState}
use Rattle.js_lexer.specs.Written.{is_text, is_taken_at, with_escape}
use Rattle.js_lexer.specs.declared.sense.Sense.{Sense}

-- the reading of a page stands where that of the path does, and has told the same
pub record WrittenReadsAs (path page : ScriptReading) : Type 0 where
  pub same : IsSame path.state page.state
  pub told : page.told ≡ path.told

-- in the text of a token, not behind a backslash
pub record IsOpenText (s : ScriptState) : Type 0 where
  pub text : is_text s.at ≡ true
  pub free : is_taken_at s.at ≡ false

-- a slash here would begin a comment or be what this sense says
abbrev pub IsBeforeSlash : Sense → ScriptState → Type 0
IsBeforeSlash s v = point_of (feed_script v 47) ≡ point [] (Slash s)

-- The path is in a block comment, and the page behind a blank.
pub record IsBehindBlank (s : Sense) (path page : ScriptReading) : Type 0 where
  pub star : Bool
  pub comment : point_of path.state ≡ point [] (BlockComment s star)
  pub outside : page.state.literals ≡ []
  pub code : as_page page.state.at ≡ Code (paged s)
  pub held : page.state.held ≡ []
  pub told : page.told ≡ path.told

-- what is written for a comment without the end of a line in it (false), and with one; and the ends of lines
abbrev pub blank : Bool → List ℕ
blank false = codes " "
blank true = codes "\n"

abbrev pub line_end : Bool → List ℕ
line_end false = codes "\r"
line_end true = codes "\n"

-- - What both read alike keeps it (`bytes`).
-- - A `<` in the text of a token may be written `\x3C`, and so may a `\<`, whatever follows (`word`, `escaped`).
-- - A space or a line feed is written for a block comment: behind it the page stands as if the comment had ended there (`begins`), while the comment
--   goes on (`goes`), behind the blank of another part (`again`), and when it ends (`ends`).
-- - Nothing is written of a line comment: where its line ends, the page comes to where the path comes to (`line`).
-- - So a page to which each byte, word and end of a node is written stands for the path behind each of them (`stands`).
pub record ScriptWrittenLaws : Type 0 where
  pub bytes : (bs : List ℕ) (r p : ScriptReading) → WrittenReadsAs r p → WrittenReadsAs (read_on bs r) (read_on bs p)
  pub word : (bs : List ℕ) (r p : ScriptReading) → WrittenReadsAs r p → IsOpenText r.state → WrittenReadsAs (read_on (60 ∷ bs) r) (read_on (with_escape (60 ∷ bs)) p)
  pub escaped : (bs : List ℕ) (r p : ScriptReading) → WrittenReadsAs r p → IsOpenText r.state → WrittenReadsAs (read_on (92 ∷ 60 ∷ bs) r) (read_on (with_escape (60 ∷ bs)) p)
  pub begins : (line : Bool) (s : Sense) (r p : ScriptReading) → WrittenReadsAs r p → IsBeforeSlash s r.state → IsBehindBlank s (read_on (codes "/*") r) (read_on (blank line) p)
  pub goes : (s : Sense) (b : ℕ) (star : Bool) (r p : ScriptReading) → IsBehindBlank s r p → point_of (feed_script r.state b) ≡ point [] (BlockComment s star) → IsBehindBlank s (read_on (b ∷ []) r) p
  pub again : (line : Bool) (s : Sense) (r p : ScriptReading) → IsBehindBlank s r p → IsBehindBlank s r (read_on (blank line) p)
  pub ends : (s : Sense) (r p : ScriptReading) → IsBehindBlank s r p → point_of (feed_script r.state 47) ≡ point [] (Code s) → WrittenReadsAs (read_on (codes "/") r) p
  pub line : (line : Bool) (s : Sense) (r p q : ScriptReading) → WrittenReadsAs r p → IsBeforeSlash s r.state → point_of q.state ≡ point [] (LineComment s) → q.told ≡ script_emits r.state 47 r.told → WrittenReadsAs (read_on (line_end line) q) (read_on (line_end line) p)
  pub stands : ScriptStandsLaws ScriptEvent (λ e. e)
