-- Where the text of a template is refused in a script. A page refuses nothing.
use Rattle.std.specs.Prelude.{ℕ, ◌||◌, ◌&&◌, nat_lt, nat_eq, not, Bool, true, false, bytes_eq, codes, List, [], ◌∷◌, length, Option, Some, None, if◌then◌else◌}
use Rattle.std.specs.List.{list_any, starts_with}
use Rattle.js_lexer.specs.Classes.{class_of}
use Rattle.js_lexer.specs.Feeding.{tells_white_apart, read_at}
use Rattle.js_lexer.specs.States.{At, Code, Word, Number, Pluses, Minuses, Slash, BlockComment, InString, InRegexp, TooDeep, Trail, ScriptState}
use Rattle.js_lexer.specs.Steps.{is_word, is_number, is_taken_in_string}
use Rattle.js_lexer.specs.Trails.{is_empty, markup_after}
use Rattle.js_lexer.specs.WhiteSpace.{ClassedByte}
use Rattle.js_lexer.specs.declared.class.ScriptClass.{ScriptClass}
use Rattle.js_lexer.specs.declared.class.ScriptClass.TheVariants as class
use Rattle.js_lexer.specs.declared.sense.Sense.TheVariants as sense

-- named as the printed codes
pub data Refusal : Type 0 where
  PartialCharset : Refusal
  PartialEscape : Refusal
  SlashAmbig : Refusal
  JSTemplate : Refusal
  SplitToken : Refusal
  BadString : Refusal
  HtmlInScript : Refusal

-- A cause stands that many bytes before the byte at hand, or before the end (`back`); the place that is shown for it is the one before the lexeme
-- in which it stands, which begins so many bytes before (`shown`). The bytes are those that the script is fed.
pub record Cause : Type 0 where
  pub refusal : Refusal
  pub back : ℕ
  pub shown : ℕ

abbrev pub cause : Refusal → ℕ → ℕ → Option Cause
cause r back shown = Some (record { refusal = r; back = back; shown = shown })

abbrev pub first_script_cause : Option Cause → Option Cause → Option Cause
first_script_cause (Some e) o = Some e
first_script_cause None o = o

-- A node's first character that would go on with what the node before ended in: a word, a number, a run, a slash, `<`, `#`, the `*` of a comment.
abbrev pub splits_markup : List ℕ → ScriptClass → Bool
splits_markup m class.Solidus = bytes_eq m (codes "<")
splits_markup m class.ExclamationMark = bytes_eq m (codes "<") || bytes_eq m (codes "#")
splits_markup m c = false

abbrev pub splits : At → List ℕ → ScriptClass → Bool
splits (Word w) m c = is_word c
splits Number m c = is_number c
splits (Pluses odd) m class.Plus = true
splits (Minuses odd) m class.Minus = true
splits (Minuses odd) m class.GreaterThan = true
splits (Slash s) m class.Solidus = true
splits (Slash s) m class.Asterisk = true
splits (BlockComment s true) m class.Solidus = true
splits (Code s) m c = splits_markup m c
splits a m c = false

-- the first character that the byte releases
abbrev pub splits_first : At → List ℕ → List ClassedByte → Bool
splits_first a m [] = false
splits_first a m (x ∷ xs) = splits a m x.class

abbrev pub split_refusal : ScriptState → ScriptClass → ℕ → Option Cause
split_refusal s c b =
    if s.trail.fresh && splits_first s.at s.trail.markup (read_at (tells_white_apart s.at) s.held c b) then cause SplitToken (length s.held) (length s.held)
    else None

-- a slash after `}` that begins no comment: it is known at the byte behind it
abbrev pub slash_refusal : At → ScriptClass → Option Cause
slash_refusal (Slash sense.Brace) class.Solidus = None
slash_refusal (Slash sense.Brace) class.Asterisk = None
slash_refusal (Slash sense.Brace) c = cause SlashAmbig 1 1
slash_refusal a c = None

-- the end of a line in a string or a regular expression
abbrev pub unless_taken : Bool → ScriptClass → Option Cause
unless_taken false class.LineEnd = cause BadString 0 0
unless_taken taken c = None

abbrev pub line_refusal : At → ScriptClass → ℕ → Option Cause
line_refusal (InString q e) c b = unless_taken (is_taken_in_string e b) c
line_refusal (InRegexp k e) c b = unless_taken false c
line_refusal (Slash sense.Re) c b = unless_taken false c
line_refusal a c b = None

-- What HTML or an old browser reads in a script. In code, `<!--`, `-->` and `#!`. In a template literal of a script element, `<!--`, `<script` and
-- `</script` whose `<` stands in the literal's code or in a comment of it: shown is the place before the outermost literal.
abbrev pub is_one_of : List (List ℕ) → List ℕ → Bool
is_one_of words bytes = list_any (bytes_eq bytes) words

abbrev pub markup_refusal : ScriptState → ℕ → Option Cause
markup_refusal s b =
    if is_one_of (codes "<!--" ∷ codes "-->" ∷ codes "#!" ∷ []) (markup_after false s.at s.trail.markup b)
    then cause HtmlInScript (length s.trail.markup) (length s.trail.markup)
    else None

abbrev pub inner_markup_refusal : Bool → ScriptState → ℕ → Option Cause
inner_markup_refusal element s b =
    if element && is_one_of (codes "<!--" ∷ codes "<script" ∷ codes "</script" ∷ []) (markup_after true s.at s.trail.markup b)
    then cause HtmlInScript (length s.trail.markup) s.trail.literal
    else None

-- Inside a template literal nothing else is refused at a byte.
abbrev pub refusal_outside : List ℕ → Bool → ScriptState → ScriptClass → ℕ → Option Cause
refusal_outside [] element s c b =
    first_script_cause (slash_refusal s.at c) (first_script_cause (line_refusal s.at c b) (markup_refusal s b))
refusal_outside (n ∷ fs) element s c b = inner_markup_refusal element s b

-- A byte in a state. The first argument says whether the script is an element's (true) or a value's (false).
abbrev pub script_refuses_class : Bool → ScriptState → ScriptClass → ℕ → Option Cause
script_refuses_class element s c b = first_script_cause (split_refusal s c b) (refusal_outside s.literals element s c b)

abbrev pub script_refuses : Bool → ScriptState → ℕ → Option Cause
script_refuses element s b = script_refuses_class element s (class_of b) b

-- The end of a node.
abbrev pub within_escape : Trail → Bool
within_escape t = nat_lt 0 t.brace || not (is_empty t.escape)

abbrev pub escape_refusal : Trail → Option Cause
escape_refusal t =
    if nat_lt 0 t.brace then cause PartialEscape 0 t.brace
    else (if is_empty t.escape then None
    else cause PartialEscape 0 (length t.escape))

-- `<!`, `<!-`, `</` and a prefix of `script`, the empty one and the whole word too
abbrev pub is_cut_markup : List ℕ → Bool
is_cut_markup m = bytes_eq m (codes "<!") || (bytes_eq m (codes "<!-") || starts_with nat_eq m (codes "</"))

abbrev pub cut_markup_refusal : Trail → Option Cause
cut_markup_refusal t = if is_cut_markup t.markup then cause SplitToken 0 (length t.markup) else None

abbrev pub cut_refusal_at : At → Trail → Option Cause
cut_refusal_at (Slash sense.Brace) t = cause SlashAmbig 1 1
cut_refusal_at (InString q e) t = escape_refusal t
cut_refusal_at (InRegexp true e) t = cause PartialCharset 0 t.bracket
cut_refusal_at (InRegexp false e) t = first_script_cause (escape_refusal t) (cut_markup_refusal t)
cut_refusal_at a t = cut_markup_refusal t

abbrev pub whole_cut_refusal : List ℕ → At → Trail → Option Cause
whole_cut_refusal fs a t = if is_empty fs then cut_refusal_at a t else cause JSTemplate 0 t.literal

-- No node in UTF-8 ends where bytes are held back, so one that does is refused.
abbrev pub unless_in_character : List ℕ → Option Cause → Option Cause
unless_in_character [] o = o
unless_in_character (b ∷ bs) o = cause SplitToken 0 (length (b ∷ bs))

abbrev pub script_refuses_cut : ScriptState → Option Cause
script_refuses_cut s = unless_in_character s.held (whole_cut_refusal s.literals s.at s.trail)

-- The end of a value that ends in its node: a slash after `}`, outside of literals, and literals that nest too deep. The latter is refused at the
-- node's end.
abbrev pub end_refusal_at : List ℕ → At → Trail → Option Cause
end_refusal_at [] (Slash sense.Brace) t = cause SlashAmbig 1 1
end_refusal_at fs TooDeep t = cause JSTemplate 0 t.literal
end_refusal_at fs a t = None

abbrev pub refuses_end : ScriptState → Option Cause
refuses_end s = end_refusal_at s.literals s.at s.trail
