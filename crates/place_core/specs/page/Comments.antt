-- Comments, doctypes, and what begins them (HTML Standard, sections 13.2.5.41 to 13.2.5.53; of a doctype only its end matters here).
use Rattle.std.specs.Prelude.{ℕ, Bool, true, false, ◌||◌, codes, bytes_eq, nat_eq, List, ◌∷◌, if◌then◌else◌}
use Rattle.std.specs.List.{starts_with}
use Rattle.std.specs.Str.{str_to_ascii_lowercase}
use Rattle.place_core.specs.page.Classes.{Class, ExclamationMark, HyphenMinus, GreaterThan}
use Rattle.place_core.specs.page.Events.{LexEvent, DoctypeByte, DoctypeEnds}
use Rattle.place_core.specs.page.References.{Closed}
use Rattle.place_core.specs.page.States.{LexState, Text, InComment, BogusComment, InDoctype, CommentState, Started, StartedDash, Inside, Dash, DashDash, Bang, Broken}

-- what bytes after `<!` open: a comment, a doctype in any case, what may still become one of these, or neither
pub data Declaration : Type 0 where
  OpensComment : Declaration
  OpensDoctype : Declaration
  Undecided : Declaration
  OpensNothing : Declaration

abbrev pub declared_by : List ℕ → Declaration
declared_by bytes =
    if bytes_eq bytes (codes "--") then OpensComment
    else (if bytes_eq (str_to_ascii_lowercase bytes) (codes "doctype") then OpensDoctype
    else (if starts_with nat_eq (codes "--") bytes || starts_with nat_eq (codes "doctype") (str_to_ascii_lowercase bytes) then Undecided
    else OpensNothing))

-- a byte that is read as in the comment state
abbrev pub next_inside : Class → CommentState
next_inside HyphenMinus = Dash
next_inside c = Inside

-- a byte in each state; a `>`, which may end the comment, is not looked at here
abbrev pub next_comment : CommentState → Class → CommentState
next_comment Started HyphenMinus = StartedDash
next_comment StartedDash HyphenMinus = DashDash
next_comment Dash HyphenMinus = DashDash
next_comment DashDash HyphenMinus = DashDash
next_comment DashDash ExclamationMark = Bang
next_comment s c = next_inside c

-- whether a `>` ends the comment: after `<!--`, `<!---`, `--` and `--!`
abbrev pub closes_comment : CommentState → Bool
closes_comment Inside = false
closes_comment Dash = false
closes_comment Broken = false
closes_comment s = true

-- the state after a byte, and where a `>` stands
abbrev pub comment_ended : {B : Type 0} → Bool → LexState B
comment_ended true = Text Closed
comment_ended false = InComment Inside

abbrev pub next_in_comment : {B : Type 0} → Class → CommentState → LexState B
next_in_comment GreaterThan s = comment_ended (closes_comment s)
next_in_comment c s = InComment (next_comment s c)

-- what a page reads as a comment up to `>`
abbrev pub next_in_bogus : {B : Type 0} → Class → LexState B
next_in_bogus GreaterThan = Text Closed
next_in_bogus c = BogusComment

-- a doctype, up to `>`
abbrev pub next_in_doctype : {B : Type 0} → Class → LexState B
next_in_doctype GreaterThan = Text Closed
next_in_doctype c = InDoctype

abbrev pub emits_doctype : Class → ℕ → List LexEvent → List LexEvent
emits_doctype GreaterThan b t = DoctypeEnds ∷ t
emits_doctype c b t = DoctypeByte b ∷ t

-- a node's end in a comment: what may stand before its end is broken off
abbrev pub comment_broken_off : CommentState → CommentState
comment_broken_off Inside = Inside
comment_broken_off s = Broken
