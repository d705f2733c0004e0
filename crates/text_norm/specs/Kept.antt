-- What is pending back of a text that has been read to a scan state, and what becomes of it at a byte.
use Rattle.std.specs.Prelude.{ℕ, nat_lt, ◌+◌, ◌-◌, ◌≤◌, ◌||◌, if◌then◌else◌, Bool, true, false, ◌≡◌, codes, List, [], ◌++◌, length, get_or, Option, IfSome, IsSomeAnd, ◌⊎◌}
use Rattle.std.specs.Char.{is_ascii_alphabetic}
use Rattle.std.specs.List.{list_all}
use Rattle.std.specs.Str.{IsCharBoundary}
use Rattle.css_step.specs.StyleScans.{StyleScan, ScanSolidus, ScanComment, ScanStarBefore}
use Rattle.js_lexer.specs.States.{ScriptState}
use Rattle.js_lexer.specs.Written.{is_block, is_line, is_outside, waiting_slash}
use Rattle.js_step.specs.ScriptScans.{script_scan_start, script_shared}
use Rattle.place_core.specs.page.Classes.{Class, Ampersand, class_of}
use Rattle.place_core.specs.page.Contents.{pending_bytes}
use Rattle.place_core.specs.page.References.{Reference, Closed, as_it_stands, next_reference}
use Rattle.place_core.specs.page.States.{Pending, Nothing, PendingLess, PendingName}
use Rattle.place_core.specs.declared.css.Css.TheVariants as css
use Rattle.place_core.specs.declared.element.Element.{Element}
use Rattle.place_core.specs.declared.js.Js.{Js}
use Rattle.place_core.specs.declared.element.Element.TheVariants as element
use Rattle.place_core.specs.declared.place.Place.{Place}
use Rattle.place_core.specs.declared.place.Place.TheVariants as place
use Rattle.html_scan.specs.Scans.{Scan, At, AfterLess, AfterLessSolidus, InDeclaration, InTagName, InAttributeName, InCommentEnd, InContentEnd, InStyleElement, InScriptElement, InUrl, InStyle, InScript, BeforeType, InType, scan_next}
use Rattle.html_scan.specs.ScanViews.{scan_at, pending_from}
use Rattle.html_scan.specs.Slices.{pending}
use Rattle.text_norm.specs.Scanned.{rcdata_open, scan_open, scan_out}
use Rattle.text_norm.specs.ReferenceViews.{reference_view}
use Rattle.text_norm.specs.declared.pending.Change.{Change}
use Rattle.text_norm.specs.declared.pending.Change.TheVariants as change
use Rattle.text_norm.specs.declared.pending.Ending.{Ending}
use Rattle.text_norm.specs.declared.pending.Ending.TheVariants as ending
use Rattle.text_norm.specs.declared.reference.Opened.{Opened}
use Rattle.text_norm.specs.declared.pending.WriteProgress.{WriteProgress}

-- the bytes from a `<` on that may be no tag; in a data block none are pending back from a page
abbrev pub less_pending : Pending → List ℕ
less_pending Nothing = []
less_pending PendingLess = codes "<"
less_pending (PendingName letters) = codes "</" ++ letters
less_pending h = []

abbrev pub content_less : Element → Pending → List ℕ
content_less element.DataBlock h = []
content_less e h = less_pending h

-- in a style, a `/` that may begin a comment, and then what may be its end tag
abbrev pub solidus_kept : StyleScan → List ℕ
solidus_kept ScanSolidus = codes "/"
solidus_kept s = []

-- In a script, a slash that may begin a comment; in a line comment what may be the end of the line; and then what may be its end tag, or a word of a token.
abbrev pub held_in_line : ScriptState → List ℕ
held_in_line s = if is_outside is_line s then s.held else []

abbrev pub script_kept : ScriptState → Pending → List ℕ
script_kept s h = waiting_slash s ++ (held_in_line s ++ pending_bytes h)

abbrev pub less_kept : Scan → List ℕ
less_kept (At p) = []
less_kept AfterLess = codes "<"
less_kept AfterLessSolidus = codes "</"
less_kept (InDeclaration pending) = codes "<!" ++ pending
less_kept (InTagName ends name) = []
less_kept (InAttributeName t typed name) = []
less_kept (InCommentEnd s) = []
less_kept (InContentEnd e h) = content_less e h
less_kept (InStyleElement s h) = solidus_kept s ++ pending_bytes h
less_kept (InScriptElement n h) = script_kept (script_shared n) h
less_kept (InUrl v t z) = []
less_kept (InStyle v s z) = []
less_kept (InScript v n z) = []
less_kept (BeforeType t) = []
less_kept (InType t q v z) = []

-- whether a reference may be open
abbrev pub rcdata_bears : Element → Bool
rcdata_bears element.DataBlock = false
rcdata_bears e = true

abbrev pub place_bears : Place → Bool
place_bears place.Text = true
place_bears (place.Rcdata e) = rcdata_bears e
place_bears (place.Value v) = true
place_bears p = false

abbrev pub bears : Scan → Bool
bears (At p) = place_bears p
bears AfterLess = true
bears AfterLessSolidus = true
bears (InDeclaration pending) = true
bears (InUrl v t z) = true
bears (InStyle v s z) = true
bears (InScript v n z) = true
bears (BeforeType t) = true
bears (InType t q v z) = true
bears f = false

-- in a comment of a style
abbrev pub is_style_comment : StyleScan → Bool
is_style_comment (ScanComment star) = true
is_style_comment ScanStarBefore = true
is_style_comment s = false

abbrev pub style_place_comment : Place → Bool
style_place_comment (place.Style (css.Comment star)) = true
style_place_comment p = false

abbrev pub in_style_comment : Scan → Bool
in_style_comment (At p) = style_place_comment p
in_style_comment (InStyleElement s h) = is_style_comment s
in_style_comment f = false

-- in a comment of a script
abbrev pub is_script_comment : ScriptState → Bool
is_script_comment s = is_outside is_line s || is_outside is_block s

abbrev pub script_place_comment : Js → Bool
script_place_comment j = is_script_comment (script_shared (script_scan_start j))

-- In a comment no byte is free, and nothing is pending back; but in one of a style what may be its end tag is, and in one of a script that too, and what may
-- end its line.
abbrev pub place_hides : Place → Bool
place_hides (place.Comment dash) = true
place_hides (place.Script j) = script_place_comment j
place_hides p = style_place_comment p

abbrev pub loose_hides : Pending → StyleScan → Bool
loose_hides Nothing s = is_style_comment s
loose_hides h s = false

abbrev pub hides : Scan → Bool
hides (At p) = place_hides p
hides (InCommentEnd s) = true
hides (InStyleElement s h) = loose_hides h s
hides (InScriptElement n h) = is_script_comment (script_shared n)
hides f = false

-- in a script in its element
abbrev pub is_in_script : Scan → Bool
is_in_script (At (place.Script j)) = true
is_in_script (InScriptElement n h) = true
is_in_script f = false

-- the letters of what may be the end tag of a style
abbrev pub end_letters : Scan → List ℕ
end_letters (InStyleElement s (PendingName letters)) = letters
end_letters f = []

-- what a byte does, by the scan states before and after it
abbrev pub less_change : Scan → Change
less_change (At place.Text) = change.EscapesLess
less_change AfterLess = change.EscapesLess
less_change (InCommentEnd s) = change.OpensComment
less_change g = change.Keeps

abbrev pub content_change : Scan → Change
content_change (At (place.Rcdata e)) = change.EscapesLess
content_change (InContentEnd e PendingLess) = change.EscapesLess
content_change g = change.Keeps

abbrev pub content_end_change : Element → Scan → Change
content_end_change element.DataBlock g = change.Keeps
content_end_change e g = content_change g

-- in a style: by whether the bytes before the one at hand, and those behind it, are in a comment
abbrev pub comment_change : (before after : Bool) → Change
comment_change true true = change.LeavesOut
comment_change true false = change.EndsStyleComment
comment_change false true = change.OpensStyleComment
comment_change false false = change.Keeps

abbrev pub end_tag_change : (before : Bool) → Change
end_tag_change true = change.EndsInStyleComment
end_tag_change false = change.Keeps

abbrev pub may_end_change : (before : Bool) → Change
may_end_change true = change.LeavesPending
may_end_change false = change.Keeps

abbrev pub style_place_change : Bool → Place → Change
style_place_change before (place.Style p) = comment_change before (style_place_comment (place.Style p))
style_place_change before p = end_tag_change before

abbrev pub style_change : Bool → Scan → Change
style_change before (At p) = style_place_change before p
style_change before (InStyleElement s Nothing) = comment_change before (is_style_comment s)
style_change before (InStyleElement s PendingLess) = may_end_change before
style_change before (InStyleElement s h) = change.Keeps
style_change before g = end_tag_change before

abbrev pub change_of : Scan → Scan → Change
change_of (At (place.Comment dash)) g = change.LeavesOut
change_of (At (place.Script j)) g = change.InScript
change_of (At (place.Style p)) g = style_change (style_place_comment (place.Style p)) g
change_of (InScriptElement n h) g = change.InScript
change_of (InStyleElement s h) g = style_change (is_style_comment s) g
change_of (InCommentEnd s) g = change.LeavesOut
change_of AfterLess g = less_change g
change_of AfterLessSolidus g = less_change g
change_of (InDeclaration pending) g = less_change g
change_of (InContentEnd e h) g = content_end_change e g
change_of f g = change.Keeps

-- where a text ends
abbrev pub pending_ending : Pending → Ending
pending_ending PendingLess = ending.BehindLess
pending_ending (PendingName letters) = ending.BehindLess
pending_ending h = ending.Loose

abbrev pub content_ending : Element → Pending → Ending
content_ending element.DataBlock h = ending.Loose
content_ending e h = pending_ending h

abbrev pub style_ending : Bool → Ending
style_ending true = ending.InStyleComment
style_ending false = ending.InStyle

abbrev pub ending_of : Scan → Ending
ending_of (At (place.Comment dash)) = ending.InComment
ending_of (At (place.Script j)) = ending.InScript
ending_of (At (place.Style p)) = style_ending (style_place_comment (place.Style p))
ending_of (InScriptElement n h) = ending.InScript
ending_of (InStyleElement s h) = style_ending (is_style_comment s)
ending_of (InCommentEnd s) = ending.InComment
ending_of AfterLess = ending.BehindLess
ending_of AfterLessSolidus = ending.BehindLess
ending_of (InDeclaration pending) = ending.BehindLess
ending_of (InContentEnd e h) = content_ending e h
ending_of f = ending.Loose

-- whether an open reference is pending back as it is, with the bytes after it
abbrev pub text_goes_on : Scan → Bool
text_goes_on AfterLessSolidus = true
text_goes_on (InDeclaration pending) = true
text_goes_on g = false

abbrev pub begins_less : Scan → Bool
begins_less AfterLess = true
begins_less g = false

abbrev pub stays : Scan → Scan → Bool
stays (At place.Text) g = begins_less g
stays AfterLess g = text_goes_on g
stays (InDeclaration pending) g = text_goes_on g
stays f g = false

-- the reference that is open after a byte that stays as it is, by the scan states before and after it
abbrev pub place_kept : Place → Class → ℕ → Reference → Reference
place_kept place.Text c b r = next_reference r c b
place_kept (place.Rcdata e) c b r = rcdata_open e c b r
place_kept (place.Value v) c b r = next_reference r c b
place_kept p c b r = Closed

abbrev pub scan_kept : Scan → Class → ℕ → Reference → Reference
scan_kept (At p) c b r = place_kept p c b r
scan_kept (InUrl v t z) c b r = next_reference r c b
scan_kept (InStyle v s z) c b r = next_reference r c b
scan_kept (InScript v n z) c b r = next_reference r c b
scan_kept (BeforeType t) c b r = next_reference r c b
scan_kept (InType t q v z) c b r = next_reference r c b
scan_kept f c b r = Closed

abbrev pub reference_kept : Bool → Scan → Class → ℕ → Reference → Reference
reference_kept true f c b r = r
reference_kept false f c b r = scan_kept f c b r

-- a reference after a byte: begun by it, or gone on with
pub record IsReferenceBegun (c : Class) (index : ℕ) (opened : Opened) : Type 0 where
  pub by : c ≡ Ampersand
  pub from : opened.from ≡ index + 1

abbrev pub IsLonger : Option Opened → Opened → Type 0
IsLonger reference opened = IsSomeAnd reference (λ before. opened.from ≡ before.from)

pub record IsReadTo (c : Class) (index : ℕ) (reference : Option Opened) (opened : Opened) : Type 0 where
  pub to : opened.to ≡ index + 1
  pub order : opened.from ≤ index + 1
  pub origin : IsReferenceBegun c index opened ⊎ IsLonger reference opened

abbrev pub Continues : Bool → Class → ℕ → Option Opened → Option Opened → Type 0
Continues true c index reference after = after ≡ reference
Continues false c index reference after = IfSome after (IsReadTo c index reference)

-- a reading of that many bytes of a text
abbrev pub scan_of : List ℕ → ℕ → WriteProgress → Scan
scan_of text index x = scan_at text index x.scan

abbrev pub reference_of : List ℕ → WriteProgress → Reference
reference_of text x = reference_view text x.reference

-- where the reference stands that is pending back
pub record IsPlaced (start index : ℕ) (opened : Opened) : Type 0 where
  pub from : opened.from ≡ start + 1
  pub order : opened.from ≤ opened.to
  pub inside : opened.to ≤ index

-- What has been read, and not been written: what is free to be written as it stands, and then what is pending back.
pub record IsProgressKept (text : List ℕ) (index : ℕ) (x : WriteProgress) : Type 0 where
  pub free : List ℕ
  pub parts : free ++ (as_it_stands (reference_of text x) ++ less_kept (scan_of text index x)) ≡ pending text x.done index
  pub placed : IfSome x.reference (IsPlaced (x.done + length free) index)
  pub named : pending_from x.scan ≤ index
  pub done : x.done ≤ index
  pub closed : bears (scan_of text index x) ≡ false → reference_of text x ≡ Closed
  pub hidden : hides (scan_of text index x) ≡ true → free ≡ []
  pub alone : in_style_comment (scan_of text index x) ≡ true → free ≡ []
  pub letters : list_all is_ascii_alphabetic (end_letters (scan_of text index x)) ≡ true
  pub cut : hides (scan_of text index x) ≡ false → IsCharBoundary text x.done

-- Of a script in its element, without what may be its end tag or a word of a token: what has been read by it, and has not been written.
abbrev pub script_waits : ScriptState → List ℕ
script_waits s = waiting_slash s ++ held_in_line s

-- how many bytes the end of a line has, by its last one
abbrev pub line_end_length_of : ℕ → ℕ
line_end_length_of b = if nat_lt b 128 then 1 else 3

pub record IsScriptKept (text : List ℕ) (index : ℕ) (s : ScriptState) (done : ℕ) : Type 0 where
  pub free : List ℕ
  pub parts : free ++ script_waits s ≡ pending text done index
  pub order : done ≤ index
  pub hidden : is_script_comment s ≡ true → free ≡ []
  pub cut : is_script_comment s ≡ false → IsCharBoundary text done

-- The script has read up to a place, and these bytes were written for what it has read.
pub record ScriptReadsOn (text : List ℕ) (index : ℕ) (s : ScriptState) (done : ℕ) (free written old new : List ℕ) : Type 0 where
  pub kept : IsScriptKept text index s done
  pub bytes : new ++ kept.free ≡ old ++ (free ++ written)

-- Before its end tag, which stands from a place on.
pub record ScriptEnds (text : List ℕ) (index done : ℕ) (free written old new : List ℕ) : Type 0 where
  pub order : done ≤ index
  pub bytes : new ++ pending text done index ≡ old ++ (free ++ written)
  pub cut : IsCharBoundary text done

-- A byte is read, and this was written for it.
pub record ProgressReads (text : List ℕ) (index : ℕ) (x y : WriteProgress) (free old new : List ℕ) : Type 0 where
  pub scan : scan_of text (index + 1) y ≡ scan_next (scan_of text index x) (class_of (get_or text index 0)) (get_or text index 0)
  pub reference : reference_of text y ≡ scan_open (scan_of text index x) (class_of (get_or text index 0)) (get_or text index 0) (reference_of text x)
  pub kept : IsProgressKept text (index + 1) y
  pub bytes : new ++ kept.free ≡ old ++ (free ++ scan_out (scan_of text index x) (class_of (get_or text index 0)) (get_or text index 0) (reference_of text x))

-- what has been read outside of comments may be cut where its text ends, before a `<` that is pending back
pub record IsWriteEnd (text : List ℕ) (index : ℕ) (x : WriteProgress) : Type 0 where
  pub shown : hides (scan_of text index x) ≡ false
  pub cut : IsCharBoundary text (index - length (less_kept (scan_of text index x)))
