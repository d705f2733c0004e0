-- Each step of a script in its element: what is pending goes on, bytes are read, a word of a token is read, or the end tag ends it.
use Rattle.std.proofs.Common.{◌≡◌, Bool, true, false, List, [], ◌∷◌, refl, subst}
use Rattle.std.specs.Prelude.{⊤}
use Rattle.js_lexer.specs.States.{ScriptState}
use Rattle.place_core.specs.page.Contents.{BeginsWord, in_word}
use Rattle.place_core.specs.page.Events.{LexEvent}
use Rattle.place_core.specs.page.States.{Config, Pending, Nothing, PendingLess, LessAtCut, PendingName, PendingBang, PendingBangDash, PendingOpening}
use Rattle.place_core.specs.page.Tags.{ValueState}
use Rattle.place_core.specs.declared.element.Element.{Element}
use Rattle.place_core.specs.declared.element.Element.TheVariants as element
use Rattle.text_norm.proofs.ScriptPages.{less-goes}
use Rattle.text_norm.specs.Standing.{HeldBehind, ScriptComesToNothing, ScriptMayGoOn, StandsInScript, in_script_comment, slash_waits}

-- what is pending behind bytes that are read: nothing, or a `<`
empty-begins : in_word [] ≡ BeginsWord
unfolding in_word
empty-begins = refl

less-begins : in_word (60 ∷ []) ≡ BeginsWord
unfolding in_word
less-begins = refl

abbrev pub OnlyLess : Pending → Type 0
OnlyLess Nothing = ⊤
OnlyLess PendingLess = ⊤
OnlyLess h = ⊥

pub may-go-on : (s : ScriptState) (g : Pending) → OnlyLess g → ScriptMayGoOn element.Script s g
may-go-on s Nothing o = record { element = refl; word = λ n. empty-begins; bytes = refl; goes_on = refl }
may-go-on s PendingLess o = record { element = refl; word = λ n. less-begins; bytes = refl; goes_on = (PendingLess, less-goes element.Script Nothing, refl) }
may-go-on s LessAtCut o = absurd o
may-go-on s (PendingName letters) o = absurd o
may-go-on s PendingBang o = absurd o
may-go-on s PendingBangDash o = absurd o
may-go-on s (PendingOpening letters) o = absurd o

-- More is pending: nothing is written, and the page stays where it is.
abbrev pub IsHeld : Pending → Type 0
IsHeld Nothing = ⊥
IsHeld g = ⊤

held-free : (g held : Pending) (s : ScriptState) → IsHeld g → ScriptComesToNothing g held s
held-free Nothing held s i = absurd i
held-free PendingLess Nothing s i = tt
held-free PendingLess held s i = tt
held-free LessAtCut Nothing s i = tt
held-free LessAtCut held s i = tt
held-free (PendingName letters) Nothing s i = tt
held-free (PendingName letters) held s i = tt
held-free PendingBang Nothing s i = tt
held-free PendingBang held s i = tt
held-free PendingBangDash Nothing s i = tt
held-free PendingBangDash held s i = tt
held-free (PendingOpening letters) Nothing s i = tt
held-free (PendingOpening letters) held s i = tt

not-nothing : (g : Pending) → IsHeld g → g ≡ Nothing → ⊥
not-nothing g i q = subst IsHeld q i

more-held : (e : Element) (s : ScriptState) (h g held : Pending) (c w : Bool) → IsHeld g → HeldBehind c w e h held s → HeldBehind c w e g held s
more-held e s h g held true w i n = n
more-held e s h g held false true i n = (n.0, λ q l. not-nothing g i q)
more-held e s h g held false false i n = held-free g held s i

pub goes-on : (e : Element) (s : ScriptState) (h g : Pending) (t : List LexEvent) (d : Config ValueState) → IsHeld g → StandsInScript e s h t d → StandsInScript e s g t d
goes-on e s h g t d i l = record {
  there = l.there;
  held = l.held;
  told = l.told;
  at = l.at;
  stands = l.stands;
  nothing = more-held e s h g l.held (in_script_comment s) (slash_waits s) i l.nothing;
}
